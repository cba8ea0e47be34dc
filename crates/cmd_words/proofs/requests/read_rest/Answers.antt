use Rattle.std.proofs.Common.{◌≡◌, ◌∙◌, Global, List, String, ℕ, ap, drop, map, subst, sym, take}
use Rattle.std.proofs.lemmas.List.{drop-map, take-map}
use Rattle.std.specs.Prelude.{string_bytes}
use Rattle.refusal.specs.Refusals.{Gives}
use Rattle.cmd_words.specs.Words.{names_before, requested}
use Rattle.cmd_words.proofs.requests.read_rest.Goals as goal

pub returns-clause-gives : goal.returns-clause-gives
returns-clause-gives c =
    let words = c.args.words.now in
    let seen : List (List ℕ) = map string_bytes words in
    let n = c.names_before-count.result in
    let first : map string_bytes (take n words) ≡ take (names_before seen) seen = sym (take-map string_bytes n words) ∙ ap (λ (k : ℕ). take k seen) c.names_before-count.ensures.count in
    let rest : map string_bytes (drop n words) ≡ drop (names_before seen) seen = sym (drop-map string_bytes n words) ∙ ap (λ (k : ℕ). drop k seen) c.names_before-count.ensures.count in
    subst (λ (rs : List (List ℕ)). Gives (λ x. x) c.read_requests.result (requested c.args.tables.now rs (drop (names_before seen) seen))) first
    (subst (λ (ws : List (List ℕ)). Gives (λ x. x) c.read_requests.result (requested c.args.tables.now (map string_bytes (take n words)) ws)) rest
    (subst (λ (ws : List (String Global)). Gives (λ x. x) c.read_requests.result (requested c.args.tables.now (map string_bytes (take n words)) (map string_bytes ws))) c.words_from.ensures c.read_requests.ensures.gives))
