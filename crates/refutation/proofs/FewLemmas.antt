-- A text has at least as many bytes as nodes are read from it.
use Rattle.std.proofs.Common.{◌≡◌, ℕ, suc, ◌≤◌, List, [], ◌∷◌, ◌++◌, length, Option, ap, arith}
use Rattle.std.specs.Prelude.{Ok, codes}
use Rattle.std.proofs.lemmas.List.{length-append}
use Rattle.refutation.specs.Forms.{Form}
use Rattle.refutation.specs.Reading.{proof_of}
use Rattle.refutation.specs.Spelling.{form_text, bound_text, forms_text, lines_text, spelling}
use Rattle.refutation.proofs.ConverseLemmas.{read_back}

behind : (n : ℕ) (xs ys : List ℕ) → n ≤ length ys → n ≤ length (xs ++ ys)
behind n xs ys h = omega (arith, length-append xs ys, h)

before : (n : ℕ) (xs ys : List ℕ) → n ≤ length xs → n ≤ length (xs ++ ys)
before n xs ys h = omega (arith, length-append xs ys, h)

one_more : (n c : ℕ) (xs : List ℕ) → n ≤ length xs → n ≤ length (c ∷ xs)
one_more n c xs h = omega (arith, h)

forms_long : (forms : List Form) → length forms ≤ length (forms_text forms)
forms_long [] = omega arith
forms_long (f ∷ fs) = behind (suc (length fs)) (form_text f) (10 ∷ forms_text fs) (omega (arith, forms_long fs))

spelling_long : (bound : Option ℕ) (forms : List Form) → length forms ≤ length (spelling bound forms)
unfolding spelling
spelling_long bound forms =
    let n = length forms in
    let last = codes "end" ++ 10 ∷ [] in
    let nodes = forms_text forms ++ last in
    let rest = bound_text bound ++ 10 ∷ nodes in
    behind n (codes "proof 1") (10 ∷ rest) (one_more n 10 rest (behind n (bound_text bound) (10 ∷ nodes) (one_more n 10 nodes (before n (forms_text forms) last (forms_long forms)))))

pub few_nodes : (text : List ℕ) (bound : Option ℕ) (forms : List Form) → proof_of text ≡ Ok (bound, forms) → length forms ≤ length text
few_nodes text bound forms e =
    let s = read_back text bound forms e in
    let long = behind (length forms) (lines_text s.before) (spelling bound forms) (spelling_long bound forms) in
    omega (arith, long, ap length s.text_is)
