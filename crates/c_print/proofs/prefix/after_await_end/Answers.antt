use Rattle.std.proofs.Common.{◌≡◌, ◌≢◌, List, ℕ, ◌++◌, subst}
use Rattle.std.specs.Prelude.{MatchOption}
use Rattle.std.proofs.lemmas.Bool.Decides.{Decides-eqb}
use Rattle.std.proofs.lemmas.Slice.Eq.{strip_prefix_is}
use Rattle.c_print.proofs.prefix.after_await_end.Goals as goal

pub returns : goal.returns
returns c =
    let text = c.args.text.now in
    subst (λ (p : List ℕ). MatchOption c.strip_prefix.result ((rest : List ℕ) → text ≢ p ++ rest) (λ x. text ≡ p ++ x.now)) c.await_end.ensures
    (strip_prefix_is Decides-eqb text c.await_end.result.now c.strip_prefix.result c.strip_prefix.ensures.cases)
