use Rattle.std.proofs.Common.{◌≤◌, length, ℕ, List, false, subst, sym}
use Rattle.std.proofs.lemmas.Result.{IfOk-weaker}
use Rattle.problem.proofs.ValueLemmas.{few_values}
use Rattle.problem.proofs.clocks.values_with.Goals as goal

pub returns-then-not-fixed-clause-small : goal.returns-then-not-fixed-clause-small
returns-then-not-fixed-clause-small c =
    IfOk-weaker c.home_first.result _ _ (λ v e. subst (λ (l : List ℕ). length l ≤ 512) (sym e) (few_values false c.args.home c.args.domain.now c.requires.small)) c.home_first.ensures
