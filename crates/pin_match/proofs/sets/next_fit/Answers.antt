use Rattle.std.proofs.Common.{ℕ, Bool, MatchOption, sym, subst}
use Rattle.res_base.specs.VarSet.{NoneFrom, IsNext}
use Rattle.pin_match.proofs.SetLemmas.{fits_at}
use Rattle.pin_match.proofs.sets.next_fit.Goals as goal

pub returns : goal.returns
returns c =
    subst (λ (p : ℕ → Bool). MatchOption c.next_from.result (NoneFrom p c.args.from) (λ r. IsNext p c.args.from r)) (sym (fits_at c.args.sets.now c.args.variable c.requires.variable)) c.next_from.ensures
