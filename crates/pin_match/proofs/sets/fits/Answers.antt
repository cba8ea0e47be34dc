use Rattle.std.proofs.Common.{◌≡◌, ℕ, Bool, sym, subst}
use Rattle.pin_match.proofs.SetLemmas.{fits_at}
use Rattle.pin_match.proofs.sets.fits.Goals as goal

pub returns : goal.returns
returns c =
    subst (λ (p : ℕ → Bool). c.has.result ≡ p c.args.resource) (sym (fits_at c.args.sets.now c.args.variable c.requires.variable)) c.has.ensures
