-- A refusal whose fault is known.
use Rattle.std.proofs.Common.{◌≡◌, Result, Err, subst}
use Rattle.refusal.specs.Refusals.{IfFault, Refuses}
use Rattle.refusal.specs.declared.refusal.Refusal.{Refusal}
use Rattle.refusal.specs.declared.refusal.Refusal.TheVariants.{Fault}

module _ {F : Type 0} where
  -- what holds of the fault of a refusal holds of what that fault is
  pub fault_is : (P : F → Type 0) (e : Refusal F) (f g : F) → e ≡ Fault f → f ≡ g → IfFault e P → P g
  fault_is P e f g is same h = subst P same (subst (λ (r : Refusal F). IfFault r P) is h)

  -- the definition refuses with the fault of a refusal, so with what that fault is
  pub refuses_with : {Y : Type 0} (read : Result Y F) (e : Refusal F) (f g : F) → e ≡ Fault f → f ≡ g → Refuses e read → read ≡ Err g
  refuses_with {Y} read e f g is same h = subst (λ (x : F). read ≡ Err x) same (subst (λ (r : Refusal F). Refuses r read) is h)
