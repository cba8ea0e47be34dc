-- Lists of ends, after a change of one.
use Rattle.std.proofs.Common.{◌≡◌, ℕ, zero, suc, List, [], ◌∷◌, map, set, sym, refl, ap, ◌∙◌, subst}
use mathlib.Core.Option.{some, some-ne-none, some-injective}
use lib.ListN.{get_elem?}
use Rattle.res_base.specs.Lists.{Each}

module _ {X : Type 0} (P : X → Type 0) where
  pub each_put : (xs : List X) (k : ℕ) (y : X) → P y → Each P xs → Each P (set xs k y)
  each_put [] k y p e = tt
  each_put (x ∷ xs) zero y p e = (p, e.1)
  each_put (x ∷ xs) (suc k) y p e = (e.0, each_put xs k y p e.1)

  pub each_at : (xs : List X) (k : ℕ) (x : X) → get_elem? xs k ≡ some x → Each P xs → P x
  each_at [] k x at e = absurd (some-ne-none x (sym at))
  each_at (y ∷ ys) zero x at e = subst P (some-injective y x at) e.0
  each_at (y ∷ ys) (suc k) x at e = each_at ys k x at e.1

pub map_put : {X Y : Type 0} (f : X → Y) (xs : List X) (k : ℕ) (x y : X) → get_elem? xs k ≡ some x → f y ≡ f x → map f (set xs k y) ≡ map f xs
map_put f [] k x y at e = refl
map_put f (z ∷ zs) zero x y at e = ap (λ t. t ∷ map f zs) (e ∙ ap f (sym (some-injective z x at)))
map_put f (z ∷ zs) (suc k) x y at e = ap (λ t. f z ∷ t) (map_put f zs k x y at e)
