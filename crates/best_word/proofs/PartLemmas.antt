-- How the parts of the views go on.
use Rattle.std.proofs.Common.{◌≡◌, ◌≢◌, ℕ, zero, suc, ◌+◌, ◌-◌, ◌≤◌, List, [], ◌∷◌, ◌++◌, set, sym, refl, ap, ◌∙◌, subst, ⊎_elim, arith}
use mathlib.Core.Option.{some, some-ne-none, some-injective}
use lib.ListN.{get_elem?}
use mathlib.Core.Logic.{dite}
use native.Mathlib.Decide.{ℕ_discrete}
use Rattle.atomic_table.proofs.Lists.{at_set, at_snoc, at_longer, set_else}
use Rattle.best_word.specs.declared.part.Part.{Part}
use Rattle.best_word.specs.declared.part.Part.TheVariants.{First, Other, Spent}
use Rattle.best_word.specs.Parts.{others, OneFirst}
use Rattle.res_base.specs.Lists.{total}
use Rattle.res_base.proofs.ListLemmas.{total_set, total_snoc, total_only, total_most, zero_each}

-- a fact of each view but one, and of the new one there, is a fact of each
pub each_set : {V : Type 0} (F : ℕ → V → Type 0) (views : List V) (port : ℕ) (w : V) → F port w → ((j : ℕ) (u : V) → j ≢ port → get_elem? views j ≡ some u → F j u) → (j : ℕ) (u : V) → get_elem? (set views port w) j ≡ some u → F j u
each_set {V} F views port w mine rest j u e = ⊎_elim (λ (x : (j ≡ port) × (w ≡ u)). subst (λ (y : ℕ × V). F y.0 y.1) (λ i. (sym x.0 i, x.1 i)) mine)
    (λ (x : (j ≢ port) × (get_elem? views j ≡ some u)). rest j u x.0 x.1) (at_set views port j w u e)

pub each_snoc : {V : Type 0} (F : V → Type 0) (views : List V) (w : V) → F w → ((j : ℕ) (u : V) → get_elem? views j ≡ some u → F u) → (j : ℕ) (u : V) → get_elem? (views ++ w ∷ []) j ≡ some u → F u
each_snoc F views w mine rest j u e = ⊎_elim (λ x. rest j u x) (λ (x : w ≡ u). subst F x mine) (at_snoc views w u j e)

pub set_at : {A : Type 0} (l : List A) (i : ℕ) (a b : A) → get_elem? l i ≡ some b → get_elem? (set l i a) i ≡ some a
set_at [] i a b e = absurd (some-ne-none b (sym e))
set_at (x ∷ xs) zero a b e = refl
set_at (x ∷ xs) (suc i) a b e = set_at xs i a b e

pub first-other : First ≢ Other
first-other e = cc

pub first-spent : First ≢ Spent
first-spent e = cc

module _ {V : Type 0} (part : V → Part) (out : V → ℕ) where
  abbrev IsThere : List V → ℕ → Type 0
  IsThere views seat = (v : V) × (get_elem? views seat ≡ some v) × (part v ≡ First)

  pub begins : (v : V) → part v ≡ First → out v ≡ 0 → OneFirst part out (v ∷ [])
  begins v is none = record {
    seat = 0;
    there = (v, refl, is);
    one = one_of;
    only = only_of;
    count = let p : others (part v) ≡ 0 = ap others is in omega arith;
  }
    where
      one_of : (port : ℕ) (u : V) → get_elem? (v ∷ []) port ≡ some u → part u ≡ First → port ≡ 0
      one_of zero u e f = refl
      one_of (suc k) u e f = absurd (some-ne-none u (sym e))

      only_of : (port : ℕ) (u : V) → get_elem? (v ∷ []) port ≡ some u → part u ≢ First → out u ≡ 0
      only_of zero u e f = absurd (f (subst (λ (x : V). part x ≡ First) (some-injective v u e) is))
      only_of (suc k) u e f = absurd (some-ne-none u (sym e))

  -- the first view is still there, where a view that was first becomes one that is
  stays : (views : List V) (port : ℕ) (v w : V) → get_elem? views port ≡ some v → (part v ≡ First → part w ≡ First) → (seat : ℕ) → IsThere views seat → IsThere (set views port w) seat
  stays views port v w at f seat k = dite (ℕ_discrete seat port)
      (λ e.
      let same : v ≡ k.0 = some-injective v k.0 (sym at ∙ (sym (ap (λ p. get_elem? views p) e) ∙ k.1)) in
      (w, ap (λ p. get_elem? (set views port w) p) e ∙ set_at views port w v at, f (ap part same ∙ k.2)))
      (λ n. (k.0, set_else views port seat w n ∙ k.1, k.2))

  -- a step that leaves a view's part
  pub keeps : (views : List V) (port : ℕ) (v w : V) → get_elem? views port ≡ some v → part w ≡ part v → out w ≡ out v → OneFirst part out views → OneFirst part out (set views port w)
  keeps views port v w at same none h = record {
    seat = h.seat;
    there = stays views port v w at (λ f. same ∙ f) h.seat h.there;
    one = each_set (λ j u. part u ≡ First → j ≡ h.seat) views port w (λ f. h.one port v at (sym same ∙ f)) (λ j u n e. h.one j u e);
    only = each_set (λ j u. part u ≢ First → out u ≡ 0) views port w (λ f. none ∙ h.only port v at (λ g. f (same ∙ g))) (λ j u n e. h.only j u e);
    count = let a = total_set (λ u. others (part u)) views port v w at in let b = total_set out views port v w at in let c : others (part w) ≡ others (part v) = ap others same in let d = h.count in omega arith;
  }

  -- the others, while the first view is there
  pub out_of_first : (views : List V) (port : ℕ) (v : V) → get_elem? views port ≡ some v → part v ≡ First → OneFirst part out views → total out views ≡ out v
  out_of_first views port v at is h = total_only out views port v at (λ j u n e. h.only j u e (λ f. n (h.one j u e f ∙ sym (h.one port v at is))))

  pub splits : (views : List V) (port : ℕ) (v left right : V) → get_elem? views port ≡ some v → part v ≡ First → part left ≡ First → out left ≡ out v + 1 → part right ≡ Other → out right ≡ 0 → OneFirst part out views → OneFirst part out (set views port left ++ right ∷ [])
  splits views port v left right at is l more r none h = record {
    seat = h.seat;
    there = let k = stays views port v left at (λ f. l) h.seat h.there in (k.0, at_longer (set views port left) (right ∷ []) h.seat k.0 k.1, k.2);
    one = λ j u e. ⊎_elim (λ (x : get_elem? (set views port left) j ≡ some u). each_set (λ i y. part y ≡ First → i ≡ h.seat) views port left (λ f. h.one port v at is) (λ i y n q. h.one i y q) j u x)
        (λ (x : right ≡ u) f. absurd (first-other (sym f ∙ ap part (sym x) ∙ r))) (at_snoc (set views port left) right u j e);
    only = each_snoc (λ u. part u ≢ First → out u ≡ 0) (set views port left) right (λ f. none) (each_set (λ j u. part u ≢ First → out u ≡ 0) views port left (λ f. absurd (f l)) (λ j u n e. h.only j u e));
    count =
        let a = total_set (λ u. others (part u)) views port v left at in let b = total_set out views port v left at in
        let c : others (part left) ≡ 0 = ap others l in let d : others (part v) ≡ 0 = ap others is in let f : others (part right) ≡ 1 = ap others r in
        let s = total_snoc (λ u. others (part u)) (set views port left) right in let t = total_snoc out (set views port left) right in let k = h.count in omega arith;
  }

  -- where one view is out, the first counts it
  pub counts : (views : List V) (port other : ℕ) (v u : V) → get_elem? views port ≡ some v → part v ≡ First → get_elem? views other ≡ some u → part u ≡ Other → OneFirst part out views → 1 ≤ out v
  counts views port other v u at is there o h =
      let a = out_of_first views port v at is h in let b = total_most (λ y. others (part y)) views other u there (total (λ y. others (part y)) views) refl in
      let c : others (part u) ≡ 1 = ap others o in let d = h.count in let k : ℕ = b.0 in let e : others (part u) + k ≡ total (λ y. others (part y)) views = b.1 in omega arith

  pub joins : (views : List V) (port other : ℕ) (v u both spent : V) → get_elem? views port ≡ some v → part v ≡ First → (other ≡ port → ⊥) → get_elem? (set views port both) other ≡ some u → part u ≡ Other
      → part both ≡ First → out both ≡ out v - 1 → part spent ≡ Spent → out spent ≡ 0 → OneFirst part out views → OneFirst part out (set (set views port both) other spent)
  joins views port other v u both spent at is apart there o b less s none h = record {
    seat = h.seat;
    there = stays (set views port both) other u spent there (λ f. absurd (first-other (sym f ∙ o))) h.seat (stays views port v both at (λ f. b) h.seat h.there);
    one = each_set (λ j y. part y ≡ First → j ≡ h.seat) (set views port both) other spent (λ f. absurd (first-spent (sym f ∙ s)))
        (λ j y _ e. each_set (λ i y. part y ≡ First → i ≡ h.seat) views port both (λ f. h.one port v at is) (λ i y n q. h.one i y q) j y e);
    only = each_set (λ j y. part y ≢ First → out y ≡ 0) (set views port both) other spent (λ f. none)
        (λ j y _ e. each_set (λ j y. part y ≢ First → out y ≡ 0) views port both (λ f. absurd (f b)) (λ j y n e. h.only j y e) j y e);
    count =
        let was : get_elem? views other ≡ some u = ⊎_elim (λ (x : (other ≡ port) × (both ≡ u)). absurd (apart x.0)) (λ (x : (other ≢ port) × (get_elem? views other ≡ some u)). x.1) (at_set views port other both u there) in
        let low = counts views port other v u at is was o h in
        let a1 = total_set (λ y. others (part y)) views port v both at in let a2 = total_set out views port v both at in
        let b1 = total_set (λ y. others (part y)) (set views port both) other u spent there in let b2 = total_set out (set views port both) other u spent there in
        let c1 : others (part both) ≡ 0 = ap others b in let c2 : others (part v) ≡ 0 = ap others is in let c3 : others (part u) ≡ 1 = ap others o in let c4 : others (part spent) ≡ 0 = ap others s in
        let z : out u ≡ 0 = h.only other u was (λ f. first-other (sym f ∙ o)) in
        let k = h.count in omega arith;
  }

  -- a first view that has none out is alone
  pub alone : (views : List V) (port : ℕ) (v : V) → get_elem? views port ≡ some v → part v ≡ First → out v ≡ 0 → OneFirst part out views → (j : ℕ) (u : V) → j ≢ port → get_elem? views j ≡ some u → part u ≡ Spent
  alone views port v at is none h j u n e =
      let z : total (λ y. others (part y)) views ≡ 0 = h.count ∙ out_of_first views port v at is h ∙ none in
      case (part u) (λ f. n (h.one j u e f ∙ sym (h.one port v at is))) (zero_each (λ y. others (part y)) views z j u e)
    where
      case : (p : Part) → p ≢ First → others p ≡ 0 → p ≡ Spent
      case First f q = absurd (f refl)
      case Other f q = absurd (omega arith)
      case Spent f q = refl
