-- Where the lines of a pin go: along with the signal that was at home there, or away.
use Rattle.std.proofs.Common.{◌≡◌, ℕ, ◌==◌, ◌&&◌, ◌||◌, List, [], ◌∷◌, Bool, true, false, not, cond, Option, Some, None, refl, sym, ap, ◌∙◌, subst, inl, inr, arith}
use Rattle.std.specs.List.{list_all, list_any}
use Rattle.std.proofs.lemmas.Bool.Decides.{nat_tests}
use Rattle.res_base.specs.Lists.{Each, Member, Pairwise}
use Rattle.res_base.proofs.ListLemmas.{each_in}
use Rattle.res_base.proofs.SumLemmas.{bool_cases}
use Rattle.res_model.specs.Placement.{clashes, fits}
use Rattle.res_model.specs.declared.project.Signal.{Signal}
use Rattle.res_model.specs.declared.table.PinUse.{PinUse}
use Rattle.res_model.specs.declared.table.TableParts.{TableParts}
use Rattle.ioc_project.specs.Project.{is_some_of}
use Rattle.ioc_lines.specs.Standing.{HomesApart}
use Rattle.ioc_write.specs.WriteBack.{fate_by, fate_of, home_use}
use Rattle.ioc_write.specs.declared.fate.Fate.TheVariants as fate

-- a signal and its use in the choice
abbrev pub Move : Type 0
Move = Signal × PinUse

abbrev pub moves : List Signal → List PinUse → List Move
moves [] us = []
moves (s ∷ ss) [] = []
moves (s ∷ ss) (u ∷ us) = (s, u) ∷ moves ss us

abbrev pub UsesApart : PinUse → PinUse → Type 0
UsesApart u w = (u.pin ≡ w.pin) → ⊥

abbrev pub PinsApart : Move → Move → Type 0
PinsApart a b = UsesApart a.1 b.1

abbrev pub FromApart : Move → Move → Type 0
FromApart a b = HomesApart a.0 b.0

-- ---- no two signals have one pin, neither before nor after

no_clash : (t : TableParts) (u : PinUse) (us : List PinUse) → list_all (λ (w : PinUse). not (clashes t u w)) us ≡ true → Each (UsesApart u) us
no_clash t u [] e = tt
no_clash t u (w ∷ ws) e = elim (bool_cases (u.pin == w.pin)) [
  | inl y ↦ let off : false ≡ true = rw y at e in absurd cc
  | inr n ↦ (λ same. (let yes : (u.pin == w.pin) ≡ true = grind (arith, nat_tests) in absurd cc), no_clash t u ws (rest (not (clashes t u w)) e))
]
  where
    rest : (b : Bool) → b && list_all (λ (w : PinUse). not (clashes t u w)) ws ≡ true → list_all (λ (w : PinUse). not (clashes t u w)) ws ≡ true
    rest true h = h
    rest false h = absurd cc

both_true : (a b : Bool) → a && b ≡ true → (a ≡ true) × (b ≡ true)
both_true true b e = (refl, e)
both_true false b e = absurd cc

pub uses_apart : (t : TableParts) (us : List PinUse) → fits t us ≡ true → Pairwise UsesApart us
uses_apart t [] e = tt
uses_apart t (u ∷ us) e = let b = both_true (list_all (λ (w : PinUse). not (clashes t u w)) us) (fits t us) e in (no_clash t u us b.0, uses_apart t us b.1)

pins_each : (s : Signal) (u : PinUse) (ss : List Signal) (us : List PinUse) → Each (UsesApart u) us → Each (PinsApart (s, u)) (moves ss us)
pins_each s u [] us h = tt
pins_each s u (x ∷ xs) [] h = tt
pins_each s u (x ∷ xs) (w ∷ ws) h = (h.0, pins_each s u xs ws h.1)

pub pins_apart : (ss : List Signal) (us : List PinUse) → Pairwise UsesApart us → Pairwise PinsApart (moves ss us)
pins_apart [] us h = tt
pins_apart (s ∷ ss) [] h = tt
pins_apart (s ∷ ss) (u ∷ us) h = (pins_each s u ss us h.0, pins_apart ss us h.1)

from_each : (s : Signal) (u : PinUse) (ss : List Signal) (us : List PinUse) → Each (HomesApart s) ss → Each (FromApart (s, u)) (moves ss us)
from_each s u [] us h = tt
from_each s u (x ∷ xs) [] h = tt
from_each s u (x ∷ xs) (w ∷ ws) h = (h.0, from_each s u xs ws h.1)

pub from_apart : (ss : List Signal) (us : List PinUse) → Pairwise HomesApart ss → Pairwise FromApart (moves ss us)
from_apart [] us h = tt
from_apart (s ∷ ss) [] h = tt
from_apart (s ∷ ss) (u ∷ us) h = (from_each s u ss us h.0, from_apart ss us h.1)

unique : {X : Type 0} (R : X → X → Type 0) (xs : List X) → Pairwise R xs → (a b : X) → Member a xs → Member b xs → (R a b → ⊥) → (R b a → ⊥) → a ≡ b
unique R [] h a b m n f g = absurd m
unique R (x ∷ xs) h a b (inl e) (inl d) f g = e ∙ sym d
unique R (x ∷ xs) h a b (inl e) (inr n) f g = absurd (f (subst (λ y. R y b) (sym e) (each_in (R x) b xs h.0 n)))
unique R (x ∷ xs) h a b (inr m) (inl d) f g = absurd (g (subst (λ y. R y a) (sym d) (each_in (R x) a xs h.0 m)))
unique R (x ∷ xs) h a b (inr m) (inr n) f g = unique R xs h.1 a b m n f g

-- ---- homes and fates

home_is : (o : Option ℕ) (pin : ℕ) → is_some_of o pin ≡ true → o ≡ Some pin
home_is None pin e = absurd cc
home_is (Some h) pin e = let same : h ≡ pin = grind (arith, nat_tests) in ap Some same

is_home : (o : Option ℕ) (pin : ℕ) → o ≡ Some pin → is_some_of o pin ≡ true
is_home None pin e = absurd cc
is_home (Some h) pin e = let same : h ≡ pin = cc in grind (arith, nat_tests)

-- the signal of a use at a home
pub record ComesFrom (ss : List Signal) (us : List PinUse) (pin : ℕ) (u : PinUse) : Type 0 where
  pub signal : Signal
  pub member : Member (signal, u) (moves ss us)
  pub home : signal.home ≡ Some pin

comes_from : (ss : List Signal) (us : List PinUse) (pin : ℕ) (u : PinUse) → home_use ss us pin ≡ Some u → ComesFrom ss us pin u
comes_from [] us pin u e = absurd cc
comes_from (s ∷ ss) [] pin u e = absurd cc
comes_from (s ∷ ss) (w ∷ us) pin u e = elim (bool_cases (is_some_of s.home pin)) [
  | inl y ↦
      let f : Some w ≡ Some u = rw y at e in
      let same : u ≡ w = cc in
      record { signal = s; member = inl (ap (λ (x : PinUse). (s, x)) same); home = home_is s.home pin y }
  | inr n ↦
      let f : home_use ss us pin ≡ Some u = rw n at e in
      let r = comes_from ss us pin u f in
      record { signal = r.signal; member = inr r.member; home = r.home }
]

use_at_home : (ss : List Signal) (us : List PinUse) (m : Move) (pin : ℕ) → Pairwise FromApart (moves ss us) → Member m (moves ss us) → m.0.home ≡ Some pin → home_use ss us pin ≡ Some m.1
use_at_home [] us m pin d i e = absurd i
use_at_home (s ∷ ss) [] m pin d i e = absurd i
use_at_home (s ∷ ss) (u ∷ us) m pin d (inl q) e =
    let home : s.home ≡ Some pin = ap (λ (x : Move). x.0.home) (sym q) ∙ e in
    let y = is_home s.home pin home in
    rw y (ap (λ (x : Move). Some x.1) (sym q))
use_at_home (s ∷ ss) (u ∷ us) m pin d (inr i) e = elim (bool_cases (is_some_of s.home pin)) [
  | inl y ↦ absurd (each_in (FromApart (s, u)) m (moves ss us) d.0 i pin (home_is s.home pin y) e)
  | inr n ↦ rw n (use_at_home ss us m pin d.1 i e)
]

module _ (ss : List Signal) (us : List PinUse) (pins : Pairwise PinsApart (moves ss us)) (homes : Pairwise FromApart (moves ss us)) where
  -- whoever moves to a pin from another
  pub record GoesTo (pin q : ℕ) : Type 0 where
    pub move : Move
    pub member : Member move (moves ss us)
    pub home : move.0.home ≡ Some pin
    pub goes : move.1.pin ≡ q
    pub away : (q ≡ pin) → ⊥

  by_use : (pin q : ℕ) (o : Option PinUse) → home_use ss us pin ≡ o → fate_by us pin o ≡ fate.Moved q → GoesTo pin q
  by_use pin q None h e = elim (bool_cases (list_any (λ (u : PinUse). u.pin == pin) us)) [
    | inl y ↦ let f : fate.Taken ≡ fate.Moved q = rw y at e in absurd cc
    | inr n ↦ let f : fate.Kept ≡ fate.Moved q = rw n at e in absurd cc
  ]
  by_use pin q (Some u) h e = elim (bool_cases (u.pin == pin)) [
    | inl y ↦ let f : fate.Kept ≡ fate.Moved q = rw y at e in absurd cc
    | inr n ↦
        let f : fate.Moved u.pin ≡ fate.Moved q = rw n at e in
        let same : u.pin ≡ q = cc in
        let r = comes_from ss us pin u h in
        record {
          move = (r.signal, u);
          member = r.member;
          home = r.home;
          goes = same;
          away = λ d. (let yes : (u.pin == pin) ≡ true = (let is : u.pin ≡ pin = same ∙ d in grind (arith, nat_tests)) in absurd cc);
        }
  ]

  pub moved_by : (pin q : ℕ) → fate_of ss us pin ≡ fate.Moved q → GoesTo pin q
  unfolding fate_of
  moved_by pin q e = by_use pin q (home_use ss us pin) refl e

  same_by_pin : (a b : Move) → Member a (moves ss us) → Member b (moves ss us) → a.1.pin ≡ b.1.pin → a ≡ b
  same_by_pin a b i j e = unique PinsApart (moves ss us) pins a b i j (λ r. r e) (λ r. r (sym e))

  -- a signal goes from its home to its pin
  pub goes_to : (m : Move) (pin : ℕ) → Member m (moves ss us) → m.0.home ≡ Some pin → fate_of ss us pin ≡ cond (m.1.pin == pin) fate.Kept (fate.Moved m.1.pin)
  unfolding fate_of
  goes_to m pin i e = ap (fate_by us pin) (use_at_home ss us m pin homes i e)

  any_use : (rest : List Signal) (others : List PinUse) (m : Move) → Member m (moves rest others) → list_any (λ (u : PinUse). u.pin == m.1.pin) others ≡ true
  any_use [] others m i = absurd i
  any_use (s ∷ rest) [] m i = absurd i
  any_use (s ∷ rest) (u ∷ others) m (inl e) =
      let same : u.pin ≡ m.1.pin = ap (λ (x : Move). x.1.pin) (sym e) in
      let yes : (u.pin == m.1.pin) ≡ true = grind (arith, nat_tests) in
      rw yes refl
  any_use (s ∷ rest) (u ∷ others) m (inr i) = or_right (u.pin == m.1.pin) (list_any (λ (w : PinUse). w.pin == m.1.pin) others) (any_use rest others m i)
    where
      or_right : (a b : Bool) → b ≡ true → a || b ≡ true
      or_right true b e = refl
      or_right false b e = e

  kept_by : (q : ℕ) (m : Move) (o : Option PinUse) → home_use ss us q ≡ o → Member m (moves ss us) → m.1.pin ≡ q → fate_by us q o ≡ fate.Kept → m.0.home ≡ Some q
  kept_by q m None h i g e =
      let yes : list_any (λ (u : PinUse). u.pin == q) us ≡ true = subst (λ (n : ℕ). list_any (λ (u : PinUse). u.pin == n) us ≡ true) g (any_use ss us m i) in
      let f : fate.Taken ≡ fate.Kept = rw yes at e in
      absurd cc
  kept_by q m (Some u) h i g e = elim (bool_cases (u.pin == q)) [
    | inl y ↦
        let r = comes_from ss us q u h in
        let is : u.pin ≡ q = grind (arith, nat_tests) in
        let same : m ≡ (r.signal, u) = same_by_pin m (r.signal, u) i r.member (g ∙ sym is) in
        ap (λ (x : Move). x.0.home) same ∙ r.home
    | inr n ↦ let f : fate.Moved u.pin ≡ fate.Kept = rw n at e in absurd cc
  ]

  -- where the lines of a pin stay to which a signal goes, it was at home there
  pub kept_home : (q : ℕ) (m : Move) → Member m (moves ss us) → m.1.pin ≡ q → fate_of ss us q ≡ fate.Kept → m.0.home ≡ Some q
  unfolding fate_of
  kept_home q m i g e = kept_by q m (home_use ss us q) refl i g e

  -- whoever goes to one pin comes from one home
  pub one_home : (a b : Move) → Member a (moves ss us) → Member b (moves ss us) → a.1.pin ≡ b.1.pin → a.0.home ≡ b.0.home
  one_home a b i j e = ap (λ (x : Move). x.0.home) (same_by_pin a b i j e)
