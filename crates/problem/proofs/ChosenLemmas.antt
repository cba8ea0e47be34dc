-- What a choice makes of the variables: each position has a value, and the clocks are in range.
use Rattle.std.proofs.Common.{◌≡◌, ◌≢◌, ℕ, zero, suc, ◌+◌, ◌<◌, ◌≤◌, ◌++◌, List, [], ◌∷◌, length, get_or, set, take, drop, length-drop, get_or-drop, append_assoc, append-nil, Option, Some, refl, sym, subst, ap, ◌∙◌, arith}
use Rattle.std.specs.Prelude.{slice_get, slice_index, slice_index_or}
use Rattle.std.specs.Option.{option_to_list}
use Rattle.std.proofs.lemmas.List.{drop_all, take_more_set}
use Rattle.res_base.proofs.ListLemmas.{each_in}
use Rattle.res_base.specs.Lists.{Each, Member}
use Rattle.choice_rank.proofs.ChoiceLemmas.{choice_drop, choice_length}
use Rattle.choice_rank.specs.Choices.{IsChoice}
use Rattle.choice_rank.specs.declared.variable.VarShape.{VarShape}
use Rattle.res_model.specs.Clock.{IsBetween, IsInRange, IsOscillator}
use Rattle.res_model.specs.Placement.{uses_at}
use Rattle.clock_limits.specs.Ranges.{values_at}
use Rattle.res_model.specs.Valid.{IsValid}
use Rattle.res_model.specs.declared.table.PinUse.{PinUse}
use Rattle.problem.specs.declared.parts.ProblemParts.{ProblemParts}
use Rattle.problem.specs.ClockValues.{clock_at, clock_domains, clock_value}
use Rattle.problem.specs.Meets.{places_of, use_of}
use Rattle.problem.specs.Problem.{AreFrom, HaveValues, IsProblem}
use Rattle.problem.proofs.ValueLemmas.{domains_in, spans, within_at}
use Rattle.res_model.specs.ClockValues.{source_of}

-- ---- positions

-- each position has a value
pub inside : {X : Type 0} (vs : List VarShape) (vss : List (List X)) (at : List ℕ) → HaveValues vs vss → IsChoice vs at → (k : ℕ) → k < length vss → get_or at k 0 < length (get_or vss k [])
inside [] [] at h c k l = absurd (omega (arith, l))
inside [] (x ∷ xs) at h c k l = absurd h
inside (v ∷ vs) [] at h c k l = absurd h
inside (v ∷ vs) (x ∷ xs) [] h c k l = absurd c
inside (v ∷ vs) (x ∷ xs) (a ∷ bs) h c zero l = omega (arith, h.0, c.0)
inside (v ∷ vs) (x ∷ xs) (a ∷ bs) h c (suc k) l = inside vs xs bs h.1 c.1 k (omega (arith, l))

-- the same of values of the first variables
inside_prefix : (n : ℕ) (vs : List VarShape) (vss : List (List ℕ)) (at : List ℕ) → HaveValues (take n vs) vss → IsChoice vs at → (k : ℕ) → k < length vss → get_or at k 0 < length (get_or vss k [])
inside_prefix zero vs [] at h c k l = absurd (omega (arith, l))
inside_prefix zero vs (x ∷ xs) at h c k l = absurd h
inside_prefix (suc n) [] [] at h c k l = absurd (omega (arith, l))
inside_prefix (suc n) [] (x ∷ xs) at h c k l = absurd h
inside_prefix (suc n) (v ∷ vs) [] at h c k l = absurd h
inside_prefix (suc n) (v ∷ vs) (x ∷ xs) [] h c k l = absurd c
inside_prefix (suc n) (v ∷ vs) (x ∷ xs) (a ∷ bs) h c zero l = omega (arith, h.0, c.0)
inside_prefix (suc n) (v ∷ vs) (x ∷ xs) (a ∷ bs) h c (suc k) l = inside_prefix n vs xs bs h.1 c.1 k (omega (arith, l))

prefix_long : (n : ℕ) (vs : List VarShape) (vss : List (List ℕ)) (at : List ℕ) → HaveValues (take n vs) vss → IsChoice vs at → length vss ≤ length at
prefix_long zero vs [] at h c = omega arith
prefix_long zero vs (x ∷ xs) at h c = absurd h
prefix_long (suc n) [] [] at h c = omega arith
prefix_long (suc n) [] (x ∷ xs) at h c = absurd h
prefix_long (suc n) (v ∷ vs) [] at h c = absurd h
prefix_long (suc n) (v ∷ vs) (x ∷ xs) [] h c = absurd c
prefix_long (suc n) (v ∷ vs) (x ∷ xs) (a ∷ bs) h c = omega (arith, prefix_long n vs xs bs h.1 c.1)

as_many : {X : Type 0} (vs : List VarShape) (vss : List (List X)) → HaveValues vs vss → length vs ≡ length vss
as_many [] [] h = refl
as_many [] (x ∷ xs) h = absurd h
as_many (v ∷ vs) [] h = absurd h
as_many (v ∷ vs) (x ∷ xs) h = ap suc (as_many vs xs h.1)

each_at : (P : ℕ → Type 0) (xs : List ℕ) (i : ℕ) → Each P xs → i < length xs → P (get_or xs i 0)
each_at P [] i h l = absurd (omega (arith, l))
each_at P (x ∷ xs) zero h l = h.0
each_at P (x ∷ xs) (suc i) h l = each_at P xs i h.1 (omega (arith, l))

from_at : (vss ds : List (List ℕ)) (k : ℕ) → AreFrom vss ds → Each (λ v. Member v (values_at ds k)) (values_at vss k)
from_at [] [] k h = tt
from_at [] (d ∷ ds) k h = absurd h
from_at (vs ∷ vss) [] k h = absurd h
from_at (vs ∷ vss) (d ∷ ds) zero h = h.0
from_at (vs ∷ vss) (d ∷ ds) (suc k) h = from_at vss ds k h.1

-- ---- clocks

oscillator : (n : ℕ) → IsBetween 0 1 n → IsOscillator (source_of n)
oscillator zero l = tt
oscillator (suc zero) l = tt
oscillator (suc (suc n)) l = absurd (omega (arith, l.1))

module _ (p : ProblemParts) (agree : IsProblem p) (whole : p.first ≢ 0) (at : List ℕ) (choice : IsChoice p.shape at) where
  pub clock_ten : length p.clock ≡ 10
  clock_ten = (agree.clock whole).ten

  pub clock_placed : 10 ≤ length at
  clock_placed = omega (arith, clock_ten, prefix_long p.first p.shape p.clock at agree.clock_sizes choice)

  -- each clock variable has a value at its position
  pub clock_inside : (k : ℕ) → k < 10 → slice_index at k < length (values_at p.clock k)
  clock_inside k l = inside_prefix p.first p.shape p.clock at agree.clock_sizes choice k (omega (arith, clock_ten, l))

  value_in : (low high k : ℕ) → k < 10 → Each (IsBetween low high) (values_at p.clock k) → IsBetween low high (clock_value p.clock at k)
  value_in low high k l h = each_at (IsBetween low high) (values_at p.clock k) (slice_index at k) h (clock_inside k l)

  -- the clocks that a choice makes are within the widest ranges
  pub clock_in_range : IsInRange (clock_at p.clock at)
  unfolding clock_at
  clock_in_range =
      let r = (agree.clock whole).in_range in
      record {
        psrc = oscillator (clock_value p.clock at 1) (value_in 0 1 1 (omega arith) r.psrc);
        hpre = value_in 1 512 2 (omega arith) r.hpre;
        p = value_in 2 8 3 (omega arith) r.p;
        m = value_in 2 63 4 (omega arith) r.m;
        n = value_in 50 432 5 (omega arith) r.n;
        q = value_in 2 15 6 (omega arith) r.q;
        ppre1 = value_in 1 16 7 (omega arith) r.ppre1;
        ppre2 = value_in 1 16 8 (omega arith) r.ppre2;
      }

  -- each is of the domain of its variable
  pub clock_of_domain : (k : ℕ) → k < 10 → Member (clock_value p.clock at k) (values_at (clock_domains p.tables) k)
  clock_of_domain k l = each_at (λ v. Member v (values_at (clock_domains p.tables) k)) (values_at p.clock k) (slice_index at k) (from_at p.clock (clock_domains p.tables) k (agree.domains whole)) (clock_inside k l)

  -- the power step is 1 to 5
  pub scale_in : IsValid p.tables → IsBetween 1 5 (clock_value p.clock at 9)
  scale_in valid = each_in (IsBetween 1 5) (clock_value p.clock at 9) (values_at (clock_domains p.tables) 9) (within_at spans (clock_domains p.tables) 9 (domains_in p.tables valid.clock)) (clock_of_domain 9 (omega arith))

-- ---- signals

module _ (p : ProblemParts) (agree : IsProblem p) (at : List ℕ) (choice : IsChoice p.shape at) where
  places_are : IsChoice (drop p.first p.shape) (places_of p at)
  places_are = choice_drop p.shape at p.first choice

  -- the signals have the last positions
  pub places_length : length (places_of p at) ≡ length p.signals
  places_length = choice_length (drop p.first p.shape) (places_of p at) places_are ∙ as_many (drop p.first p.shape) p.uses agree.use_sizes ∙ sym agree.signals

  pub signal_placed : (k : ℕ) → k < length p.signals → p.first + k < length at
  signal_placed k l = omega (arith, l, places_length, length-drop p.first at)

  -- each signal has a use at its position
  pub use_inside : (k : ℕ) → k < length p.signals → slice_index at (p.first + k) < length (slice_index_or p.uses k [])
  use_inside k l =
      let i = inside (drop p.first p.shape) p.uses (places_of p at) agree.use_sizes places_are k (omega (arith, l, agree.signals)) in
      subst (λ (n : ℕ). n < length (slice_index_or p.uses k [])) (get_or-drop p.first at k 0) i

  pub first_ten : p.first ≤ 10
  first_ten = case p.first refl
    where
      case : (n : ℕ) → p.first ≡ n → p.first ≤ 10
      case zero e = omega (arith, e)
      case (suc n) e = omega (arith, agree.first, (agree.clock (λ z. absurd (omega (arith, e, z)))).ten)

-- one step of the uses
pub uses_next : (uses : List (List PinUse)) (at : List ℕ) (k : ℕ) (u : PinUse) → k < length uses → k < length at → slice_get (get_or uses k []) (get_or at k 0) ≡ Some u → uses_at (drop k uses) (drop k at) ≡ u ∷ uses_at (drop (suc k) uses) (drop (suc k) at)
uses_next [] at k u l m e = absurd (omega (arith, l))
uses_next (vs ∷ vss) [] k u l m e = absurd (omega (arith, m))
uses_next (vs ∷ vss) (a ∷ bs) zero u l m e = ap (λ (o : Option PinUse). option_to_list o ++ uses_at vss bs) e
uses_next (vs ∷ vss) (a ∷ bs) (suc k) u l m e = uses_next vss bs k u (omega (arith, l)) (omega (arith, m)) e

-- the uses that a choice makes, filled in from the first
module _ (p : ProblemParts) (agree : IsProblem p) (at : List ℕ) (choice : IsChoice p.shape at) where
  abbrev rest_from : ℕ → List PinUse
  rest_from k = uses_at (drop k p.uses) (drop k (places_of p at))

  pub uses_more :
      (us : List PinUse) (k : ℕ) (u : PinUse) → length us ≡ 160 → k < length p.signals → use_of p at k ≡ Some u
      → take k us ++ rest_from k ≡ uses_at p.uses (places_of p at) → take (k + 1) (set us k u) ++ rest_from (k + 1) ≡ uses_at p.uses (places_of p at)
  uses_more us k u size l e before =
      let at_place : slice_get (get_or p.uses k []) (get_or (places_of p at) k 0) ≡ Some u = subst (λ (n : ℕ). slice_get (get_or p.uses k []) n ≡ Some u) (sym (get_or-drop p.first at k 0)) e in
      let later : suc k ≡ k + 1 = omega arith in
      let next : rest_from k ≡ u ∷ rest_from (k + 1) = uses_next p.uses (places_of p at) k u (omega (arith, l, agree.signals)) (omega (arith, l, places_length p agree at choice)) at_place ∙ ap (λ (n : ℕ). u ∷ rest_from n) later in
      ap (λ (l : List PinUse). l ++ rest_from (k + 1)) (take_more_set us k u (omega (arith, size, l, agree.few)))
      ∙ append_assoc (take k us) (u ∷ []) (rest_from (k + 1))
      ∙ ap (λ (l : List PinUse). take k us ++ l) (sym next)
      ∙ before

  pub uses_all : (us : List PinUse) → take (length p.signals) us ++ rest_from (length p.signals) ≡ uses_at p.uses (places_of p at) → take (length p.signals) us ≡ uses_at p.uses (places_of p at)
  uses_all us e =
      let none : drop (length p.signals) p.uses ≡ [] = drop_all (length p.signals) p.uses (omega (arith, agree.signals)) in
      sym (append-nil (take (length p.signals) us))
      ∙ ap (λ (vss : List (List PinUse)). take (length p.signals) us ++ uses_at vss (drop (length p.signals) (places_of p at))) (sym none)
      ∙ e
