-- An index of signals by their names: what a sort makes of their places, and what a search in it finds.
use Rattle.std.proofs.Common.{◌≡◌, ◌≢◌, ℕ, zero, suc, ◌+◌, ◌<◌, ◌≤◌, List, [], ◌∷◌, length, Bool, true, false, Option, Some, None, get_or, refl, sym, ap, ◌∙◌, subst, inl, inr, arith}
use Rattle.std.specs.Prelude.{slice_get, find}
use Rattle.std.specs.Cmp.{IsTotalOrder, IsStrictWeakOrder}
use Rattle.std.specs.Cmp.Lexicographic.{slice_cmp}
use Rattle.std.specs.List.{HoldsAt}
use Rattle.std.specs.List.Sorted.{IsPermutation, IsSortedBy, IsNonDecreasingBy, IsPartitionPoint}
use Rattle.std.specs.Ordering.{is_lt, is_eq, nat_cmp, ordering_index}
use Rattle.std.specs.Str.{bytes_eq}
use Rattle.std.specs.declared.cmp.Ordering.TheVariants.{Less, Equal, Greater}
use Rattle.std.proofs.lemmas.Bool.{cases_lt}
use Rattle.std.proofs.lemmas.Cmp.{on_total, nat_list_cmp_total, tied_itself}
use Rattle.std.proofs.lemmas.List.Sorted.{ranks_by, searchable_from_sorted, All-permutation, Contains-permutation}
use Rattle.std.proofs.lemmas.Map.Text.{is_eq-slice_cmp}
use Rattle.std.proofs.lemmas.Slice.Eq.{bytes_eq-Decides}
use Rattle.res_base.specs.Lists.{Each, Pairwise}
use Rattle.res_base.proofs.SumLemmas.{bool_cases}
use Rattle.res_model.specs.NameOrder.{name_of, name_at, name_cmp, AreFirst, IsNameOrder}
use Rattle.res_model.specs.declared.table.TableSignal.{TableSignal}

-- ---- the order

name_total : (ss : List TableSignal) → IsTotalOrder (name_cmp ss)
unfolding name_cmp
name_total ss = on_total (name_at ss) nat_list_cmp_total

pub name_ranks : (ss : List TableSignal) → IsStrictWeakOrder (λ a b. is_lt (name_cmp ss a b))
name_ranks ss = ranks_by (name_total ss) (λ (place : ℕ). place)

-- what a sort makes of the places as they stand
pub order_of : (ss : List TableSignal) (places sorted : List ℕ) → AreFirst places (length ss) → IsPermutation places sorted → IsSortedBy (λ a b. is_lt (name_cmp ss a b)) sorted → IsNameOrder sorted ss
order_of ss places sorted are moved up =
    let long : length places ≡ length ss = are.long in
    record {
      sorted = up;
      within = All-permutation (λ (p : ℕ). p < length ss) places sorted moved (λ k d lt.
          let in' : k < length ss = omega arith in
          subst (λ (p : ℕ). p < length ss) (sym (are.each k d in')) in');
      all = λ place lt. Contains-permutation places sorted place moved (place, omega arith, are.each place place lt);
    }

same_by_order : (xs ys : List ℕ) → is_eq (slice_cmp nat_cmp xs ys) ≡ true → xs ≡ ys
same_by_order xs ys h = (bytes_eq-Decides xs ys).0 (sym (is_eq-slice_cmp xs ys) ∙ h)

-- ---- names that differ

some_signal : (ss : List TableSignal) (q : ℕ) → q < length ss → (s : TableSignal) × (slice_get ss q ≡ Some s)
some_signal [] q h = absurd (omega arith)
some_signal (s ∷ ss) zero h = (s, refl)
some_signal (s ∷ ss) (suc q) h = some_signal ss q (omega arith)

each_at : (P : TableSignal → Type 0) (ss : List TableSignal) (q : ℕ) (s : TableSignal) → Each P ss → slice_get ss q ≡ Some s → P s
each_at P [] q s h e = absurd cc
each_at P (x ∷ xs) zero s h e = let same : x ≡ s = cc in subst P same h.0
each_at P (x ∷ xs) (suc q) s h e = each_at P xs q s h.1 e

abbrev pub Differ : TableSignal → TableSignal → Type 0
Differ s u = s.name ≢ u.name

-- the signal of a name, wherever it stands
pub find_named : (ss : List TableSignal) (name : List ℕ) (q : ℕ) (s : TableSignal) → Pairwise Differ ss → slice_get ss q ≡ Some s → s.name ≡ name → find (λ (u : TableSignal). bytes_eq u.name name) ss ≡ Some s
find_named [] name q s p e n = absurd cc
find_named (x ∷ xs) name zero s p e n =
    let same : x ≡ s = cc in
    let named : x.name ≡ name = ap (λ (u : TableSignal). u.name) same ∙ n in
    let t : bytes_eq x.name name ≡ true = (bytes_eq-Decides x.name name).1 named in
    rw t e
find_named (x ∷ xs) name (suc q) s p e n = elim (bool_cases (bytes_eq x.name name)) [
  | inl t ↦ let same : x.name ≡ name = (bytes_eq-Decides x.name name).0 t in absurd (each_at (Differ x) xs q s p.0 e (same ∙ sym n))
  | inr f ↦ rw f (find_named xs name q s p.1 e n)
]

-- a name that no signal has
none_named : (ss : List TableSignal) (name : List ℕ) → ((q : ℕ) → q < length ss → name_at ss q ≡ name → ⊥) → find (λ (u : TableSignal). bytes_eq u.name name) ss ≡ None
none_named [] name h = refl
none_named (x ∷ xs) name h = elim (bool_cases (bytes_eq x.name name)) [
  | inl t ↦ absurd (h 0 (omega arith) ((bytes_eq-Decides x.name name).0 t))
  | inr f ↦ rw f (none_named xs name (λ q lt e. h (suc q) (omega arith) e))
]

-- ---- the search

module _ (ss : List TableSignal) (places : List ℕ) (index : IsNameOrder places ss) (name : List ℕ) where
  -- what a search asks of the order
  pub searchable : IsNonDecreasingBy (λ p. ordering_index (slice_cmp nat_cmp (name_at ss p) name)) places
  unfolding name_cmp
  searchable = searchable_from_sorted nat_list_cmp_total (name_at ss) places name (λ k d low high. index.sorted k d low high)

  -- the signal at the place that is found
  pub signal_found : (at : ℕ) → Pairwise Differ ss → at < length places → HoldsAt (λ p. slice_cmp nat_cmp (name_at ss p) name ≡ Equal) places at
      → slice_get ss (get_or places at 0) ≡ find (λ (u : TableSignal). bytes_eq u.name name) ss
  signal_found at apart lt h =
      let q = get_or places at 0 in
      let in' : q < length ss = index.within at 0 lt in
      let (s, e) = some_signal ss q in' in
      let same : name_at ss q ≡ name = same_by_order (name_at ss q) name (ap is_eq (h 0)) in
      e ∙ sym (find_named ss name q s apart e (sym (ap name_of e) ∙ same))

  -- a name that is not found
  pub no_signal : (i : ℕ) → IsPartitionPoint (λ p. slice_cmp nat_cmp (name_at ss p) name ≡ Less) (λ p. slice_cmp nat_cmp (name_at ss p) name ≡ Greater) places i
      → find (λ (u : TableSignal). bytes_eq u.name name) ss ≡ None
  no_signal i (less, greater) = none_named ss name (λ q in' e.
      let (k, lt, at) = index.all q in' in
      let level : slice_cmp nat_cmp (name_at ss q) name ≡ Equal = ap (λ (w : List ℕ). slice_cmp nat_cmp w name) e ∙ tied_itself nat_list_cmp_total name in
      let tied : slice_cmp nat_cmp (name_at ss (get_or places k q)) name ≡ Equal = rw at level in
      elim (cases_lt k i) [
        | inl h ↦ let l : slice_cmp nat_cmp (name_at ss (get_or places k q)) name ≡ Less = less k q (omega arith) h in absurd cc
        | inr h ↦ let g : slice_cmp nat_cmp (name_at ss (get_or places k q)) name ≡ Greater = greater k q h lt in absurd cc
      ])
