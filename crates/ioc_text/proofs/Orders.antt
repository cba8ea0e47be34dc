-- Marks in order.
use Rattle.std.proofs.Common.{◌≡◌, ◌≢◌, ℕ, ◌+◌, ◌-◌, ◌<◌, ◌≤◌, List, ◌∷◌, length, true, false, None, min, get_or, refl, sym, ap, ◌∙◌, subst, ◌⊎◌, inl, inr, arith}
use Rattle.std.specs.Prelude.{slice_get}
use Rattle.std.specs.Cmp.{IsTotalOrder, IsStrictWeakOrder}
use Rattle.std.specs.Cmp.Lexicographic.{slice_cmp}
use Rattle.std.specs.List.{swap, HoldsAt}
use Rattle.std.specs.List.Sorted.{IsPermutation, IsSortedBy, IsNonDecreasingBy, IsPartitionPoint}
use Rattle.std.specs.Ordering.{is_lt, is_eq, nat_cmp, ordering_then, ordering_reverse, ordering_index}
use Rattle.std.specs.Str.{bytes_eq}
use Rattle.std.specs.declared.cmp.Ordering.{Ordering}
use Rattle.std.specs.declared.cmp.Ordering.TheVariants.{Less, Equal, Greater}
use Rattle.std.proofs.lemmas.Bool.{cases_lt, cases_eq}
use Rattle.std.proofs.lemmas.Bool.Decides.{nat_tests}
use Rattle.std.proofs.lemmas.Cmp.{then_total, on_total, nat_cmp_total, nat_list_cmp_total, tied_itself}
use Rattle.std.proofs.lemmas.List.Edits.{swapped_from_swap, length-swap}
use Rattle.std.proofs.lemmas.List.{get_or_default}
use Rattle.std.proofs.lemmas.List.Sorted.{ranks_by, sorted_far, searchable_from_sorted, IsPermutation-keeps, All-permutation, Contains-permutation}
use Rattle.std.proofs.lemmas.Map.Text.{is_eq-slice_cmp}
use Rattle.std.proofs.lemmas.Slice.Eq.{bytes_eq-Decides}
use Rattle.res_base.proofs.SumLemmas.{bool_cases}
use Rattle.ioc_text.specs.Lines.{line_at}
use Rattle.ioc_text.specs.declared.line.Line.{Line}
use Rattle.ioc_text.specs.Index.{sum_of, key_at, ranked, mark_cmp, mark_of, AreMarks, IsIndex, IsEachOnce, IsFirstRepeat, stood}
use Rattle.ioc_text.specs.declared.marks.Mark.{Mark}
use Rattle.ioc_text.proofs.Places.{stood_by, stood_at, found_line, no_line}

mark_total : (lines : List Line) → IsTotalOrder (mark_cmp lines)
unfolding mark_cmp
mark_total lines = then_total (on_total (ranked lines) nat_list_cmp_total) (on_total (λ (m : Mark). m.place) nat_cmp_total)

pub mark_ranks : (lines : List Line) → IsStrictWeakOrder (λ a b. is_lt (mark_cmp lines a b))
mark_ranks lines = ranks_by (mark_total lines) (λ (m : Mark). m)

less_first : (r s : Ordering) → is_lt (ordering_then r s) ≡ false → is_lt r ≡ false
less_first Less s h = h
less_first Equal s h = refl
less_first Greater s h = refl

-- what is no less as a mark is no less by sum and key
no_less : (lines : List Line) (a b : Mark) → is_lt (mark_cmp lines a b) ≡ false → is_lt (slice_cmp nat_cmp (ranked lines a) (ranked lines b)) ≡ false
unfolding mark_cmp
no_less lines a b h = less_first (slice_cmp nat_cmp (ranked lines a) (ranked lines b)) (nat_cmp a.place b.place) h

level_by : (r s : Ordering) → r ≡ ordering_reverse s → is_lt r ≡ false → is_lt s ≡ false → is_eq r ≡ true
level_by Less s e h k = absurd cc
level_by Equal s e h k = refl
level_by Greater Less e h k = absurd cc
level_by Greater Equal e h k = absurd cc
level_by Greater Greater e h k = absurd cc

same_by_order : (xs ys : List ℕ) → is_eq (slice_cmp nat_cmp xs ys) ≡ true → xs ≡ ys
same_by_order xs ys h = (bytes_eq-Decides xs ys).0 (sym (is_eq-slice_cmp xs ys) ∙ h)

-- two of which neither is less
level : (xs ys : List ℕ) → is_lt (slice_cmp nat_cmp xs ys) ≡ false → is_lt (slice_cmp nat_cmp ys xs) ≡ false → xs ≡ ys
level xs ys h k = same_by_order xs ys (level_by (slice_cmp nat_cmp xs ys) (slice_cmp nat_cmp ys xs) (nat_list_cmp_total.antisymm xs ys) h k)

rank_of_place : (lines : List Line) (place : ℕ) → ranked lines (mark_of lines place) ≡ sum_of (key_at lines place) ∷ key_at lines place
unfolding ranked
rank_of_place lines place = refl

same_rank : (lines : List Line) (q place : ℕ) → key_at lines q ≡ key_at lines place → ranked lines (mark_of lines q) ≡ ranked lines (mark_of lines place)
same_rank lines q place e = rank_of_place lines q ∙ ap (λ (k : List ℕ). sum_of k ∷ k) e ∙ sym (rank_of_place lines place)

rank_key : (lines : List Line) (a b : Mark) → ranked lines a ≡ ranked lines b → key_at lines a.place ≡ key_at lines b.place
unfolding ranked
rank_key lines a b e = cc

key_after : (lines : List Line) (m : Mark) (sum : ℕ) (key : List ℕ) → ranked lines m ≡ sum ∷ key → key_at lines m.place ≡ key
unfolding ranked
key_after lines m sum key e = cc

at_default : (marks : List Mark) (k : ℕ) (d m : Mark) → k < length marks → get_or marks k m ≡ m → get_or marks k d ≡ m
at_default marks k d m lt e = get_or_default marks k d m lt ∙ e

-- of marks with one key, the earlier line's is less
earlier_less : (lines : List Line) (a b : Mark) → ranked lines a ≡ ranked lines b → a.place < b.place → is_lt (mark_cmp lines a b) ≡ true
unfolding mark_cmp
earlier_less lines a b e lt =
    let tied : slice_cmp nat_cmp (ranked lines a) (ranked lines b) ≡ Equal = ap (λ (k : List ℕ). slice_cmp nat_cmp k (ranked lines b)) e ∙ tied_itself nat_list_cmp_total (ranked lines b) in
    rw tied (grind (arith, nat_tests))

module _ (marks : List Mark) (lines : List Line) (index : IsIndex marks lines) where
  -- neighbours of one key: the second line's key stood before
  pub neighbours_stand : (k : ℕ) (d : Mark) → k + 1 < length marks → bytes_eq (ranked lines (get_or marks k d)) (ranked lines (get_or marks (k + 1) d)) ≡ true
      → stood lines (get_or marks (k + 1) d).place ≡ true
  neighbours_stand k d lt t =
      let a = get_or marks k d in
      let b = get_or marks (k + 1) d in
      let same : ranked lines a ≡ ranked lines b = (bytes_eq-Decides (ranked lines a) (ranked lines b)).0 t in
      let up : is_lt (mark_cmp lines b a) ≡ false = index.sorted k d (omega arith) lt in
      let differ : a.place ≢ b.place = λ e. let i : k ≡ k + 1 = index.apart k (k + 1) d (omega arith) lt e in omega arith in
      let no_later : b.place < a.place → ⊥ = λ h. let l : is_lt (mark_cmp lines b a) ≡ true = earlier_less lines b a (sym same) h in absurd cc in
      let in' : a.place < length lines = (index.marked k d (omega arith)).0 in
      stood_by lines a.place b.place (omega arith) in' (rank_key lines a b same)

  -- a line whose key stood before has a neighbour of that key before it
  pub repeat_seen : (place : ℕ) (d : Mark) → place < length lines → stood lines place ≡ true
      → (k : ℕ) × (k + 1 < length marks) × (bytes_eq (ranked lines (get_or marks k d)) (ranked lines (get_or marks (k + 1) d)) ≡ true) × ((get_or marks (k + 1) d).place ≡ place)
  repeat_seen place d lt t =
      let before = stood_at lines place t in
      let first = index.all before.0 before.2 in
      let second = index.all place lt in
      let a : get_or marks first.0 d ≡ mark_of lines before.0 = at_default marks first.0 d (mark_of lines before.0) first.1 first.2 in
      let b : get_or marks second.0 d ≡ mark_of lines place = at_default marks second.0 d (mark_of lines place) second.1 second.2 in
      let same : ranked lines (get_or marks first.0 d) ≡ ranked lines (get_or marks second.0 d) = ap (ranked lines) a ∙ same_rank lines before.0 place before.3 ∙ ap (ranked lines) (sym b) in
      let earlier : (get_or marks first.0 d).place < (get_or marks second.0 d).place = rw (a, b) before.1 in
      let no_later : second.0 ≤ first.0 → ⊥ = λ h.
      let up : is_lt (mark_cmp lines (get_or marks first.0 d) (get_or marks second.0 d)) ≡ false = sorted_far (λ a b. is_lt (mark_cmp lines a b)) (mark_ranks lines) marks index.sorted second.0 first.0 d h first.1 in
      let less : is_lt (mark_cmp lines (get_or marks first.0 d) (get_or marks second.0 d)) ≡ true = earlier_less lines (get_or marks first.0 d) (get_or marks second.0 d) same earlier in
      absurd cc in
      let k = second.0 - 1 in
      let next : k + 1 ≡ second.0 = omega arith in
      let in' : second.0 < length marks = second.1 in
      let above : is_lt (mark_cmp lines (get_or marks k d) (get_or marks first.0 d)) ≡ false = sorted_far (λ a b. is_lt (mark_cmp lines a b)) (mark_ranks lines) marks index.sorted first.0 k d (omega arith) (omega arith) in
      let below : is_lt (mark_cmp lines (get_or marks (k + 1) d) (get_or marks k d)) ≡ false = index.sorted k d (omega arith) (omega arith) in
      let other : ranked lines (get_or marks first.0 d) ≡ ranked lines (get_or marks (k + 1) d) = same ∙ ap (λ (i : ℕ). ranked lines (get_or marks i d)) (sym next) in
      let up : is_lt (slice_cmp nat_cmp (ranked lines (get_or marks k d)) (ranked lines (get_or marks (k + 1) d))) ≡ false =
      subst (λ (r : List ℕ). is_lt (slice_cmp nat_cmp (ranked lines (get_or marks k d)) r) ≡ false) other (no_less lines (get_or marks k d) (get_or marks first.0 d) above) in
      let one : ranked lines (get_or marks k d) ≡ ranked lines (get_or marks (k + 1) d) = level (ranked lines (get_or marks k d)) (ranked lines (get_or marks (k + 1) d)) up (no_less lines (get_or marks (k + 1) d) (get_or marks k d) below) in
      (k, omega arith, (bytes_eq-Decides (ranked lines (get_or marks k d)) (ranked lines (get_or marks (k + 1) d))).1 one, ap (λ (i : ℕ). (get_or marks i d).place) next ∙ ap (λ (m : Mark). m.place) b)

  -- what a search asks of the order
  pub searchable : (x : List ℕ) → IsNonDecreasingBy (λ m. ordering_index (slice_cmp nat_cmp (ranked lines m) x)) marks
  searchable x = searchable_from_sorted nat_list_cmp_total (ranked lines) marks x (λ k d low high. no_less lines (get_or marks (k + 1) d) (get_or marks k d) (index.sorted k d low high))

  -- what a search answers that compares marks with a key's sum and the key
  module _ (key : List ℕ) (sum : ℕ) (summed : sum ≡ sum_of key) where
    -- the mark of a key
    pub mark_found : (at : ℕ) (d : Mark) → IsEachOnce lines → at < length marks → HoldsAt (λ m. slice_cmp nat_cmp (ranked lines m) (sum ∷ key) ≡ Equal) marks at
        → ((get_or marks at d).place < length lines) × (line_at lines key ≡ slice_get lines (get_or marks at d).place)
    mark_found at d once lt h =
        let m = get_or marks at d in
        let same : ranked lines m ≡ sum ∷ key = same_by_order (ranked lines m) (sum ∷ key) (ap is_eq (h d)) in
        let in' : m.place < length lines = (index.marked at d lt).0 in
        (in', found_line lines m.place key once in' (key_after lines m sum key same))

    tied_mark : (q : ℕ) → key_at lines q ≡ key → slice_cmp nat_cmp (ranked lines (mark_of lines q)) (sum ∷ key) ≡ Equal
    tied_mark q e =
        let rank : ranked lines (mark_of lines q) ≡ sum ∷ key = rank_of_place lines q ∙ ap (λ (b : List ℕ). sum_of b ∷ b) e ∙ ap (λ (s : ℕ). s ∷ key) (sym summed) in
        ap (λ (r : List ℕ). slice_cmp nat_cmp r (sum ∷ key)) rank ∙ tied_itself nat_list_cmp_total (sum ∷ key)

    -- a key that no mark has
    pub no_mark : (i : ℕ) → IsPartitionPoint (λ m. slice_cmp nat_cmp (ranked lines m) (sum ∷ key) ≡ Less) (λ m. slice_cmp nat_cmp (ranked lines m) (sum ∷ key) ≡ Greater) marks i
        → line_at lines key ≡ None
    no_mark i (less, greater) = no_line lines key (λ q in' e.
        let (k, lt, at) = index.all q in' in
        let tied : slice_cmp nat_cmp (ranked lines (get_or marks k (mark_of lines q))) (sum ∷ key) ≡ Equal = rw at (tied_mark q e) in
        elim (cases_lt k i) [
          | inl h ↦ let l : slice_cmp nat_cmp (ranked lines (get_or marks k (mark_of lines q))) (sum ∷ key) ≡ Less = less k (mark_of lines q) (omega arith) h in absurd cc
          | inr h ↦ let g : slice_cmp nat_cmp (ranked lines (get_or marks k (mark_of lines q))) (sum ∷ key) ≡ Greater = greater k (mark_of lines q) h lt in absurd cc
        ])

-- what the loop keeps that looks for the first line whose key stood before: so far it has looked at the neighbours below `at`
pub record IsLeastBelow (lines : List Line) (marks : List Mark) (at first : ℕ) : Type 0 where
  pub stands : first < length lines → stood lines first ≡ true
  pub least : (k : ℕ) (d : Mark) → k + 1 < at → k + 1 < length marks → bytes_eq (ranked lines (get_or marks k d)) (ranked lines (get_or marks (k + 1) d)) ≡ true → first ≤ (get_or marks (k + 1) d).place

either : (a b : ℕ) → (min a b ≡ a) ⊎ (min a b ≡ b)
either a b = elim (cases_lt a b) [ inl h ↦ inl (omega arith) | inr h ↦ inr (omega arith) ]

module _ (lines : List Line) (marks : List Mark) (at first next : ℕ) (d : Mark) (so_far : IsLeastBelow lines marks at first) (after : 1 ≤ at) (in' : at < length marks) where
  -- the neighbours at this place have one key
  pub least_taken : IsIndex marks lines → bytes_eq (ranked lines (get_or marks (at - 1) d)) (ranked lines (get_or marks at d)) ≡ true → next ≡ min first (get_or marks at d).place
      → IsLeastBelow lines marks (at + 1) next
  least_taken index same e =
      let k = at - 1 in
      let one : k + 1 ≡ at = omega arith in
      let here : stood lines (get_or marks at d).place ≡ true = subst (λ (i : ℕ). stood lines (get_or marks i d).place ≡ true) one
      (neighbours_stand marks lines index k d (omega arith) (subst (λ (i : ℕ). bytes_eq (ranked lines (get_or marks k d)) (ranked lines (get_or marks i d)) ≡ true) (sym one) same)) in
      record {
        stands = elim (either first (get_or marks at d).place) [
          | inl f ↦ subst (λ (n : ℕ). n < length lines → stood lines n ≡ true) (sym (e ∙ f)) so_far.stands
          | inr f ↦ subst (λ (n : ℕ). n < length lines → stood lines n ≡ true) (sym (e ∙ f)) (λ _. here)
        ];
        least = λ i o low lt t. elim (cases_lt (i + 1) at) [
          | inl h ↦ let up : first ≤ (get_or marks (i + 1) o).place = so_far.least i o h lt t in omega arith
          | inr h ↦
              let this : i + 1 ≡ at = omega arith in
              let same : (get_or marks (i + 1) o).place ≡ (get_or marks at d).place = ap (λ (j : ℕ). (get_or marks j o).place) this ∙ ap (λ (m : Mark). m.place) (get_or_default marks at o d in') in
              omega arith
        ];
      }

  -- they have two keys
  pub least_kept : bytes_eq (ranked lines (get_or marks (at - 1) d)) (ranked lines (get_or marks at d)) ≡ false → next ≡ first → IsLeastBelow lines marks (at + 1) next
  least_kept other e = record {
    stands = subst (λ (n : ℕ). n < length lines → stood lines n ≡ true) (sym e) so_far.stands;
    least = λ i o low lt t. elim (cases_lt (i + 1) at) [
      | inl h ↦ let up : first ≤ (get_or marks (i + 1) o).place = so_far.least i o h lt t in omega arith
      | inr h ↦
          let this : i + 1 ≡ at = omega arith in
          let before : i ≡ at - 1 = omega arith in
          let a : get_or marks i o ≡ get_or marks (at - 1) d = ap (λ (j : ℕ). get_or marks j o) before ∙ get_or_default marks (at - 1) o d (omega arith) in
          let b : get_or marks (i + 1) o ≡ get_or marks at d = ap (λ (j : ℕ). get_or marks j o) this ∙ get_or_default marks at o d in' in
          let same : bytes_eq (ranked lines (get_or marks (at - 1) d)) (ranked lines (get_or marks at d)) ≡ true = rw (a, b) at t in
          absurd cc
    ];
  }

-- no neighbours are left
pub least_of_all : (lines : List Line) (marks : List Mark) (at first : ℕ) (d : Mark) → IsIndex marks lines → IsLeastBelow lines marks at first → length marks ≤ at → IsFirstRepeat lines first
least_of_all lines marks at first d index so_far end = record {
  stands = so_far.stands;
  least = λ place below in'. elim (bool_cases (stood lines place)) [
    | inl t ↦
        let seen = repeat_seen marks lines index place d in' t in
        let within : seen.0 + 1 < length marks = seen.1 in
        let up : first ≤ (get_or marks (seen.0 + 1) d).place = so_far.least seen.0 d (omega arith) seen.1 seen.2 in
        let e : (get_or marks (seen.0 + 1) d).place ≡ place = seen.3 in
        absurd (omega arith)
    | inr t ↦ t
  ];
}

-- no two marks have one place
abbrev Apart : List Mark → Type 0
Apart marks = (i j : ℕ) (d : Mark) → i < length marks → j < length marks → (get_or marks i d).place ≡ (get_or marks j d).place → i ≡ j

-- where an item stood before two were exchanged
record Came (marks next : List Mark) (a b i : ℕ) (d : Mark) : Type 0 where
  from : ℕ
  within : from < length marks
  same : get_or next i d ≡ get_or marks from d
  back : (i ≡ a → from ≡ b) × (i ≡ b → from ≡ a) × (i ≢ a → i ≢ b → from ≡ i)

came : (marks : List Mark) (a b i : ℕ) (d : Mark) → a < length marks → b < length marks → i < length marks → Came marks (swap marks a b) a b i d
came marks a b i d in_a in_b in_i =
    let (at_a, at_b, at_other) = swapped_from_swap marks (swap marks a b) a b d in_a in_b refl in
    elim (cases_eq i a) [
      | inl e ↦ record { from = b; within = in_b; same = ap (λ (k : ℕ). get_or (swap marks a b) k d) e ∙ at_a; back = ((λ _. refl), (λ f. sym f ∙ e), (λ n m. absurd (n e))) }
      | inr n ↦ elim (cases_eq i b) [
        | inl e ↦ record { from = a; within = in_a; same = ap (λ (k : ℕ). get_or (swap marks a b) k d) e ∙ at_b; back = ((λ f. absurd (n f)), (λ _. refl), (λ _ m. absurd (m e))) }
        | inr m ↦ record { from = i; within = in_i; same = at_other i n m; back = ((λ f. absurd (n f)), (λ f. absurd (m f)), (λ _ _. refl)) }
      ]
    ]

swap_apart : (marks : List Mark) (a b : ℕ) → a < length marks → b < length marks → Apart marks → Apart (swap marks a b)
swap_apart marks a b in_a in_b apart = λ i j d in_i in_j e.
    let long : length (swap marks a b) ≡ length marks = length-swap marks a b in
    let from_i = came marks a b i d in_a in_b (omega arith) in
    let from_j = came marks a b j d in_a in_b (omega arith) in
    let one : from_i.from ≡ from_j.from = apart from_i.from from_j.from d from_i.within from_j.within (ap (λ (m : Mark). m.place) (sym from_i.same) ∙ e ∙ ap (λ (m : Mark). m.place) from_j.same) in
    together a b i j from_i.from from_j.from from_i.back from_j.back one
  where
    together : (a b i j s t : ℕ) → (i ≡ a → s ≡ b) × (i ≡ b → s ≡ a) × (i ≢ a → i ≢ b → s ≡ i) → (j ≡ a → t ≡ b) × (j ≡ b → t ≡ a) × (j ≢ a → j ≢ b → t ≡ j) → s ≡ t → i ≡ j
    together a b i j s t h k e = elim (cases_eq i a) [
      | inl ia ↦ elim (cases_eq j a) [
        | inl ja ↦ ia ∙ sym ja
        | inr na ↦ elim (cases_eq j b) [
          | inl jb ↦ let s_b : s ≡ b = h.0 ia in let t_a : t ≡ a = k.1 jb in omega arith
          | inr nb ↦ let s_b : s ≡ b = h.0 ia in let t_j : t ≡ j = k.2 na nb in omega arith
        ]
      ]
      | inr na ↦ elim (cases_eq i b) [
        | inl ib ↦ elim (cases_eq j a) [
          | inl ja ↦ let s_a : s ≡ a = h.1 ib in let t_b : t ≡ b = k.0 ja in omega arith
          | inr ma ↦ elim (cases_eq j b) [
            | inl jb ↦ ib ∙ sym jb
            | inr mb ↦ let s_a : s ≡ a = h.1 ib in let t_j : t ≡ j = k.2 ma mb in omega arith
          ]
        ]
        | inr nb ↦ let s_i : s ≡ i = h.2 na nb in elim (cases_eq j a) [
          | inl ja ↦ let t_b : t ≡ b = k.0 ja in omega arith
          | inr ma ↦ elim (cases_eq j b) [
            | inl jb ↦ let t_a : t ≡ a = k.1 jb in omega arith
            | inr mb ↦ let t_j : t ≡ j = k.2 ma mb in omega arith
          ]
        ]
      ]
    ]

-- what a sort makes of them
pub index_of : (lines : List Line) (marks sorted : List Mark) → AreMarks lines marks (length lines) → IsPermutation marks sorted → IsSortedBy (λ a b. is_lt (mark_cmp lines a b)) sorted → IsIndex sorted lines
index_of lines marks sorted are moved up =
    let long : length marks ≡ length lines = are.long in
    record {
      sorted = up;
      marked = All-permutation (λ (m : Mark). (m.place < length lines) × (m ≡ mark_of lines m.place)) marks sorted moved (λ k d lt.
          let in' : k < length lines = omega arith in
          subst (λ (m : Mark). (m.place < length lines) × (m ≡ mark_of lines m.place)) (sym (are.each k d in')) (in', refl));
      all = λ place lt. Contains-permutation marks sorted (mark_of lines place) moved (place, omega arith, are.each place (mark_of lines place) lt);
      apart = IsPermutation-keeps marks Apart (λ i j d in_i in_j e.
          let here : i < length lines = omega arith in
          let there : j < length lines = omega arith in
          ap (λ (m : Mark). m.place) (sym (are.each i d here)) ∙ e ∙ ap (λ (m : Mark). m.place) (are.each j d there)) swap_apart sorted moved;
    }
