-- Requests of a box and of a choice by their places.
use Rattle.std.proofs.Common.{◌≡◌, ℕ, zero, suc, ◌+◌, ◌-◌, ◌<◌, ◌≤◌, ◌++◌, List, [], ◌∷◌, length, get_or, take, drop, Bool, true, false, ◌&&◌, ◌||◌, not, inl, inr, refl, sym, subst, ap, ◌∙◌, add-one, arith}
use mathlib.Core.Path.{fun_ext}
use Rattle.std.specs.Prelude.{nat_lt}
use Rattle.std.specs.List.{list_any}
use Rattle.std.proofs.lemmas.List.{drop_all, drop_more, take_all}
use Rattle.res_base.specs.Lists.{Each}
use Rattle.res_base.specs.Sums.{one_if, sum_below}
use Rattle.res_base.specs.VarSet.{in_set, set_size}
use Rattle.res_base.specs.declared.var_set.VarSet.{VarSet}
use Rattle.res_base.proofs.SumLemmas.{le_or, sum_same}
use Rattle.choice_rank.specs.Choices.{IsChoice}
use Rattle.box_split.specs.BoxIn.{runs_in}
use Rattle.box_split.specs.Boxes.{IsBox, Run}
use Rattle.pin_match.specs.Hall.{any_below, is_wanted}
use Rattle.pin_match.specs.Sets.{fits_in}
use Rattle.pin_match.proofs.SetLemmas as sets
use Rattle.dma_model.specs.declared.table.DmaRequest.{DmaRequest}
use Rattle.dma_model.specs.declared.table.DmaRow.{DmaRow}
use Rattle.dma_rules.specs.Judged.{HasRows, IsStream, are_requests, can_have, has_stream, rows_in, hall_refutes, streams_of}
use Rattle.dma_rules.specs.Lawful.{any_in}
use Rattle.dma_rules.specs.Streams.{are_apart, is_one_stream, no_request, no_row, row_at, row_of, rows_of, shape_of}

abbrev pub run_at : List ℕ → List ℕ → ℕ → Run
run_at lo hi v = record { low = get_or lo v 0; high = get_or hi v 0 }

-- ---- a choice

pub row_is : (requests : List DmaRequest) (choice : List ℕ) (v : ℕ) → v < length requests → IsChoice (shape_of requests) choice → row_of requests choice v ≡ row_at (get_or requests v no_request) (get_or choice v 0)
row_is [] choice v l c = absurd (omega arith)
row_is (r ∷ rs) [] v l c = absurd c
row_is (r ∷ rs) (x ∷ xs) zero l c = refl
row_is (r ∷ rs) (x ∷ xs) (suc v) l c = row_is rs xs v (omega (arith, l)) c.1

pub position_is : (requests : List DmaRequest) (choice : List ℕ) (v : ℕ) → v < length requests → IsChoice (shape_of requests) choice → get_or choice v 0 < length (get_or requests v no_request).at
position_is [] choice v l c = absurd (omega arith)
position_is (r ∷ rs) [] v l c = absurd c
position_is (r ∷ rs) (x ∷ xs) zero l c = c.0
position_is (r ∷ rs) (x ∷ xs) (suc v) l c = position_is rs xs v (omega (arith, l)) c.1

pub as_many_positions : (requests : List DmaRequest) (choice : List ℕ) → IsChoice (shape_of requests) choice → length choice ≡ length requests
as_many_positions [] [] c = refl
as_many_positions [] (x ∷ xs) c = absurd c
as_many_positions (r ∷ rs) [] c = absurd c
as_many_positions (r ∷ rs) (x ∷ xs) c = ap suc (as_many_positions rs xs c.1)

pub as_many_rows : (requests : List DmaRequest) (choice : List ℕ) → IsChoice (shape_of requests) choice → length (rows_of requests choice) ≡ length requests
as_many_rows [] choice c = refl
as_many_rows (r ∷ rs) [] c = absurd c
as_many_rows (r ∷ rs) (x ∷ xs) c = ap suc (as_many_rows rs xs c.1)

module _ (requests : List DmaRequest) (choice : List ℕ) (c : IsChoice (shape_of requests) choice) (v : ℕ) (l : v < length requests) where
  -- the rows from a place on
  pub rows_from : drop v (rows_of requests choice) ≡ row_of requests choice v ∷ drop (v + 1) (rows_of requests choice)
  rows_from = drop_more (rows_of requests choice) v no_row (omega (arith, l, as_many_rows requests choice c))

pub no_rows_from : (requests : List DmaRequest) (choice : List ℕ) → IsChoice (shape_of requests) choice → (v : ℕ) → length requests ≤ v → drop v (rows_of requests choice) ≡ []
no_rows_from requests choice c v l = drop_all v (rows_of requests choice) (omega (arith, l, as_many_rows requests choice c))

-- ---- a box

pub bounds_at : (requests : List DmaRequest) (lo hi : List ℕ) (v : ℕ) → v < length requests → IsBox (shape_of requests) (runs_in (length requests) lo hi)
    → (get_or lo v 0 ≤ get_or hi v 0) × (get_or hi v 0 < length (get_or requests v no_request).at)
bounds_at [] lo hi v l b = absurd (omega arith)
bounds_at (r ∷ rs) [] hi v l b = absurd b
bounds_at (r ∷ rs) (x ∷ lo) [] v l b = absurd b
bounds_at (r ∷ rs) (x ∷ lo) (y ∷ hi) zero l b = (b.0, b.1)
bounds_at (r ∷ rs) (x ∷ lo) (y ∷ hi) (suc v) l b = bounds_at rs lo hi v (omega (arith, l)) b.2

pub can_have_at : (requests : List DmaRequest) (lo hi : List ℕ) (v s : ℕ) → v < length requests → IsBox (shape_of requests) (runs_in (length requests) lo hi)
    → can_have requests (runs_in (length requests) lo hi) v s ≡ has_stream (rows_in (get_or requests v no_request) (run_at lo hi v)) s
can_have_at [] lo hi v s l b = absurd (omega arith)
can_have_at (r ∷ rs) [] hi v s l b = absurd b
can_have_at (r ∷ rs) (x ∷ lo) [] v s l b = absurd b
can_have_at (r ∷ rs) (x ∷ lo) (y ∷ hi) zero s l b = refl
can_have_at (r ∷ rs) (x ∷ lo) (y ∷ hi) (suc v) s l b = can_have_at rs lo hi v s (omega (arith, l)) b.2

each_drop : {X : Type 0} (P : X → Type 0) (k : ℕ) (xs : List X) → Each P xs → Each P (drop k xs)
each_drop P zero xs h = h
each_drop P (suc k) [] h = tt
each_drop P (suc k) (x ∷ xs) h = each_drop P k xs h.1

each_take : {X : Type 0} (P : X → Type 0) (k : ℕ) (xs : List X) → Each P xs → Each P (take k xs)
each_take P zero xs h = tt
each_take P (suc k) [] h = tt
each_take P (suc k) (x ∷ xs) h = (h.0, each_take P k xs h.1)

each_at : {X : Type 0} (P : X → Type 0) (xs : List X) (i : ℕ) (d : X) → i < length xs → Each P xs → P (get_or xs i d)
each_at P [] i d l h = absurd (omega arith)
each_at P (x ∷ xs) zero d l h = h.0
each_at P (x ∷ xs) (suc i) d l h = each_at P xs i d (omega (arith, l)) h.1

pub request_has : (requests : List DmaRequest) (v : ℕ) (d : DmaRequest) → v < length requests → Each HasRows requests → HasRows (get_or requests v d)
request_has requests v d l h = each_at HasRows requests v d l h

-- the rows of a run are of streams
pub streams_in : (requests : List DmaRequest) (v : ℕ) (run : Run) → v < length requests → Each HasRows requests → Each IsStream (rows_in (get_or requests v no_request) run)
streams_in requests v run l h =
    let r = get_or requests v no_request in
    each_take IsStream (run.high + 1 - run.low) (drop run.low r.at) (each_drop IsStream run.low r.at (request_has requests v no_request l h).streams)

pub same_length : (requests : List DmaRequest) → length (shape_of requests) ≡ length requests
same_length [] = refl
same_length (r ∷ rs) = ap suc (same_length rs)

-- the box of a buffer's ends, by the number of the requests
pub box_is : (requests : List DmaRequest) (lo hi : List ℕ) → runs_in (length (shape_of requests)) lo hi ≡ runs_in (length requests) lo hi
box_is requests lo hi = ap (λ (n : ℕ). runs_in n lo hi) (same_length requests)

-- ---- sets of streams

past_fits : (ss : List VarSet) (i : ℕ) → length ss ≤ i → ◌≡◌ {A = ℕ → Bool} (fits_in ss i) (λ r. false)
unfolding fits_in
past_fits [] i l = refl
past_fits (s ∷ ss) zero l = absurd (omega arith)
past_fits (s ∷ ss) (suc i) l = past_fits ss i (omega arith)

past_requests : (requests : List DmaRequest) (box : List Run) (v : ℕ) → length requests ≤ v → ◌≡◌ {A = ℕ → Bool} (can_have requests box v) (λ s. false)
past_requests [] box v l = refl
past_requests (r ∷ rs) [] v l = refl
past_requests (r ∷ rs) (run ∷ runs) zero l = absurd (omega arith)
past_requests (r ∷ rs) (run ∷ runs) (suc v) l = past_requests rs runs v (omega arith)

pub filled : (ss : List VarSet) (requests : List DmaRequest) (box : List Run) → length ss ≡ length requests → ((k : ℕ) → k < length requests → (s : ℕ) → in_set (get_or ss k sets.nothing) s ≡ can_have requests box k s) → fits_in ss ≡ can_have requests box
filled ss requests box n h = fun_ext (λ i. elim (le_or i (length requests)) [
  | inl l ↦ sets.fits_at ss i (omega (arith, l, n)) ∙ fun_ext (h i l)
  | inr l ↦ past_fits ss i (omega (arith, l, n)) ∙ sym (past_requests requests box i l)
])

-- what a vector holds after all of it was written
pub whole : (n : ℕ) (new items : List VarSet) → length new ≡ n → length items ≡ n → take n (new ++ drop (length new) items) ≡ new
whole n new items e f =
    let past : drop (length new) items ≡ [] = drop_all (length new) items (omega (arith, e, f)) in
    ap (λ (l : List VarSet). take n (new ++ l)) past ∙ ap (λ (l : List VarSet). take n l) (no_more new) ∙ take_all n new (omega (arith, e))
  where
    no_more : (l : List VarSet) → l ++ [] ≡ l
    no_more [] = refl
    no_more (x ∷ xs) = ap (λ (r : List VarSet). x ∷ r) (no_more xs)

-- ---- counting for the checker

pub any_next : (n : ℕ) (p : ℕ → Bool) → any_below (n + 1) p ≡ (any_below n p || p n)
any_next n p = ap (λ (k : ℕ). any_below k p) (add-one n)

-- one number more
pub one_wanted : (n : ℕ) (p : ℕ → Bool) (old new x : Bool) → new ≡ (old || x) → old ≡ any_below n p → p n ≡ x → new ≡ any_below (n + 1) p
one_wanted n p old new x e f g = e ∙ ap (λ (a : Bool). a || x) f ∙ ap (λ (b : Bool). any_below n p || b) (sym g) ∙ sym (any_next n p)

pub not_wanted : (n : ℕ) (p : ℕ → Bool) (old new : Bool) → new ≡ old → old ≡ any_below n p → p n ≡ false → new ≡ any_below (n + 1) p
not_wanted n p old new e f g = e ∙ f ∙ sym (or_none (any_below n p)) ∙ ap (λ (b : Bool). any_below n p || b) (sym g) ∙ sym (any_next n p)
  where
    or_none : (a : Bool) → (a || false) ≡ a
    or_none true = refl
    or_none false = refl

pub and_first : (a b : Bool) → a ≡ true → (a && b) ≡ b
and_first true b e = refl
and_first false b e = cc

pub and_none : (a b : Bool) → a ≡ false → (a && b) ≡ false
and_none true b e = cc
and_none false b e = refl

pub outsider : (count : ℕ) (vars : VarSet) (v : ℕ) → v < 192 → in_set vars v ≡ true → nat_lt v count ≡ false → are_requests count vars ≡ false
unfolding are_requests
outsider count vars v l e out =
    let here : (in_set vars v && not (nat_lt v count)) ≡ true = rw (e, out) refl in
    not_false (any_below 192 (λ w. in_set vars w && not (nat_lt w count))) (any_in 192 (λ w. in_set vars w && not (nat_lt w count)) v l here)
  where
    not_false : (a : Bool) → a ≡ true → not a ≡ false
    not_false a e = rw e refl

pub no_outsider : (count : ℕ) (vars : VarSet) (n : ℕ) → n ≡ 192 → any_below n (λ v. in_set vars v && not (nat_lt v count)) ≡ false → are_requests count vars ≡ true
unfolding are_requests
no_outsider count vars n e f = ap not (ap (λ (k : ℕ). any_below k (λ v. in_set vars v && not (nat_lt v count))) (sym e) ∙ f)

module _ (requests : List DmaRequest) (box : List Run) (vars : VarSet) where
  pub hall_is : (found : VarSet) → are_requests (length requests) vars ≡ true → ((s : ℕ) → in_set found s ≡ is_wanted (length requests) (can_have requests box) vars s) → nat_lt (set_size found) (set_size vars) ≡ hall_refutes requests box vars
  unfolding hall_refutes set_size
  hall_is found a f =
      let n = sum_same 192 (λ v. one_if (in_set found v)) (λ s. one_if (is_wanted (length requests) (can_have requests box) vars s)) (λ s l. ap one_if (f s)) in
      ap (λ (k : ℕ). nat_lt k (sum_below 192 (λ v. one_if (in_set vars v)))) n ∙ ap (λ (b : Bool). b && nat_lt (streams_of requests box vars) (sum_below 192 (λ v. one_if (in_set vars v)))) (sym a)

  pub hall_not : are_requests (length requests) vars ≡ false → false ≡ hall_refutes requests box vars
  unfolding hall_refutes
  hall_not e = ap (λ (b : Bool). b && nat_lt (streams_of requests box vars) (sum_below 192 (λ v. one_if (in_set vars v)))) (sym e)

-- ---- what is left of a choice's rows

module _ (p : DmaRow → Bool) (rows : List DmaRow) (k : ℕ) (r : DmaRow) (rest : List DmaRow) (from : drop k rows ≡ r ∷ rest) where
  pub found_first : p r ≡ true → list_any p (drop k rows) ≡ true
  found_first e = ap (list_any p) from ∙ first (p r) (list_any p rest) e
    where
      first : (a b : Bool) → a ≡ true → (a || b) ≡ true
      first true b e = refl
      first false b e = cc

  pub passed_first : p r ≡ false → list_any p rest ≡ list_any p (drop k rows)
  passed_first e = sym (ap (list_any p) from ∙ second (p r) (list_any p rest) e)
    where
      second : (a b : Bool) → a ≡ false → (a || b) ≡ b
      second true b e = cc
      second false b e = refl

module _ (rows : List DmaRow) (k : ℕ) (r : DmaRow) (rest : List DmaRow) (from : drop k rows ≡ r ∷ rest) where
  pub not_apart : list_any (is_one_stream r) rest ≡ true → are_apart (drop k rows) ≡ false
  not_apart e = ap are_apart from ∙ ap (λ (b : Bool). not b && are_apart rest) e

  pub apart_so_far : list_any (is_one_stream r) rest ≡ false → are_apart rest ≡ are_apart (drop k rows)
  apart_so_far e = sym (ap are_apart from ∙ ap (λ (b : Bool). not b && are_apart rest) e)

-- ---- the same by what was read of the wanted requests

module _ (w rs : List DmaRequest) (lo hi : List ℕ) (same : rs ≡ w) where
  pub box_read : IsBox (shape_of w) (runs_in (length (shape_of w)) lo hi) → IsBox (shape_of rs) (runs_in (length rs) lo hi)
  box_read b =
      subst (λ (xs : List DmaRequest). IsBox (shape_of xs) (runs_in (length xs) lo hi)) (sym same)
      (subst (IsBox (shape_of w)) (box_is w lo hi) b)

  pub by_box : {X : Type 0} (f : List DmaRequest → List Run → X) → f rs (runs_in (length rs) lo hi) ≡ f w (runs_in (length (shape_of w)) lo hi)
  by_box f = ap (λ (xs : List DmaRequest). f xs (runs_in (length xs) lo hi)) same ∙ ap (f w) (sym (box_is w lo hi))

pub from_none : (a b : Bool) → a ≡ false → (a || b) ≡ b
from_none true b e = cc
from_none false b e = refl
