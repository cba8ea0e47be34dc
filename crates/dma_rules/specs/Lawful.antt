-- Internal: what the judge means is lawful.
use Rattle.std.proofs.Common.{◌≡◌, ℕ, zero, suc, ◌+◌, ◌-◌, ◌*◌, ◌^◌, ◌<◌, ◌≤◌, ◌==◌, List, [], ◌∷◌, length, get_or, drop, Bool, true, false, cond, ◌&&◌, ◌||◌, not, leb, eqb, Option, Some, None, inl, inr, refl, sym, subst, ap, ◌∙◌, arith}
use Rattle.std.specs.Prelude.{is_some, nat_lt, slice_range}
use Rattle.std.specs.List.{list_any}
use Rattle.std.specs.Coded.{×_prop, Unit-prop, le_prop}
use Rattle.std.proofs.lemmas.Bool.Decides.{nat_tests}
use Rattle.std.proofs.lemmas.List.{get_or-take, get_or-drop, length-take, length-drop}
use Rattle.std.proofs.lemmas.List.Folds.{list_any_at}
use Rattle.std.proofs.lemmas.Nat.{mul-le}
use Rattle.std.proofs.Math.Nat.{pow-succ'}
use Rattle.res_base.specs.Lists.{Each}
use Rattle.res_base.specs.Sums.{one_if, sum_below}
use Rattle.res_base.specs.VarSet.{in_set}
use Rattle.res_base.specs.declared.var_set.VarSet.{VarSet}
use Rattle.res_base.proofs.SumLemmas.{at_most_one, bool_cases, le_or, pos_cases, some_below, split, sum_le, sum_same}
use Rattle.choice_rank.specs.Choices.{HasPositions, HasSmallSizes, IsShape, choices_of, cost_most, costs_most}
use Rattle.choice_rank.specs.declared.variable.Costs.TheVariants.{HomeFirst}
use Rattle.choice_rank.specs.declared.variable.VarShape.{VarShape}
use Rattle.box_split.specs.Boxes.{IsBox, LiesIn, Run, is_single, lows}
use Rattle.pin_match.specs.Assignments.{IsAssignment, IsFull}
use Rattle.pin_match.specs.Hall.{IsHall, any_below, is_wanted}
use Rattle.pin_match.proofs.CountLemmas.{and_yes, both, has, inside, inside_users, users}
use Rattle.pin_match.proofs.FreedLemmas.{none_is_full, some_is_hall}
use Rattle.pin_match.proofs.HallLemmas.{some_any}
use Rattle.search_api.specs.Meaning.{IsLawful}
use Rattle.search_api.specs.declared.verdict.Class.TheVariants.{Exti, Pins}
use Rattle.search_api.specs.declared.verdict.Reason.{Reason}
use Rattle.search_api.specs.declared.verdict.Reason.TheVariants.{Hall, Limit}
use Rattle.search_api.specs.declared.verdict.Verdict.TheVariants as verdict
use Rattle.dma_model.specs.declared.table.DmaRequest.{DmaRequest}
use Rattle.dma_model.specs.declared.table.DmaRow.{DmaRow}
use Rattle.dma_rules.specs.Judged.{CanBeJudged, HasRows, IsStream, are_requests, can_have, dma_meaning, hall_in, has_stream, reason_refutes, hall_refutes, stream_of, streams_of, verdict_from}
use Rattle.dma_rules.specs.Streams.{are_apart, is_one_stream, meets, no_row, row_of, rows_of, shape_of}

-- ---- tests

contradict : {A : Type 0} (b : Bool) → b ≡ true → b ≡ false → A
contradict b e f = let q : true ≡ false = sym e ∙ f in cc

not_true : (b : Bool) → not b ≡ true → b ≡ false
not_true true e = cc
not_true false e = refl

is_same : (n : ℕ) → (n == n) ≡ true
is_same n = grind (arith, nat_tests)

yes : (b : Bool) → 0 < one_if b → b ≡ true
yes true h = refl
yes false h = absurd (omega arith)

or_no : (a b : Bool) → a ≡ false → b ≡ false → (a || b) ≡ false
or_no true b e f = cc
or_no false b e f = f

less_of : (a b : ℕ) → nat_lt a b ≡ true → a < b
less_of a b h = grind (arith, nat_tests, h)

through : (a b c : ℕ) → a ≤ b → b ≤ c → a ≤ c
through a b c l k = omega (arith, l, k)

none_any : {X : Type 0} (p : X → Bool) (xs : List X) (d : X) → ((i : ℕ) → i < length xs → p (get_or xs i d) ≡ false) → list_any p xs ≡ false
none_any p [] d h = refl
none_any p (x ∷ xs) d h = or_no (p x) (list_any p xs) (h 0 (omega arith)) (none_any p xs d (λ i l. h (suc i) (omega (arith, l))))

any_none : {X : Type 0} (p : X → Bool) (xs : List X) (d : X) → list_any p xs ≡ false → (i : ℕ) → i < length xs → p (get_or xs i d) ≡ false
any_none p xs d h i l = elim (bool_cases (p (get_or xs i d))) [
  | inl e ↦ contradict (list_any p xs) (list_any_at p xs i d l e) h
  | inr e ↦ e
]

pub any_in : (n : ℕ) (p : ℕ → Bool) (v : ℕ) → v < n → p v ≡ true → any_below n p ≡ true
any_in zero p v l e = absurd (omega arith)
any_in (suc n) p v l e = elim (split v n) [
  | inl q ↦ last (any_below n p) (p n) (ap p (sym q) ∙ e)
  | inr d ↦ first (any_below n p) (p n) (any_in n p v (omega (arith, l, d)) e)
]
  where
    last : (a b : Bool) → b ≡ true → (a || b) ≡ true
    last true b f = refl
    last false b f = f

    first : (a b : Bool) → a ≡ true → (a || b) ≡ true
    first true b f = refl
    first false b f = cc

-- ---- sums

sum_more : (n m : ℕ) (f : ℕ → ℕ) → n ≤ m → sum_below n f ≤ sum_below m f
sum_more n zero f l = let z : n ≡ 0 = omega (arith, l) in subst (λ (k : ℕ). sum_below k f ≤ 0) (sym z) (omega arith)
sum_more n (suc m) f l = elim (split n (suc m)) [
  | inl e ↦ subst (λ (k : ℕ). sum_below k f ≤ sum_below (suc m) f) (sym e) (omega arith)
  | inr d ↦ omega (arith, sum_more n m f (omega (arith, l, d)))
]

sum_no_more : (n m : ℕ) (f : ℕ → ℕ) → ((k : ℕ) → n ≤ k → k < m → f k ≡ 0) → sum_below m f ≤ sum_below n f
sum_no_more n zero f z = omega arith
sum_no_more n (suc m) f z = elim (le_or m n) [
  | inl l ↦ sum_more (suc m) n f (omega (arith, l))
  | inr l ↦ omega (arith, sum_no_more n m f (λ k a b. z k a (omega (arith, b))), z m l (omega arith))
]

-- ---- streams by their numbers

one_stream : (a b : DmaRow) → IsStream a → IsStream b → stream_of a ≡ stream_of b → is_one_stream a b ≡ true
one_stream a b p q e =
    let c : a.controller ≡ b.controller = omega (arith, e, p.low, p.high, p.stream, q.low, q.high, q.stream) in
    let s : a.stream ≡ b.stream = omega (arith, e, c) in
    let t : (a.controller == b.controller) ≡ true = grind (arith, nat_tests, c) in
    let u : (a.stream == b.stream) ≡ true = grind (arith, nat_tests, s) in
    and_yes (a.controller == b.controller) (a.stream == b.stream) t u

pub parts_of : (a b : DmaRow) → is_one_stream a b ≡ true → (a.controller ≡ b.controller) × (a.stream ≡ b.stream)
parts_of a b h =
    let t = both (a.controller == b.controller) (a.stream == b.stream) h in
    let c : a.controller ≡ b.controller = grind (arith, nat_tests, t.0) in
    let s : a.stream ≡ b.stream = grind (arith, nat_tests, t.1) in
    (c, s)

one_number : (a b : DmaRow) → is_one_stream a b ≡ true → stream_of a ≡ stream_of b
one_number a b h = let p = parts_of a b h in ap (λ (c : ℕ). 8 * (c - 1) + a.stream) p.0 ∙ ap (λ (s : ℕ). 8 * (b.controller - 1) + s) p.1

small_number : (a : DmaRow) → IsStream a → stream_of a < 192
small_number a p = omega (arith, p.low, p.high, p.stream)

-- ---- rows that are apart

abbrev pub ArePairs : List DmaRow → Type 0
ArePairs rows = (i j : ℕ) → i < j → j < length rows → is_one_stream (get_or rows i no_row) (get_or rows j no_row) ≡ false

pub pairs_of : (rows : List DmaRow) → are_apart rows ≡ true → ArePairs rows
pairs_of [] h i j l k = absurd (omega arith)
pairs_of (r ∷ rs) h i j l k = let b = both (not (list_any (is_one_stream r) rs)) (are_apart rs) h in at i j l k (not_true (list_any (is_one_stream r) rs) b.0) (pairs_of rs b.1)
  where
    at : (i j : ℕ) → i < j → j < length (r ∷ rs) → list_any (is_one_stream r) rs ≡ false → ArePairs rs → is_one_stream (get_or (r ∷ rs) i no_row) (get_or (r ∷ rs) j no_row) ≡ false
    at i zero l k none rest = absurd (omega arith)
    at zero (suc j) l k none rest = any_none (is_one_stream r) rs no_row none j (omega (arith, k))
    at (suc i) (suc j) l k none rest = rest i j (omega (arith, l)) (omega (arith, k))

pub apart_of : (rows : List DmaRow) → ArePairs rows → are_apart rows ≡ true
apart_of [] h = refl
apart_of (r ∷ rs) h =
    let none = none_any (is_one_stream r) rs no_row (λ j l. h 0 (suc j) (omega arith) (omega (arith, l))) in
    let rest = apart_of rs (λ i j l k. h (suc i) (suc j) (omega (arith, l)) (omega (arith, k))) in
    and_yes (not (list_any (is_one_stream r) rs)) (are_apart rs) (ap not none) rest

-- ---- a run of rows

range_long : {X : Type 0} (us : List X) (low high : ℕ) → low ≤ high → high < length us → length (slice_range us low (high + 1)) ≡ high + 1 - low
range_long us low high o l = omega (arith, length-take (high + 1 - low) (drop low us), length-drop low us)

range_at : {X : Type 0} (us : List X) (low high x : ℕ) (d : X) → low ≤ x → x ≤ high → get_or (slice_range us low (high + 1)) (x - low) d ≡ get_or us x d
range_at us low high x d o l =
    let place : low + (x - low) ≡ x = omega arith in
    get_or-take (high + 1 - low) (drop low us) (x - low) d (omega arith) ∙ get_or-drop low us (x - low) d ∙ ap (λ (k : ℕ). get_or us k d) place

has_own_stream : (rows : List DmaRow) (low high x : ℕ) → low ≤ x → x ≤ high → high < length rows → has_stream (slice_range rows low (high + 1)) (stream_of (get_or rows x no_row)) ≡ true
has_own_stream rows low high x o l k =
    let long = range_long rows low high (omega arith) k in
    list_any_at (λ r. stream_of r == stream_of (get_or rows x no_row)) (slice_range rows low (high + 1)) (x - low) no_row (omega (arith, long))
    (ap (λ (r : DmaRow). stream_of r == stream_of (get_or rows x no_row)) (range_at rows low high x no_row o l) ∙ is_same (stream_of (get_or rows x no_row)))

-- a single position has one stream
has_no_other : (rows : List DmaRow) (low high s : ℕ) → low ≤ high → high ≤ low → high < length rows → has_stream (slice_range rows low (high + 1)) s ≡ true → stream_of (get_or rows low no_row) ≡ s
has_no_other rows low high s o l k e = one (slice_range rows low (high + 1)) (range_long rows low high o k ∙ (omega arith)) (ap (λ (i : ℕ). get_or (slice_range rows low (high + 1)) i no_row) zero_is ∙ range_at rows low high low no_row (omega arith) o) e
  where
    zero_is : zero ≡ low - low
    zero_is = omega arith

    one : (ws : List DmaRow) → length ws ≡ 1 → get_or ws 0 no_row ≡ get_or rows low no_row → list_any (λ r. stream_of r == s) ws ≡ true → stream_of (get_or rows low no_row) ≡ s
    one [] n g h = absurd (omega (arith, n))
    one (w ∷ []) n g h = case (stream_of w == s) refl h
      where
        case : (b : Bool) → (stream_of w == s) ≡ b → (b || false) ≡ true → stream_of (get_or rows low no_row) ≡ s
        case true q t = let e : stream_of w ≡ s = grind (arith, nat_tests, q) in ap stream_of (sym g) ∙ e
        case false q t = absurd cc
    one (w ∷ x ∷ ws) n g h = absurd (omega (arith, n))

each_at : {X : Type 0} (P : X → Type 0) (xs : List X) (i : ℕ) (d : X) → i < length xs → Each P xs → P (get_or xs i d)
each_at P [] i d l h = absurd (omega arith)
each_at P (x ∷ xs) zero d l h = h.0
each_at P (x ∷ xs) (suc i) d l h = each_at P xs i d (omega (arith, l)) h.1

-- ---- the stream of each request in a choice of a box

record HasOwn (requests : List DmaRequest) (box : List Run) (choice : List ℕ) (v : ℕ) : Type 0 where
  stream : IsStream (row_of requests choice v)
  own : can_have requests box v (stream_of (row_of requests choice v)) ≡ true
  only : is_single box ≡ true → (s : ℕ) → can_have requests box v s ≡ true → stream_of (row_of requests choice v) ≡ s

has_own : (requests : List DmaRequest) (box : List Run) (choice : List ℕ) → Each HasRows requests → IsBox (shape_of requests) box → LiesIn box choice → (v : ℕ) → v < length requests → HasOwn requests box choice v
has_own [] box choice h b o v l = absurd (omega arith)
has_own (r ∷ rs) [] choice h b o v l = absurd b
has_own (r ∷ rs) (run ∷ runs) [] h b o v l = absurd o
has_own (r ∷ rs) (run ∷ runs) (x ∷ xs) h b o zero l = record {
  stream = each_at IsStream r.at x no_row (omega (arith, o.1, b.1)) h.0.streams;
  own = has_own_stream r.at run.low run.high x o.0 o.1 b.1;
  only = λ e s w.
      let one : leb run.high run.low ≡ true = (both (leb run.high run.low) (is_single runs) e).0 in
      let same : run.high ≤ run.low = grind (arith, nat_tests, one) in
      let at : x ≡ run.low = omega (arith, same, o.0, o.1) in
      ap (λ (y : ℕ). stream_of (get_or r.at y no_row)) at ∙ has_no_other r.at run.low run.high s b.0 same b.1 w;
}
has_own (r ∷ rs) (run ∷ runs) (x ∷ xs) h b o (suc v) l =
    let rest = has_own rs runs xs h.1 b.2 o.2 v (omega (arith, l)) in
    record { stream = rest.stream; own = rest.own; only = λ e. rest.only (both (leb run.high run.low) (is_single runs) e).1 }

rows_long : (requests : List DmaRequest) (box : List Run) (choice : List ℕ) → IsBox (shape_of requests) box → LiesIn box choice → length (rows_of requests choice) ≡ length requests
rows_long [] box choice b o = refl
rows_long (r ∷ rs) [] choice b o = absurd b
rows_long (r ∷ rs) (run ∷ runs) [] b o = absurd o
rows_long (r ∷ rs) (run ∷ runs) (x ∷ xs) b o = ap suc (rows_long rs runs xs b.2 o.2)

lows_lie : (vs : List VarShape) (rs : List Run) → IsBox vs rs → LiesIn rs (lows rs)
lows_lie [] [] h = tt
lows_lie [] (r ∷ rs) h = absurd h
lows_lie (v ∷ vs) [] h = absurd h
lows_lie (v ∷ vs) (r ∷ rs) h = (omega arith, h.0, lows_lie vs rs h.2)

-- ---- the shape

few_choices : (k : ℕ) (requests : List DmaRequest) → Each HasRows requests → length requests ≤ k → choices_of (shape_of requests) ≤ 8 ^ k
few_choices zero [] h l = omega arith
few_choices zero (r ∷ rs) h l = absurd (omega arith)
few_choices (suc k) [] h l = subst (λ (n : ℕ). 1 ≤ n) (sym (pow-succ' 8 k)) (more (8 ^ k) (few_choices k [] tt (omega arith)))
  where
    more : (n : ℕ) → 1 ≤ n → 1 ≤ 8 * n
    more n l = omega (arith, l)
few_choices (suc k) (r ∷ rs) h l = subst (λ (n : ℕ). length r.at * choices_of (shape_of rs) ≤ n) (sym (pow-succ' 8 k)) (mul-le (length r.at) (choices_of (shape_of rs)) 8 (8 ^ k) h.0.few (few_choices k rs h.1 (omega (arith, l))))

few_cost : (b : Bool) → cond b 1 0 ≤ 1
few_cost true = omega arith
few_cost false = omega arith

one_more : (a b n : ℕ) → a ≤ 1 → b ≤ n → a + b ≤ suc n
one_more a b n l k = omega (arith, l, k)

few_costs : (requests : List DmaRequest) → costs_most (shape_of requests) ≤ length requests
few_costs [] = omega arith
few_costs (r ∷ rs) = one_more (cost_most HomeFirst (length r.at)) (costs_most (shape_of rs)) (length rs) (few_cost (nat_lt 1 (length r.at))) (few_costs rs)

as_many : (requests : List DmaRequest) → length (shape_of requests) ≡ length requests
as_many [] = refl
as_many (r ∷ rs) = ap suc (as_many rs)

positions : (requests : List DmaRequest) → Each HasRows requests → HasPositions (shape_of requests)
positions [] h = tt
positions (r ∷ rs) h = (omega (arith, h.0.some), positions rs h.1)

small_sizes : (requests : List DmaRequest) → Each HasRows requests → HasSmallSizes (shape_of requests)
small_sizes [] h = tt
small_sizes (r ∷ rs) h = (omega (arith, h.0.few), small_sizes rs h.1)

pub shape_is : (requests : List DmaRequest) → CanBeJudged requests → IsShape (shape_of requests)
shape_is requests j = record {
  few = omega (arith, as_many requests, j.few);
  positions = positions requests j.rows;
  small = small_sizes requests j.rows;
  narrow =
      let most = few_choices 16 requests j.rows j.few in
      let cost : 1 + costs_most (shape_of requests) ≤ 17 = omega (arith, few_costs requests, j.few) in
      let top : 17 * 8 ^ 16 ≤ 2 ^ 63 = omega arith in
      through ((1 + costs_most (shape_of requests)) * choices_of (shape_of requests)) (17 * 8 ^ 16) (2 ^ 63) (mul-le (1 + costs_most (shape_of requests)) (choices_of (shape_of requests)) 17 (8 ^ 16) cost most) top;
}

-- ---- what a Hall set refutes

module _ (requests : List DmaRequest) (j : CanBeJudged requests) (box : List Run) (is_box : IsBox (shape_of requests) box) where
  abbrev count : ℕ
  count = length requests

  abbrev fits : ℕ → ℕ → Bool
  fits = can_have requests box

  few : count ≤ 192
  few = omega (arith, j.few)

  module _ (choice : List ℕ) (lies : LiesIn box choice) where
    held : (v : ℕ) → v < count → HasOwn requests box choice v
    held v l = has_own requests box choice j.rows is_box lies v l

    long : length (rows_of requests choice) ≡ count
    long = rows_long requests box choice is_box lies

    abbrev stream_at : ℕ → ℕ
    stream_at v = stream_of (row_of requests choice v)

    ordered : ArePairs (rows_of requests choice) → (v w : ℕ) → v < w → w < count → stream_at v ≡ stream_at w → ⊥
    ordered p v w l k e =
        let a = held v (omega (arith, l, k)) in
        let b = held w k in
        contradict (is_one_stream (row_of requests choice v) (row_of requests choice w)) (one_stream (row_of requests choice v) (row_of requests choice w) a.stream b.stream e) (p v w l (omega (arith, k, long)))

    stays_apart : ArePairs (rows_of requests choice) → (v w : ℕ) → v < count → w < count → stream_at v ≡ stream_at w → v ≡ w
    stays_apart p v w l k e = elim (split v w) [
      | inl same ↦ same
      | inr d ↦ elim (le_or v w) [
        | inl less ↦ absurd (ordered p v w less k e)
        | inr more ↦ absurd (ordered p w v (omega (arith, more, d)) l (sym e))
      ]
    ]

    -- a legal choice gives each request a stream of its own
    abbrev given : ℕ → Option ℕ
    given v = Some (stream_at v)

    same_some : (a b : ℕ) → ◌≡◌ {A = Option ℕ} (Some a) (Some b) → a ≡ b
    same_some a b e = cc

    assigned : ArePairs (rows_of requests choice) → IsAssignment count 192 fits given
    assigned p = record {
      in_set = λ v r l e. subst (λ (s : ℕ). fits v s ≡ true) (same_some (stream_at v) r e) (held v l).own;
      in_range = λ v r l e. subst (λ (s : ℕ). s < 192) (same_some (stream_at v) r e) (small_number (row_of requests choice v) (held v l).stream);
      apart = λ v w r l k e f. stays_apart p v w l k (same_some (stream_at v) r e ∙ sym (same_some (stream_at w) r f));
    }

    module _ (vars : VarSet) (pairs : ArePairs (rows_of requests choice)) where
      holder : (v r : ℕ) → (in_set vars v && has (given v) r) ≡ true → (in_set vars v ≡ true) × (stream_at v ≡ r)
      holder v r e = let b = both (in_set vars v) (eqb (stream_at v) r) e in let s : stream_at v ≡ r = grind (arith, nat_tests, b.1) in (b.0, s)

      used_once : (r : ℕ) → r < 192 → users count 192 fits (in_set vars) given r ≤ one_if (is_wanted count fits vars r)
      unfolding users
      used_once r l =
          let one = at_most_one count (λ v. in_set vars v && has (given v) r) (λ v w lv lw ev ew. let a = holder v r ev in let b = holder w r ew in stays_apart pairs v w lv lw (a.1 ∙ sym b.1)) in
          elim (pos_cases (sum_below count (λ v. one_if (in_set vars v && has (given v) r)))) [
            | inl some ↦
                let k = some_below count (λ v. one_if (in_set vars v && has (given v) r)) some in
                let a = holder k.0 r (yes (in_set vars k.0 && has (given k.0) r) k.2) in
                let here : fits k.0 r ≡ true = subst (λ (s : ℕ). fits k.0 s ≡ true) a.1 (held k.0 k.1).own in
                let t : is_wanted count fits vars r ≡ true = any_in count (λ v. in_set vars v && fits v r) k.0 k.1 (and_yes (in_set vars k.0) (fits k.0 r) a.0 here) in
                omega (arith, one, ap one_if t)
            | inr z ↦ omega (arith, z)
          ]

      members : sum_below count (λ v. one_if (in_set vars v)) ≡ inside count 192 fits (in_set vars) given
      unfolding inside
      members = sum_same count (λ v. one_if (in_set vars v)) (λ v. one_if (in_set vars v && is_some (given v))) (λ v l. same (in_set vars v))
        where
          same : (b : Bool) → one_if b ≡ one_if (b && true)
          same true = refl
          same false = refl

      few_members : sum_below count (λ v. one_if (in_set vars v)) ≤ streams_of requests box vars
      few_members =
          along (sum_below count (λ v. one_if (in_set vars v))) (inside count 192 fits (in_set vars) given) (sum_below 192 (users count 192 fits (in_set vars) given)) (streams_of requests box vars)
          members (inside_users count 192 fits (in_set vars) given (assigned pairs)) (sum_le 192 (users count 192 fits (in_set vars) given) (λ r. one_if (is_wanted count fits vars r)) used_once)
        where
          along : (a b c d : ℕ) → a ≡ b → b ≡ c → c ≤ d → a ≤ d
          along a b c d e f l = omega (arith, e, f, l)

    none_beyond : (vars : VarSet) → are_requests count vars ≡ true → (k : ℕ) → count ≤ k → k < 192 → one_if (in_set vars k) ≡ 0
    unfolding are_requests
    none_beyond vars a k l m = elim (bool_cases (in_set vars k)) [
      | inr e ↦ ap one_if e
      | inl e ↦
          let past : nat_lt k count ≡ false = grind (arith, nat_tests, l) in
          contradict (any_below 192 (λ v. in_set vars v && not (nat_lt v count))) (any_in 192 (λ v. in_set vars v && not (nat_lt v count)) k m (and_yes (in_set vars k) (not (nat_lt k count)) e (ap not past))) (not_true (any_below 192 (λ v. in_set vars v && not (nat_lt v count))) a)
    ]

    not_both : (a b c : ℕ) → a < c → c ≤ b → b ≤ a → ⊥
    not_both a b c l k m = absurd (omega (arith, l, k, m))

    none_meets : (vars : VarSet) → hall_refutes requests box vars ≡ true → meets requests choice ≡ true → ⊥
    unfolding hall_refutes
    none_meets vars refuted ok =
        let b = both (are_requests count vars) (nat_lt (streams_of requests box vars) (sum_below 192 (λ v. one_if (in_set vars v)))) refuted in
        let less = less_of (streams_of requests box vars) (sum_below 192 (λ v. one_if (in_set vars v))) b.1 in
        not_both (streams_of requests box vars) (sum_below count (λ v. one_if (in_set vars v))) (sum_below 192 (λ v. one_if (in_set vars v))) less
        (sum_no_more count 192 (λ v. one_if (in_set vars v)) (none_beyond vars b.0)) (few_members vars (pairs_of (rows_of requests choice) ok))

    -- where each request has one position and all can have a stream, the streams are apart
    module _ (single : is_single box ≡ true) (full : IsFull count 192 fits) where
      its : (v : ℕ) → v < count → (r : ℕ) × (full.0 v ≡ Some r) × (stream_at v ≡ r)
      its v l = let g = full.2 v l in (g.0, g.1, (held v l).only single g.0 (full.1.in_set v g.0 l g.1))

      full_pairs : ArePairs (rows_of requests choice)
      full_pairs v w l k = elim (bool_cases (is_one_stream (row_of requests choice v) (row_of requests choice w))) [
        | inr e ↦ e
        | inl e ↦
            let k2 : w < count = omega (arith, k, long) in
            let l2 : v < count = omega (arith, l, k2) in
            let a = its v l2 in
            let b = its w k2 in
            let one : a.0 ≡ b.0 = sym a.2 ∙ one_number (row_of requests choice v) (row_of requests choice w) e ∙ b.2 in
            let twice : v ≡ w = full.1.apart v w a.0 l2 k2 a.1 (b.1 ∙ ap Some (sym one)) in
            absurd (omega (arith, l, twice))
      ]

      full_meets : meets requests choice ≡ true
      full_meets = apart_of (rows_of requests choice) full_pairs

  -- the set that is computed refutes the box
  found_hall_refutes : (vars : VarSet) → hall_in requests box ≡ Some vars → hall_refutes requests box vars ≡ true
  unfolding hall_refutes are_requests
  found_hall_refutes vars e =
      let h : IsHall count 192 fits vars = some_is_hall count 192 fits vars few e in
      let more = sum_more count 192 (λ v. one_if (in_set vars v)) few in
      let less : nat_lt (streams_of requests box vars) (sum_below 192 (λ v. one_if (in_set vars v))) ≡ true =
      is_less (streams_of requests box vars) (sum_below count (λ v. one_if (in_set vars v))) (sum_below 192 (λ v. one_if (in_set vars v))) h.more more in
      and_yes (are_requests count vars) (nat_lt (streams_of requests box vars) (sum_below 192 (λ v. one_if (in_set vars v)))) (ap not (all_requests h)) less
    where
      is_less : (a b c : ℕ) → a < b → b ≤ c → nat_lt a c ≡ true
      is_less a b c l k = let m : a < c = omega (arith, l, k) in grind (arith, nat_tests, m)

      all_requests : IsHall count 192 fits vars → any_below 192 (λ v. in_set vars v && not (nat_lt v count)) ≡ false
      all_requests h = elim (bool_cases (any_below 192 (λ v. in_set vars v && not (nat_lt v count)))) [
        | inr e ↦ e
        | inl e ↦
            let s = some_any 192 (λ v. in_set vars v && not (nat_lt v count)) e in
            let p = both (in_set vars s.0) (not (nat_lt s.0 count)) s.2 in
            let l : s.0 < count = h.below s.0 p.0 in
            let t : nat_lt s.0 count ≡ true = grind (arith, nat_tests, l) in
            contradict (nat_lt s.0 count) t (not_true (nat_lt s.0 count) p.1)
      ]

-- ---- the laws

bad_is : (found : Option VarSet) (single : Bool) (reason : Reason) (P : Reason → Type 0) → ((vars : VarSet) → found ≡ Some vars → P (Hall Pins vars)) → verdict_from found single ≡ verdict.Bad reason → P reason
bad_is (Some vars) single reason P p e = let r : Hall Pins vars ≡ reason = cc (e) in subst P r (p vars refl)
bad_is None true reason P p e = cc
bad_is None false reason P p e = cc

when_legal : (found : Option VarSet) (single : Bool) → verdict_from found single ≡ verdict.Legal → (found ≡ None) × (single ≡ true)
when_legal (Some vars) single e = cc
when_legal None true e = (refl, refl)
when_legal None false e = cc

when_open : (found : Option VarSet) (single : Bool) → verdict_from found single ≡ verdict.Open → single ≡ false
when_open (Some vars) single e = cc
when_open None true e = cc
when_open None false e = refl

module _ (requests : List DmaRequest) (j : CanBeJudged requests) where
  refuted_none : (reason : Reason) (box : List Run) → IsBox (shape_of requests) box → reason_refutes requests reason box ≡ true → (choice : List ℕ) → LiesIn box choice → meets requests choice ≡ true → ⊥
  refuted_none (Hall Pins vars) box b h choice lies m = none_meets requests j box b choice lies vars h m
  refuted_none (Hall Exti vars) box b h choice lies m = let q : false ≡ true = h in cc
  refuted_none (Limit k) box b h choice lies m = let q : false ≡ true = h in cc

  pub dma_lawful : IsLawful (dma_meaning requests)
  dma_lawful = record {
    is_shape = shape_is requests j;
    none_legal = λ reason box b h choice c lies m. refuted_none reason box b h choice lies m;
    bad_refutes = λ reason box b e. bad_is (hall_in requests box) (is_single box) reason (λ r. reason_refutes requests r box ≡ true) (found_hall_refutes requests j box b) e;
    legal_is_one = λ box b e.
        let h = when_legal (hall_in requests box) (is_single box) e in
        (h.1, full_meets requests j box b (lows box) (lows_lie (shape_of requests) box b) h.1 (none_is_full (length requests) 192 (can_have requests box) h.0));
    open_has_two = λ box b e. when_open (hall_in requests box) (is_single box) e;
  }

-- ---- for the ghost field in which the judge keeps what it needs

streams_prop : (rows : List DmaRow) → IsProp (Each IsStream rows)
streams_prop [] = Unit-prop
streams_prop (r ∷ rs) = ×_prop (hlevel le_prop) (streams_prop rs)

rows_prop : (requests : List DmaRequest) → IsProp (Each HasRows requests)
rows_prop [] = Unit-prop
rows_prop (r ∷ rs) = ×_prop (hlevel (le_prop, streams_prop r.at)) (rows_prop rs)

pub judged_prop : (requests : List DmaRequest) → IsProp (CanBeJudged requests)
judged_prop requests = hlevel (le_prop, rows_prop requests)
