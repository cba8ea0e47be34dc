-- What is counted signal by signal is what the definition of a refuted box counts.
use Rattle.std.proofs.Common.{◌≡◌, ℕ, zero, suc, ◌+◌, ◌-◌, ◌==◌, ◌<◌, ◌≤◌, List, [], ◌∷◌, length, get_or, drop, Bool, true, false, ◌&&◌, ◌||◌, ◌⊎◌, inl, inr, refl, sym, ap, subst, ◌∙◌, arith}
use Rattle.std.specs.Prelude.{not, nat_lt}
use Rattle.std.proofs.lemmas.Bool.Decides.{nat_tests}
use Rattle.std.proofs.lemmas.List.{drop_all, drop_more, length-drop}
use Rattle.res_base.specs.declared.var_set.VarSet.{VarSet}
use Rattle.res_base.specs.Lists.{Each}
use Rattle.res_base.specs.Sums.{sum_below, one_if}
use Rattle.res_base.specs.VarSet.{in_set, set_size}
use Rattle.res_base.proofs.SumLemmas.{sum_same}
use Rattle.box_split.specs.declared.buffer.BoxBuf.{BoxBuf}
use Rattle.box_split.specs.BoxIn.{box_in, runs_in}
use Rattle.box_split.specs.Boxes.{Run, IsBox}
use Rattle.pin_match.specs.Hall.{any_below}
use Rattle.problem.specs.declared.parts.ProblemParts.{ProblemParts}
use Rattle.res_model.specs.declared.table.PinUse.{PinUse}
use Rattle.res_model.specs.declared.table.TableParts.{TableParts}
use Rattle.search_api.specs.declared.verdict.Class.{Class}
use Rattle.box_rules.specs.Contest.{Contestant, competes, contestants, is_contestant, joined, resources_of, hall_refutes, uses_in, variable_at, wants}
use Rattle.box_rules.specs.Inside.{AreInside}
use Rattle.box_rules.specs.Judged.{contest, HasResources, IsReady}
use Rattle.box_rules.proofs.ContestLemmas.{as_many_values, box_drop, box_inside}
use Rattle.box_rules.proofs.CountLemmas.{any_in}
use Rattle.box_rules.proofs.MemberLemmas.{no_run, run_at}
use Rattle.refute_check.specs.Counting.{are_of_class, has_resource, is_of_class, is_used}

or_move : (a b c : Bool) → (a || (b || c)) ≡ ((a || b) || c)
or_move true b c = refl
or_move false b c = refl

any_same : (n : ℕ) (f g : ℕ → Bool) → ((i : ℕ) → f i ≡ g i) → any_below n f ≡ any_below n g
any_same zero f g e = refl
any_same (suc n) f g e = rw (any_same n f g e, e n) refl

-- the first of them apart
any_prefix : (n : ℕ) (f : ℕ → Bool) → any_below (suc n) f ≡ (f 0 || any_below n (λ i. f (suc i)))
any_prefix zero f = or_end (f 0)
  where
    or_end : (a : Bool) → (false || a) ≡ (a || false)
    or_end true = refl
    or_end false = refl
any_prefix (suc n) f = ap (λ b. b || f (suc n)) (any_prefix n f) ∙ sym (or_move (f 0) (any_below n (λ i. f (suc i))) (f (suc n)))

-- ---- whose variable it is

module _ (class : Class) where
  of_class_before : (first : ℕ) (uses : List (List PinUse)) (v : ℕ) → v < first → is_of_class class first uses v ≡ false
  of_class_before first [] v l = refl
  of_class_before first (us ∷ uss) v l =
      let other : (first == v) ≡ false = grind (arith, nat_tests, l) in
      neither (competes class us) (first == v) (is_of_class class (first + 1) uss v) other (of_class_before (first + 1) uss v (omega arith))
    where
      neither : (a b c : Bool) → b ≡ false → c ≡ false → ((a && b) || c) ≡ false
      neither true b c e f = rw (e, f) refl
      neither false b c e f = f

  of_class_past : (first : ℕ) (uses : List (List PinUse)) (v : ℕ) → first + length uses ≤ v → is_of_class class first uses v ≡ false
  of_class_past first [] v l = refl
  of_class_past first (us ∷ uss) v l =
      let other : (first == v) ≡ false = grind (arith, nat_tests, l) in
      neither (competes class us) (first == v) (is_of_class class (first + 1) uss v) other (of_class_past (first + 1) uss v (omega arith))
    where
      neither : (a b c : Bool) → b ≡ false → c ≡ false → ((a && b) || c) ≡ false
      neither true b c e f = rw (e, f) refl
      neither false b c e f = f

  pub no_signal : (first : ℕ) (uses : List (List PinUse)) (v : ℕ) → (v < first) ⊎ (first + length uses ≤ v) → is_of_class class first uses v ≡ false
  no_signal first uses v h = elim h [
    | inl l ↦ of_class_before first uses v l
    | inr l ↦ of_class_past first uses v l
  ]

  pub of_class_at : (first : ℕ) (uses : List (List PinUse)) (v k : ℕ) → v ≡ first + k → k < length uses → is_of_class class first uses v ≡ competes class (get_or uses k [])
  of_class_at first [] v k e l = absurd (omega arith)
  of_class_at first (us ∷ uss) v zero e l =
      let here : (first == v) ≡ true = grind (arith, nat_tests, e) in
      this (competes class us) (first == v) (is_of_class class (first + 1) uss v) here (of_class_before (first + 1) uss v (omega arith))
    where
      this : (a b c : Bool) → b ≡ true → c ≡ false → ((a && b) || c) ≡ a
      this true b c e f = rw e refl
      this false b c e f = f
  of_class_at first (us ∷ uss) v (suc k) e l =
      let other : (first == v) ≡ false = grind (arith, nat_tests, e) in
      next (competes class us) (first == v) (is_of_class class (first + 1) uss v) other ∙ of_class_at (first + 1) uss v k (omega arith) (omega arith)
    where
      next : (a b c : Bool) → b ≡ false → ((a && b) || c) ≡ c
      next true b c e = rw e refl
      next false b c e = refl

  contestant_is : (first : ℕ) (uses : List (List PinUse)) (rs : List Run) (v : ℕ) → AreInside uses rs → is_contestant (contestants class first uses rs) v ≡ is_of_class class first uses v
  contestant_is first [] rs v h = refl
  contestant_is first (us ∷ uss) [] v h = absurd h
  contestant_is first (us ∷ uss) (r ∷ rs) v h = by (competes class us) (contestant_is (first + 1) uss rs v h.1)
    where
      by : (b : Bool) → is_contestant (contestants class (first + 1) uss rs) v ≡ is_of_class class (first + 1) uss v
          → is_contestant (joined b record { variable = first; uses = uses_in us r } (contestants class (first + 1) uss rs)) v ≡ ((b && (first == v)) || is_of_class class (first + 1) uss v)
      by true e = any_prefix (length (contestants class (first + 1) uss rs)) (λ i. variable_at (record { variable = first; uses = uses_in us r } ∷ contestants class (first + 1) uss rs) i == v) ∙ ap (λ b. (first == v) || b) e
      by false e = e

-- ---- whether all are

not_false : (a : Bool) → a ≡ true → not a ≡ false
not_false a e = rw e refl

pub outsider : (class : Class) (first : ℕ) (uses : List (List PinUse)) (vars : VarSet) (v : ℕ) → v < 192 → in_set vars v ≡ true → is_of_class class first uses v ≡ false → are_of_class class first uses vars ≡ false
unfolding are_of_class
outsider class first uses vars v l e f =
    let here : (in_set vars v && not (is_of_class class first uses v)) ≡ true = rw (e, f) refl in
    not_false (any_below 192 (λ w. in_set vars w && not (is_of_class class first uses w))) (any_in 192 (λ w. in_set vars w && not (is_of_class class first uses w)) v l here)

pub no_outsider : (class : Class) (first : ℕ) (uses : List (List PinUse)) (vars : VarSet) (n : ℕ) → n ≡ 192 → any_below n (λ v. in_set vars v && not (is_of_class class first uses v)) ≡ false → are_of_class class first uses vars ≡ true
unfolding are_of_class
no_outsider class first uses vars n e f = ap not (ap (λ (k : ℕ). any_below k (λ v. in_set vars v && not (is_of_class class first uses v))) (sym e) ∙ f)

-- ---- whose resource it is

module _ (t : TableParts) (class : Class) (vars : VarSet) where
  -- whether one of these has the resource, and its variable is in the set
  abbrev among : List Contestant → ℕ → Bool
  among cs r = any_below (length cs) (λ i. in_set vars (variable_at cs i) && wants t class cs i r)

  used_is : (first : ℕ) (uses : List (List PinUse)) (rs : List Run) (r : ℕ) → AreInside uses rs → among (contestants class first uses rs) r ≡ is_used t class vars first uses rs r
  used_is first [] rs r h = refl
  used_is first (us ∷ uss) [] r h = absurd h
  used_is first (us ∷ uss) (run ∷ rs) r h = by (competes class us) (used_is (first + 1) uss rs r h.1)
    where
      by : (b : Bool) → among (contestants class (first + 1) uss rs) r ≡ is_used t class vars (first + 1) uss rs r
          → among (joined b record { variable = first; uses = uses_in us run } (contestants class (first + 1) uss rs)) r ≡ (((b && in_set vars first) && has_resource t class (uses_in us run) r) || is_used t class vars (first + 1) uss rs r)
      by true e =
          let all : List Contestant = record { variable = first; uses = uses_in us run } ∷ contestants class (first + 1) uss rs in
          any_prefix (length (contestants class (first + 1) uss rs)) (λ i. in_set vars (variable_at all i) && wants t class all i r)
          ∙ ap (λ b. (in_set vars first && has_resource t class (uses_in us run) r) || b) e
      by false e = e

  -- the two counts
  pub hall_is : (first : ℕ) (uses : List (List PinUse)) (rs : List Run) (found : VarSet) → AreInside uses rs → ((r : ℕ) → in_set found r ≡ is_used t class vars first uses rs r)
      → (are_of_class class first uses vars && nat_lt (set_size found) (set_size vars)) ≡ hall_refutes t class (contestants class first uses rs) vars
  unfolding hall_refutes set_size are_of_class
  hall_is first uses rs found h f =
      let cs : List Contestant = contestants class first uses rs in
      let a = ap not (any_same 192 (λ v. in_set vars v && not (is_of_class class first uses v)) (λ v. in_set vars v && not (is_contestant cs v)) (λ v. ap (λ b. in_set vars v && not b) (sym (contestant_is class first uses rs v h)))) in
      let n = sum_same 192 (λ v. one_if (in_set found v)) (λ r. one_if (among cs r)) (λ r l. ap one_if (f r ∙ sym (used_is first uses rs r h))) in
      ap (λ b. b && nat_lt (sum_below 192 (λ v. one_if (in_set found v))) (sum_below 192 (λ v. one_if (in_set vars v)))) a
      ∙ ap (λ k. not (any_below 192 (λ v. in_set vars v && not (is_contestant cs v))) && nat_lt k (sum_below 192 (λ v. one_if (in_set vars v)))) n

  pub hall_not : (first : ℕ) (uses : List (List PinUse)) (rs : List Run) → AreInside uses rs → are_of_class class first uses vars ≡ false → false ≡ hall_refutes t class (contestants class first uses rs) vars
  unfolding hall_refutes are_of_class
  hall_not first uses rs h e =
      let cs : List Contestant = contestants class first uses rs in
      let a = ap not (any_same 192 (λ v. in_set vars v && not (is_of_class class first uses v)) (λ v. in_set vars v && not (is_contestant cs v)) (λ v. ap (λ b. in_set vars v && not b) (sym (contestant_is class first uses rs v h)))) in
      ap (λ b. b && nat_lt (resources_of t class cs vars) (sum_below 192 (λ v. one_if (in_set vars v)))) (sym e ∙ a)

-- ---- one signal more

runs_length : (n : ℕ) (lo hi : List ℕ) → n ≤ length lo → n ≤ length hi → length (runs_in n lo hi) ≡ n
runs_length zero lo hi a b = refl
runs_length (suc n) [] hi a b = absurd (omega arith)
runs_length (suc n) (x ∷ lo) [] a b = absurd (omega arith)
runs_length (suc n) (x ∷ lo) (y ∷ hi) a b = ap suc (runs_length n lo hi (omega arith) (omega arith))

module _ (t : TableParts) (class : Class) (vars : VarSet) (first : ℕ) (uses : List (List PinUse)) (lo hi : List ℕ) (a : length uses ≤ length lo) (b : length uses ≤ length hi) where
  -- what is had by the signals from one on
  abbrev pub rest_used : ℕ → ℕ → Bool
  rest_used s r = is_used t class vars (first + s) (drop s uses) (drop s (runs_in (length uses) lo hi)) r

  pub used_step : (s r : ℕ) → s < length uses
      → rest_used s r ≡ (((competes class (get_or uses s []) && in_set vars (first + s)) && has_resource t class (uses_in (get_or uses s []) record { low = get_or lo s 0; high = get_or hi s 0 }) r) || rest_used (s + 1) r)
  used_step s r l =
      let n = length uses in
      let rs = runs_in n lo hi in
      let us = get_or uses s [] in
      let k : s < length rs = omega (arith, runs_length n lo hi a b) in
      let next : (first + s) + 1 ≡ first + (s + 1) = omega arith in
      ap (λ (xs : List (List PinUse)). is_used t class vars (first + s) xs (drop s rs) r) (drop_more uses s [] l)
      ∙ ap (λ (ys : List Run). is_used t class vars (first + s) (us ∷ drop (s + 1) uses) ys r) (drop_more rs s no_run k)
      ∙ ap (λ (run : Run). ((competes class us && in_set vars (first + s)) && has_resource t class (uses_in us run) r) || is_used t class vars ((first + s) + 1) (drop (s + 1) uses) (drop (s + 1) rs) r) (run_at n lo hi s l a b)
      ∙ ap (λ (v : ℕ). ((competes class us && in_set vars (first + s)) && has_resource t class (uses_in us record { low = get_or lo s 0; high = get_or hi s 0 }) r) || is_used t class vars v (drop (s + 1) uses) (drop (s + 1) rs) r) next

  pub used_start : (r : ℕ) → rest_used 0 r ≡ is_used t class vars first uses (runs_in (length uses) lo hi) r
  used_start r = let e : first + 0 ≡ first = omega arith in ap (λ (v : ℕ). is_used t class vars v uses (runs_in (length uses) lo hi) r) e

  pub used_end : (s r : ℕ) → length uses ≤ s → rest_used s r ≡ false
  used_end s r l = ap (λ (xs : List (List PinUse)). is_used t class vars (first + s) xs (drop s (runs_in (length uses) lo hi)) r) (drop_all s uses l)

  -- a signal that counts, and one that does not
  pub counted : (s r : ℕ) (old new : Bool) → s < length uses → (competes class (get_or uses s []) && in_set vars (first + s)) ≡ true
      → new ≡ (old || has_resource t class (uses_in (get_or uses s []) record { low = get_or lo s 0; high = get_or hi s 0 }) r) → (new || rest_used (s + 1) r) ≡ (old || rest_used s r)
  counted s r old new l c e =
      let here = has_resource t class (uses_in (get_or uses s []) record { low = get_or lo s 0; high = get_or hi s 0 }) r in
      ap (λ x. x || rest_used (s + 1) r) e ∙ sym (or_move old here (rest_used (s + 1) r))
      ∙ ap (λ x. old || ((x && here) || rest_used (s + 1) r)) (sym c) ∙ ap (λ x. old || x) (sym (used_step s r l))

  pub passed : (s r : ℕ) (old : Bool) → s < length uses → (competes class (get_or uses s []) && in_set vars (first + s)) ≡ false → (old || rest_used (s + 1) r) ≡ (old || rest_used s r)
  passed s r old l c =
      let here = has_resource t class (uses_in (get_or uses s []) record { low = get_or lo s 0; high = get_or hi s 0 }) r in
      ap (λ x. old || ((x && here) || rest_used (s + 1) r)) (sym c) ∙ ap (λ x. old || x) (sym (used_step s r l))

-- ---- the runs of the signals

pub runs_drop : (k n : ℕ) (lo hi : List ℕ) → n ≤ length lo → n ≤ length hi → runs_in (n - k) (drop k lo) (drop k hi) ≡ drop k (runs_in n lo hi)
runs_drop zero n lo hi a b = let e : n - zero ≡ n = omega arith in ap (λ (m : ℕ). runs_in m lo hi) e
runs_drop (suc k) zero lo hi a b = let e : zero - suc k ≡ 0 = omega arith in ap (λ (m : ℕ). runs_in m (drop (suc k) lo) (drop (suc k) hi)) e
runs_drop (suc k) (suc n) [] hi a b = absurd (omega arith)
runs_drop (suc k) (suc n) (x ∷ lo) [] a b = absurd (omega arith)
runs_drop (suc k) (suc n) (x ∷ lo) (y ∷ hi) a b = let e : suc n - suc k ≡ n - k = omega arith in ap (λ (m : ℕ). runs_in m (drop k lo) (drop k hi)) e ∙ runs_drop k n lo hi (omega arith) (omega arith)

-- ---- in a problem

module _ (p : ProblemParts) (ready : IsReady p) (b : BoxBuf) (is_box : IsBox p.shape (box_in p.shape b)) (lows : length b.lo ≡ 170) (highs : length b.hi ≡ 170) where
  pub as_many_uses : length p.uses ≡ length p.shape - p.first
  as_many_uses = as_many_values (drop p.first p.shape) p.uses ready.sizes ∙ length-drop p.first p.shape

  -- the runs of the signals
  pub signal_runs : runs_in (length p.uses) (drop p.first b.lo) (drop p.first b.hi) ≡ drop p.first (box_in p.shape b)
  signal_runs =
      ap (λ (n : ℕ). runs_in n (drop p.first b.lo) (drop p.first b.hi)) as_many_uses
      ∙ runs_drop p.first (length p.shape) b.lo b.hi (omega (arith, ready.shape.few, lows)) (omega (arith, ready.shape.few, highs))

  pub signals_inside : AreInside p.uses (runs_in (length p.uses) (drop p.first b.lo) (drop p.first b.hi))
  signals_inside = subst (AreInside p.uses) (sym signal_runs) (box_inside (drop p.first p.shape) p.uses (drop p.first (box_in p.shape b)) ready.sizes (box_drop p.first p.shape (box_in p.shape b) is_box))

-- what a count asks of its arguments
pub record CanCount (first : ℕ) (uses : List (List PinUse)) (t : TableParts) (lo hi : List ℕ) : Type 0 where
  pub few : first + length uses ≤ 192
  pub low : length uses ≤ length lo
  pub high : length uses ≤ length hi
  pub inside : AreInside uses (runs_in (length uses) lo hi)
  pub resources : Each (Each (HasResources t)) uses

-- the arguments are those of the problem and the box
pub record AreOf (p : ProblemParts) (b : BoxBuf) (first : ℕ) (uses : List (List PinUse)) (t : TableParts) (lo hi : List ℕ) : Type 0 where
  pub first_is : first ≡ p.first
  pub uses_are : uses ≡ p.uses
  pub tables_are : t ≡ p.tables
  pub lo_is : lo ≡ drop p.first b.lo
  pub hi_is : hi ≡ drop p.first b.hi

module _ (p : ProblemParts) (ready : IsReady p) (b : BoxBuf) (is_box : IsBox p.shape (box_in p.shape b)) (lows : length b.lo ≡ 170) (highs : length b.hi ≡ 170) where
  own_count : CanCount p.first p.uses p.tables (drop p.first b.lo) (drop p.first b.hi)
  own_count =
      let many = as_many_uses p ready b is_box lows highs in
      record {
        few = omega (arith, many, ready.shape.few, ready.first);
        low = omega (arith, many, ready.shape.few, lows, length-drop p.first b.lo);
        high = omega (arith, many, ready.shape.few, highs, length-drop p.first b.hi);
        inside = signals_inside p ready b is_box lows highs;
        resources = ready.resources;
      }

  pub can_count : (first : ℕ) (uses : List (List PinUse)) (t : TableParts) (lo hi : List ℕ) → AreOf p b first uses t lo hi → CanCount first uses t lo hi
  can_count first uses t lo hi e =
      subst (λ (n : ℕ). CanCount n uses t lo hi) (sym e.first_is)
      (subst (λ (xs : List (List PinUse)). CanCount p.first xs t lo hi) (sym e.uses_are)
      (subst (λ (x : TableParts). CanCount p.first p.uses x lo hi) (sym e.tables_are)
      (subst (λ (xs : List ℕ). CanCount p.first p.uses p.tables xs hi) (sym e.lo_is)
      (subst (λ (xs : List ℕ). CanCount p.first p.uses p.tables (drop p.first b.lo) xs) (sym e.hi_is) own_count))))

  pub count_is : (class : Class) (vars : VarSet) (first : ℕ) (uses : List (List PinUse)) (t : TableParts) (lo hi : List ℕ) → AreOf p b first uses t lo hi
      → hall_refutes t class (contestants class first uses (runs_in (length uses) lo hi)) vars ≡ hall_refutes p.tables class (contest p class (box_in p.shape b)) vars
  count_is class vars first uses t lo hi e =
      ap (λ (n : ℕ). hall_refutes t class (contestants class n uses (runs_in (length uses) lo hi)) vars) e.first_is
      ∙ ap (λ (xs : List (List PinUse)). hall_refutes t class (contestants class p.first xs (runs_in (length xs) lo hi)) vars) e.uses_are
      ∙ ap (λ (x : TableParts). hall_refutes x class (contestants class p.first p.uses (runs_in (length p.uses) lo hi)) vars) e.tables_are
      ∙ ap (λ (xs : List ℕ). hall_refutes p.tables class (contestants class p.first p.uses (runs_in (length p.uses) xs hi)) vars) e.lo_is
      ∙ ap (λ (xs : List ℕ). hall_refutes p.tables class (contestants class p.first p.uses (runs_in (length p.uses) (drop p.first b.lo) xs)) vars) e.hi_is
      ∙ ap (λ (rs : List Run). hall_refutes p.tables class (contestants class p.first p.uses rs) vars) (signal_runs p ready b is_box lows highs)
