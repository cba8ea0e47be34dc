-- What a Hall set refutes, and what a box without one has.
use Rattle.std.proofs.Common.{◌≡◌, ◌≢◌, ◌⊎◌, ℕ, ◌+◌, ◌-◌, ◌<◌, ◌≤◌, ◌==◌, List, length, get_or, Bool, true, false, ◌&&◌, not, Option, Some, None, inl, inr, refl, sym, subst, ap, ◌∙◌, arith}
use Rattle.std.specs.Prelude.{nat_lt, option_map}
use Rattle.std.specs.List.{list_all}
use Rattle.std.proofs.lemmas.Bool.Decides.{nat_tests}
use Rattle.res_base.specs.declared.var_set.VarSet.{VarSet}
use Rattle.res_base.specs.Sums.{sum_below, one_if}
use Rattle.res_base.specs.VarSet.{in_set}
use Rattle.res_base.proofs.SumLemmas.{split, le_or, bool_cases, sum_le}
use Rattle.box_split.specs.Boxes.{Run, LiesIn, is_single}
use Rattle.pin_match.specs.Assignments.{IsFull}
use Rattle.pin_match.specs.Hall.{IsHall, any_below, is_wanted}
use Rattle.pin_match.specs.Largest.{hall_of}
use Rattle.pin_match.proofs.FreedLemmas.{none_is_full, some_is_hall}
use Rattle.pin_match.proofs.WordLemmas.{set_test}
use Rattle.res_model.specs.declared.table.Mode.{Mode}
use Rattle.res_model.specs.declared.table.Mode.TheVariants.{Exti as interrupt, Held}
use Rattle.problem.specs.Problem.{are_alike}
use Rattle.res_model.specs.declared.table.PinUse.{PinUse}
use Rattle.res_model.specs.declared.table.TableParts.{TableParts}
use Rattle.res_model.specs.Placement.{Fits, fits, is_exti, uses_at}
use Rattle.pin_rules.proofs.FitLemmas.{fits_sentences}
use Rattle.search_api.specs.declared.verdict.Class.{Class}
use Rattle.search_api.specs.declared.verdict.Class.TheVariants.{Pins, Exti}
use Rattle.box_rules.specs.Contest.{Contestant, contestants, hall_in, is_contestant, named, resource_of, resources_of, hall_refutes, variable_at, wants}
use Rattle.box_rules.specs.Inside.{AreInside}
use Rattle.box_rules.proofs.ContestLemmas.{IsChosen, apart_variables, chosen, few_contestants, most_variable, placed}
use Rattle.box_rules.proofs.CountLemmas.{any_in, and_yes, both, inject, some_any}

abbrev pub nothing : PinUse
nothing = record { pin = 0; mode = Held }

exti_is : (m : Mode) → is_exti m ≡ true → m ≡ interrupt
exti_is interrupt h = refl
exti_is _ h = absurd cc

is_exti_of : (m : Mode) → m ≡ interrupt → is_exti m ≡ true
is_exti_of m e = ap is_exti e

-- uses that fit have resources of their own
own : (t : TableParts) (class : Class) (us : List PinUse) (i j : ℕ) (d : PinUse) → Fits t us → (class ≡ Exti → is_exti (get_or us i d).mode ≡ true) → (class ≡ Exti → is_exti (get_or us j d).mode ≡ true)
    → i < j → j < length us → resource_of t class (get_or us i d) ≢ resource_of t class (get_or us j d)
own t Pins us i j d f p q l k = f.pins i j d l k
own t Exti us i j d f p q l k = f.lines i j d l k (exti_is (get_or us i d).mode (p refl)) (exti_is (get_or us j d).mode (q refl))

less_or : (i j : ℕ) → (i < j) ⊎ ((j < i) ⊎ (i ≡ j))
less_or i j = elim (le_or i j) [
  | inl l ↦ inl l
  | inr l ↦ elim (split i j) [ inl e ↦ inr (inr e) | inr d ↦ inr (inl (omega (arith, l, d))) ]
]

not_true : (b : Bool) → not b ≡ true → b ≡ false
not_true true e = cc
not_true false e = refl

contradict : {A : Type 0} (b : Bool) → b ≡ true → b ≡ false → A
contradict b e f = let q : true ≡ false = sym e ∙ f in cc

-- each use in hand has resources below 192
AreSmall : TableParts → List PinUse → Type 0
AreSmall t us = (j : ℕ) → j < length us → (class : Class) → resource_of t class (get_or us j nothing) < 192

chain : (a b c d : ℕ) → a ≤ b → b < c → c ≤ d → a < d
chain a b c d p q r = omega (arith, p, q, r)

not_both : (a b : ℕ) → a < b → b ≤ a → ⊥
not_both a b l k = absurd (omega (arith, l, k))

module _ (t : TableParts) (class : Class) (first : ℕ) (uses : List (List PinUse)) (rs : List Run) (choice : List ℕ) (inside : AreInside uses rs) (lies : LiesIn rs choice) where
  abbrev pub cs : List Contestant
  cs = contestants class first uses rs

  abbrev pub us : List PinUse
  us = uses_at uses choice

  at : (i : ℕ) → i < length cs → IsChosen t class first us cs (is_single rs) nothing i
  at i l = chosen t class nothing first uses rs choice inside lies i l

  module _ (small : (j : ℕ) → j < length us → resource_of t class (get_or us j nothing) < 192) (vars : VarSet) (refuted : hall_refutes t class cs vars ≡ true) where
    parts : (any_below 192 (λ v. in_set vars v && not (is_contestant cs v)) ≡ false) × (resources_of t class cs vars < sum_below 192 (λ v. one_if (in_set vars v)))
    unfolding hall_refutes
    parts =
        let b = both (not (any_below 192 (λ v. in_set vars v && not (is_contestant cs v)))) (nat_lt (resources_of t class cs vars) (sum_below 192 (λ v. one_if (in_set vars v)))) refuted in
        let l : resources_of t class cs vars < sum_below 192 (λ v. one_if (in_set vars v)) = grind (arith, nat_tests, b.1) in
        (not_true (any_below 192 (λ v. in_set vars v && not (is_contestant cs v))) b.0, l)

    member : (v : ℕ) → v < 192 → in_set vars v ≡ true → (i : ℕ) × (i < length cs) × (variable_at cs i ≡ v)
    member v l e = elim (bool_cases (is_contestant cs v)) [
      | inl q ↦ let h = some_any (length cs) (λ i. variable_at cs i == v) q in let s : variable_at cs h.0 ≡ v = grind (arith, nat_tests, h.2) in (h.0, h.1, s)
      | inr q ↦ contradict (any_below 192 (λ w. in_set vars w && not (is_contestant cs w))) (any_in 192 (λ w. in_set vars w && not (is_contestant cs w)) v l (and_yes (in_set vars v) (not (is_contestant cs v)) e (ap not q))) parts.0
    ]

    held : ℕ → ℕ
    held v = resource_of t class (get_or us (v - first) nothing)

    its_place : (v i : ℕ) (l : i < length cs) → variable_at cs i ≡ v → (at i l).place ≡ v - first
    its_place v i l e = omega (arith, (at i l).is, e)

    wanted_by : ℕ → Bool
    wanted_by r = any_below (length cs) (λ i. in_set vars (variable_at cs i) && wants t class cs i r)

    goes : (v : ℕ) → v < 192 → in_set vars v ≡ true → (held v < 192) × (wanted_by (held v) ≡ true)
    unfolding held wanted_by
    goes v l e =
        let m = member v l e in
        let h = at m.0 m.1 in
        let p = its_place v m.0 m.1 m.2 in
        let w : wants t class cs m.0 (held v) ≡ true = ap (λ (k : ℕ). wants t class cs m.0 (resource_of t class (get_or us k nothing))) (sym p) ∙ h.wanted in
        (small (v - first) (subst (λ (k : ℕ). k < length us) p h.within), any_in (length cs) (λ i. in_set vars (variable_at cs i) && wants t class cs i (held v)) m.0 m.1 (and_yes (in_set vars (variable_at cs m.0)) (wants t class cs m.0 (held v)) (ap (in_set vars) m.2 ∙ e) w))

    apart_at : Fits t us → (v x : ℕ) → (in_v : v - first < length us) → (in_x : x - first < length us) → (class ≡ Exti → is_exti (get_or us (v - first) nothing).mode ≡ true) → (class ≡ Exti → is_exti (get_or us (x - first) nothing).mode ≡ true) → held v ≡ held x → v - first ≡ x - first
    unfolding held
    apart_at f v x in_v in_x cv cx same = elim (less_or (v - first) (x - first)) [
      | inl less ↦ absurd (own t class us (v - first) (x - first) nothing f cv cx less in_x same)
      | inr more ↦ elim more [
        | inl less ↦ absurd (own t class us (x - first) (v - first) nothing f cx cv less in_v (sym same))
        | inr equal ↦ equal
      ]
    ]

    stays_apart : Fits t us → (v x : ℕ) → v < 192 → x < 192 → in_set vars v ≡ true → in_set vars x ≡ true → held v ≡ held x → v ≡ x
    stays_apart f v x l k e q same =
        let m = member v l e in
        let n = member x k q in
        let a = at m.0 m.1 in
        let b = at n.0 n.1 in
        let p = its_place v m.0 m.1 m.2 in
        let o = its_place x n.0 n.1 n.2 in
        let equal = apart_at f v x (subst (λ (j : ℕ). j < length us) p a.within) (subst (λ (j : ℕ). j < length us) o b.within) (λ y. subst (λ (j : ℕ). is_exti (get_or us j nothing).mode ≡ true) p (a.competing y)) (λ y. subst (λ (j : ℕ). is_exti (get_or us j nothing).mode ≡ true) o (b.competing y)) same in
        sym m.2 ∙ a.is ∙ ap (λ (j : ℕ). first + j) (p ∙ equal ∙ sym o) ∙ sym b.is ∙ n.2

    -- a choice in the box whose uses fit gives each of them a resource of its own
    fewer : Fits t us → sum_below 192 (λ v. one_if (in_set vars v)) ≤ resources_of t class cs vars
    unfolding wanted_by
    fewer f = inject 192 192 (in_set vars) wanted_by held goes (stays_apart f)

    pub no_choice_fits : fits t us ≡ true → ⊥
    no_choice_fits ok = not_both (resources_of t class cs vars) (sum_below 192 (λ v. one_if (in_set vars v))) parts.1 (fewer (fits_sentences t us ok))

  -- where each variable has one position and all can have a resource, the resources are apart
  module _ (single : is_single rs ≡ true) (full : IsFull (length cs) 192 (wants t class cs)) (alike : list_all are_alike uses ≡ true) where
    pub kept_apart : (i j : ℕ) → i < j → j < length us → (class ≡ Exti → is_exti (get_or us i nothing).mode ≡ true) → (class ≡ Exti → is_exti (get_or us j nothing).mode ≡ true) → resource_of t class (get_or us i nothing) ≢ resource_of t class (get_or us j nothing)
    kept_apart i j l k p q same =
        let a = placed t class nothing first uses rs choice inside lies alike i (omega (arith, l, k)) p in
        let b = placed t class nothing first uses rs choice inside lies alike j k q in
        let g = full.0 in
        let ga = full.2 a.0 a.1 in
        let gb = full.2 b.0 b.1 in
        let ha = at a.0 a.1 in
        let hb = at b.0 b.1 in
        let pa : ha.place ≡ i = omega (arith, ha.is, a.2) in
        let pb : hb.place ≡ j = omega (arith, hb.is, b.2) in
        let ra : resource_of t class (get_or us i nothing) ≡ ga.0 = ap (λ (y : ℕ). resource_of t class (get_or us y nothing)) (sym pa) ∙ ha.only single ga.0 (full.1.in_set a.0 ga.0 a.1 ga.1) in
        let rb : resource_of t class (get_or us j nothing) ≡ gb.0 = ap (λ (y : ℕ). resource_of t class (get_or us y nothing)) (sym pb) ∙ hb.only single gb.0 (full.1.in_set b.0 gb.0 b.1 gb.1) in
        let one : ga.0 ≡ gb.0 = sym ra ∙ same ∙ rb in
        let twice : a.0 ≡ b.0 = full.1.apart a.0 b.0 ga.0 a.1 b.1 ga.1 (gb.1 ∙ ap Some (sym one)) in
        omega (arith, l, a.2, b.2, ap (variable_at (contestants class first uses rs)) twice)

-- ---- the set that is computed refutes the box

module _ (t : TableParts) (class : Class) (first : ℕ) (uses : List (List PinUse)) (rs : List Run) (few : first + length uses ≤ 192) where
  abbrev pub those : List Contestant
  those = contestants class first uses rs

  below : (i : ℕ) → i < length those → variable_at those i < 192
  below i l = omega (arith, most_variable class first uses rs i l, few)

  module _ (s : VarSet) (hall : IsHall (length those) 192 (wants t class those) s) where
    has : (v : ℕ) → v < 192 → in_set (named those s) v ≡ any_below (length those) (λ i. in_set s i && (variable_at those i == v))
    unfolding named
    has v l = set_test (λ v. any_below (length those) (λ i. in_set s i && (variable_at those i == v))) v l

    -- the place of a member
    its : (v : ℕ) → v < 192 → in_set (named those s) v ≡ true → (i : ℕ) × (i < length those) × (in_set s i ≡ true) × (variable_at those i ≡ v)
    its v l e =
        let h = some_any (length those) (λ i. in_set s i && (variable_at those i == v)) (sym (has v l) ∙ e) in
        let p = both (in_set s h.0) (variable_at those h.0 == v) h.2 in
        let same : variable_at those h.0 ≡ v = grind (arith, nat_tests, p.1) in
        (h.0, h.1, p.0, same)

    in_both : (i : ℕ) → i < length those → in_set s i ≡ true → in_set (named those s) (variable_at those i) ≡ true
    in_both i l e =
        let same : (variable_at those i == variable_at those i) ≡ true = grind (arith, nat_tests) in
        has (variable_at those i) (below i l) ∙ any_in (length those) (λ j. in_set s j && (variable_at those j == variable_at those i)) i l (and_yes (in_set s i) (variable_at those i == variable_at those i) e same)

    out_both : (i : ℕ) → i < length those → in_set (named those s) (variable_at those i) ≡ true → in_set s i ≡ true
    out_both i l e =
        let h = its (variable_at those i) (below i l) e in
        let same : h.0 ≡ i = apart_variables class first uses rs h.0 i h.1 l h.3 in
        ap (in_set s) (sym same) ∙ h.2

    compete : any_below 192 (λ v. in_set (named those s) v && not (is_contestant those v)) ≡ false
    compete = elim (bool_cases (any_below 192 (λ v. in_set (named those s) v && not (is_contestant those v)))) [
      | inr e ↦ e
      | inl e ↦
          let h = some_any 192 (λ v. in_set (named those s) v && not (is_contestant those v)) e in
          let p = both (in_set (named those s) h.0) (not (is_contestant those h.0)) h.2 in
          let i = its h.0 h.1 p.0 in
          let same : (variable_at those i.0 == h.0) ≡ true = grind (arith, nat_tests, i.3) in
          contradict (is_contestant those h.0) (any_in (length those) (λ j. variable_at those j == h.0) i.0 i.1 same) (not_true (is_contestant those h.0) p.1)
    ]

    no_more : resources_of t class those (named those s) ≤ sum_below 192 (λ r. one_if (is_wanted (length those) (wants t class those) s r))
    no_more = sum_le 192 (λ r. one_if (any_below (length those) (λ i. in_set (named those s) (variable_at those i) && wants t class those i r))) (λ r. one_if (is_wanted (length those) (wants t class those) s r)) at_each
      where
        at_each : (r : ℕ) → r < 192 → one_if (any_below (length those) (λ i. in_set (named those s) (variable_at those i) && wants t class those i r)) ≤ one_if (is_wanted (length those) (wants t class those) s r)
        at_each r l = elim (bool_cases (any_below (length those) (λ i. in_set (named those s) (variable_at those i) && wants t class those i r))) [
          | inr e ↦ omega (arith, ap one_if e)
          | inl e ↦
              let h = some_any (length those) (λ i. in_set (named those s) (variable_at those i) && wants t class those i r) e in
              let p = both (in_set (named those s) (variable_at those h.0)) (wants t class those h.0 r) h.2 in
              let w : is_wanted (length those) (wants t class those) s r ≡ true = any_in (length those) (λ v. in_set s v && wants t class those v r) h.0 h.1 (and_yes (in_set s h.0) (wants t class those h.0 r) (out_both h.0 h.1 p.0) p.1) in
              omega (arith, ap one_if e, ap one_if w)
        ]

    as_many : sum_below (length those) (λ i. one_if (in_set s i)) ≤ sum_below 192 (λ v. one_if (in_set (named those s) v))
    as_many = inject (length those) 192 (in_set s) (in_set (named those s)) (variable_at those) (λ i l e. (below i l, in_both i l e)) (λ i j l k e q same. apart_variables class first uses rs i j l k same)

    named_refutes : hall_refutes t class those (named those s) ≡ true
    unfolding hall_refutes
    named_refutes =
        let less : resources_of t class those (named those s) < sum_below 192 (λ v. one_if (in_set (named those s) v)) = chain (resources_of t class those (named those s)) (sum_below 192 (λ r. one_if (is_wanted (length those) (wants t class those) s r))) (sum_below (length those) (λ i. one_if (in_set s i))) (sum_below 192 (λ v. one_if (in_set (named those s) v))) no_more hall.more as_many in
        let l : nat_lt (resources_of t class those (named those s)) (sum_below 192 (λ v. one_if (in_set (named those s) v))) ≡ true = grind (arith, nat_tests, less) in
        and_yes (not (any_below 192 (λ v. in_set (named those s) v && not (is_contestant those v)))) (nat_lt (resources_of t class those (named those s)) (sum_below 192 (λ v. one_if (in_set (named those s) v)))) (ap not compete) l

  computed_refutes : (o : Option VarSet) (vars : VarSet) → hall_of (length those) 192 (wants t class those) ≡ o → option_map (named those) o ≡ Some vars → hall_refutes t class those vars ≡ true
  computed_refutes None vars e h = let q : ◌≡◌ {A = Option VarSet} None (Some vars) = h in cc
  computed_refutes (Some s) vars e h =
      let q : ◌≡◌ {A = Option VarSet} (Some (named those s)) (Some vars) = h in
      let same : named those s ≡ vars = cc (q) in
      subst (λ (x : VarSet). hall_refutes t class those x ≡ true) same
      (named_refutes s (some_is_hall (length those) 192 (wants t class those) s (omega (arith, few_contestants class first uses rs, few)) e))

  pub found_hall_refutes : (vars : VarSet) → hall_in t class those ≡ Some vars → hall_refutes t class those vars ≡ true
  unfolding hall_in
  found_hall_refutes vars h = computed_refutes (hall_of (length those) 192 (wants t class those)) vars refl h

  none_at : (o : Option VarSet) → hall_of (length those) 192 (wants t class those) ≡ o → option_map (named those) o ≡ None → IsFull (length those) 192 (wants t class those)
  none_at None e h = none_is_full (length those) 192 (wants t class those) e
  none_at (Some s) e h = let q : ◌≡◌ {A = Option VarSet} (Some (named those s)) None = h in cc

  pub none_full : hall_in t class those ≡ None → IsFull (length those) 192 (wants t class those)
  unfolding hall_in
  none_full h = none_at (hall_of (length those) 192 (wants t class those)) refl h
