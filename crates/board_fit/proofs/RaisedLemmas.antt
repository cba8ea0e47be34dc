-- A Hall set over the pins alone, told over the board.
use Rattle.std.proofs.Common.{◌≡◌, ℕ, zero, suc, ◌+◌, ◌-◌, ◌<◌, ◌≤◌, ◌==◌, ◌&&◌, List, [], ◌∷◌, length, Bool, true, false, Option, Some, None, refl, sym, ap, ◌∙◌, arith}
use mathlib.Core.Path.{fun_ext}
use Rattle.std.specs.Prelude.{nat_le, option_map}
use Rattle.std.proofs.lemmas.Bool.Decides.{nat_tests}
use Rattle.res_base.specs.declared.var_set.VarSet.{VarSet}
use Rattle.res_base.specs.VarSet.{in_set, IsWords}
use Rattle.res_base.proofs.VarSetLemmas.{same_set}
use Rattle.box_rules.specs.Contest.{competes, contestants, hall_in, joined, named, uses_in, variable_at, wants}
use Rattle.box_rules.specs.Inside.{AreInside}
use Rattle.box_rules.proofs.CountLemmas.{and_yes, any_in, both, some_any}
use Rattle.box_rules.proofs.MemberLemmas.{as_many, member}
use Rattle.box_split.specs.Boxes.{Run}
use Rattle.pin_match.specs.Hall.{any_below}
use Rattle.pin_match.specs.Largest.{hall_of, set_where}
use Rattle.pin_match.proofs.LargestLemmas.{true_both}
use Rattle.pin_match.proofs.WordLemmas.{set_test, set_words}
use Rattle.res_model.specs.declared.table.PinUse.{PinUse}
use Rattle.res_model.specs.declared.table.TableParts.{TableParts}
use Rattle.search_api.specs.declared.verdict.Class.{Class}
use Rattle.proof_shift.specs.Raised.{raised_set}
use Rattle.proof_shift.proofs.RaiseLemmas.{at_least, least_at}

module _ (t : TableParts) (class : Class) where
  -- what each wants rests not on its number
  wants_same : (v w : ℕ) (uses : List (List PinUse)) (rs : List Run) → ◌≡◌ {A = ℕ → ℕ → Bool} (wants t class (contestants class v uses rs)) (wants t class (contestants class w uses rs))
  wants_same v w [] rs = refl
  wants_same v w (us ∷ uss) [] = refl
  wants_same v w (us ∷ uss) (r ∷ rs) = case (competes class us) (wants_same (v + 1) (w + 1) uss rs)
    where
      case : (b : Bool) → ◌≡◌ {A = ℕ → ℕ → Bool} (wants t class (contestants class (v + 1) uss rs)) (wants t class (contestants class (w + 1) uss rs))
          → ◌≡◌ {A = ℕ → ℕ → Bool} (wants t class (joined b record { variable = v; uses = uses_in us r } (contestants class (v + 1) uss rs))) (wants t class (joined b record { variable = w; uses = uses_in us r } (contestants class (w + 1) uss rs)))
      case true e = fun_ext (λ i. at_place i e)
        where
          at_place : (i : ℕ) → ◌≡◌ {A = ℕ → ℕ → Bool} (wants t class (contestants class (v + 1) uss rs)) (wants t class (contestants class (w + 1) uss rs))
              → ◌≡◌ {A = ℕ → Bool} (wants t class (record { variable = v; uses = uses_in us r } ∷ contestants class (v + 1) uss rs) i) (wants t class (record { variable = w; uses = uses_in us r } ∷ contestants class (w + 1) uss rs) i)
          at_place zero q = refl
          at_place (suc i) q = ap (λ (f : ℕ → ℕ → Bool). f i) q
      case false e = e

  module _ (uses : List (List PinUse)) (rs : List Run) (inside : AreInside uses rs) where
    long_same : length (contestants class 10 uses rs) ≡ length (contestants class 0 uses rs)
    long_same = as_many class 10 0 uses rs inside ∙ sym (as_many class 0 0 uses rs inside)

    ten_more : (i : ℕ) → i < length (contestants class 0 uses rs) → variable_at (contestants class 10 uses rs) i ≡ variable_at (contestants class 0 uses rs) i + 10
    ten_more i l =
        let high = member t class 10 0 uses rs inside i (omega (arith, l, long_same)) in
        let low = member t class 0 0 uses rs inside i l in
        omega (arith, high.variable, low.variable)

    here : (s : VarSet) → ℕ → Bool
    here s v = any_below (length (contestants class 10 uses rs)) (λ i. in_set s i && (variable_at (contestants class 10 uses rs) i == v))

    below : (s : VarSet) → ℕ → Bool
    below s v = any_below (length (contestants class 0 uses rs)) (λ i. in_set s i && (variable_at (contestants class 0 uses rs) i == v))

    low_set : (s : VarSet) (v : ℕ) → v < 192 → in_set (named (contestants class 0 uses rs) s) v ≡ below s v
    unfolding named below
    low_set s v l = set_test (λ v. any_below (length (contestants class 0 uses rs)) (λ i. in_set s i && (variable_at (contestants class 0 uses rs) i == v))) v l

    same_test : (s : VarSet) (v : ℕ) → v < 192 → here s v ≡ (nat_le 10 v && in_set (named (contestants class 0 uses rs) s) (v - 10))
    unfolding here below
    same_test s v l = true_both (here s v) (nat_le 10 v && in_set (named (contestants class 0 uses rs) s) (v - 10)) up down
      where
        small : v - 10 < 192
        small = omega (arith, l)

        up : here s v ≡ true → (nat_le 10 v && in_set (named (contestants class 0 uses rs) s) (v - 10)) ≡ true
        up e =
            let some = some_any (length (contestants class 10 uses rs)) (λ i. in_set s i && (variable_at (contestants class 10 uses rs) i == v)) e in
            let parts = both (in_set s some.0) (variable_at (contestants class 10 uses rs) some.0 == v) some.2 in
            let is : variable_at (contestants class 10 uses rs) some.0 ≡ v = grind (arith, nat_tests, parts.1) in
            let within : some.0 < length (contestants class 0 uses rs) = omega (arith, some.1, long_same) in
            let low : variable_at (contestants class 0 uses rs) some.0 ≡ v - 10 = omega (arith, is, ten_more some.0 within) in
            let test : (variable_at (contestants class 0 uses rs) some.0 == v - 10) ≡ true = grind (arith, nat_tests, low) in
            let member_too : below s (v - 10) ≡ true = any_in (length (contestants class 0 uses rs)) (λ i. in_set s i && (variable_at (contestants class 0 uses rs) i == v - 10)) some.0 within (and_yes (in_set s some.0) (variable_at (contestants class 0 uses rs) some.0 == v - 10) parts.0 test) in
            and_yes (nat_le 10 v) (in_set (named (contestants class 0 uses rs) s) (v - 10)) (least_at v (omega (arith, is, ten_more some.0 within))) (low_set s (v - 10) small ∙ member_too)

        down : (nat_le 10 v && in_set (named (contestants class 0 uses rs) s) (v - 10)) ≡ true → here s v ≡ true
        down e =
            let parts = both (nat_le 10 v) (in_set (named (contestants class 0 uses rs) s) (v - 10)) e in
            let more : 10 ≤ v = at_least v parts.0 in
            let in_low : below s (v - 10) ≡ true = sym (low_set s (v - 10) small) ∙ parts.1 in
            let some = some_any (length (contestants class 0 uses rs)) (λ i. in_set s i && (variable_at (contestants class 0 uses rs) i == v - 10)) in_low in
            let tests = both (in_set s some.0) (variable_at (contestants class 0 uses rs) some.0 == v - 10) some.2 in
            let low : variable_at (contestants class 0 uses rs) some.0 ≡ v - 10 = grind (arith, nat_tests, tests.1) in
            let is : variable_at (contestants class 10 uses rs) some.0 ≡ v = omega (arith, low, ten_more some.0 some.1, more) in
            let test : (variable_at (contestants class 10 uses rs) some.0 == v) ≡ true = grind (arith, nat_tests, is) in
            any_in (length (contestants class 10 uses rs)) (λ i. in_set s i && (variable_at (contestants class 10 uses rs) i == v)) some.0 (omega (arith, some.1, long_same)) (and_yes (in_set s some.0) (variable_at (contestants class 10 uses rs) some.0 == v) tests.0 test)

    named_raised : (s : VarSet) → named (contestants class 10 uses rs) s ≡ raised_set (named (contestants class 0 uses rs) s)
    unfolding raised_set here named
    named_raised s =
        let low : VarSet = named (contestants class 0 uses rs) s in
        let q : ℕ → Bool = λ v. nat_le 10 v && in_set low (v - 10) in
        same_set (named (contestants class 10 uses rs) s) (set_where q) (words s) (set_words q) (λ v l. high_set s v l ∙ same_test s v l ∙ sym (set_test q v l))
      where
        words : (s : VarSet) → IsWords (named (contestants class 10 uses rs) s)
        words s = set_words (λ v. any_below (length (contestants class 10 uses rs)) (λ i. in_set s i && (variable_at (contestants class 10 uses rs) i == v)))

        high_set : (s : VarSet) (v : ℕ) → v < 192 → in_set (named (contestants class 10 uses rs) s) v ≡ here s v
        high_set s v l = set_test (λ v. any_below (length (contestants class 10 uses rs)) (λ i. in_set s i && (variable_at (contestants class 10 uses rs) i == v))) v l

    pub hall_raised : hall_in t class (contestants class 10 uses rs) ≡ option_map raised_set (hall_in t class (contestants class 0 uses rs))
    unfolding hall_in
    hall_raised =
        ap (λ (n : ℕ). option_map (named (contestants class 10 uses rs)) (hall_of n 192 (wants t class (contestants class 10 uses rs)))) long_same
        ∙ ap (λ (f : ℕ → ℕ → Bool). option_map (named (contestants class 10 uses rs)) (hall_of (length (contestants class 0 uses rs)) 192 f)) (wants_same 10 0 uses rs)
        ∙ each_raised (hall_of (length (contestants class 0 uses rs)) 192 (wants t class (contestants class 0 uses rs)))
      where
        each_raised : (o : Option VarSet) → option_map (named (contestants class 10 uses rs)) o ≡ option_map raised_set (option_map (named (contestants class 0 uses rs)) o)
        each_raised None = refl
        each_raised (Some s) = ap Some (named_raised s)
