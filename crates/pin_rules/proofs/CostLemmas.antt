-- What needs and other signals pay.
use Rattle.std.proofs.Common.{◌≡◌, ℕ, ◌<◌, List, [], ◌∷◌, ◌++◌, Bool, true, false, not, ◌||◌, cond, length, Option, Some, None, inl, inr, refl, sym, ap, subst}
use Rattle.std.specs.Prelude.{IsSomeAnd}
use Rattle.std.specs.List.{list_any}
use Rattle.std.proofs.lemmas.Bool.Decides.{eqb_tells}
use Rattle.choice_rank.specs.declared.variable.Costs.TheVariants.{HomeFirst, AllOne}
use Rattle.res_base.specs.Lists.{Each}
use Rattle.res_model.specs.declared.table.Mode.{Mode}
use Rattle.res_model.specs.declared.table.PinUse.{PinUse}
use Rattle.res_model.specs.Placed.{rows_named}
use Rattle.res_model.specs.Signals.{signal_named, rows_of, own_mode}
use Rattle.res_model.specs.Values.{is_at, rows_at, rows_elsewhere, use_at, placed, values_from, values_of, home_costs, costs_from, costs_of}
use Rattle.pin_rules.specs.Laws.{NeedsAreFree, IsAt, IsFirstAt, OthersPay, PaysToLeave}

-- ---- needs
pub needs_are_free : NeedsAreFree
unfolding values_of costs_of rows_named
needs_are_free t s p n =
    let home : s.home ≡ None = (p.needed n).0 in
    (rw home refl, rw home refl)

-- ---- others
there : (home : ℕ) (u : PinUse) → is_at home u ≡ true → IsAt (Some home) u
there home u e = elim (eqb_tells u.pin home) [ inl y ↦ ap Some (sym y.1) | inr n ↦ absurd cc ]

apart : (home : ℕ) (u : PinUse) → is_at home u ≡ false → ¬ IsAt (Some home) u
apart home u e a = elim (eqb_tells u.pin home) [ inl y ↦ absurd cc | inr n ↦ let same : home ≡ u.pin = cc in n.1 (sym same) ]

-- the first row at home comes first
first_at : (home : ℕ) (rows more : List PinUse) → list_any (is_at home) rows ≡ true → IsFirstAt (Some home) (rows_at home rows ++ more)
first_at home [] more any = absurd cc
first_at home (row ∷ rows) more any = case (is_at home row) refl any (first_at home rows more)
  where
    case : (b : Bool) → is_at home row ≡ b → b || list_any (is_at home) rows ≡ true → (list_any (is_at home) rows ≡ true → IsFirstAt (Some home) (rows_at home rows ++ more)) → IsFirstAt (Some home) (cond b (row ∷ rows_at home rows) (rows_at home rows) ++ more)
    case true is any rest = there home row is
    case false is any rest = rest any

none_at : (home : ℕ) (rows : List PinUse) → list_any (is_at home) rows ≡ false → rows_at home rows ≡ []
none_at home [] none = refl
none_at home (row ∷ rows) none = case (is_at home row) none (none_at home rows)
  where
    case : (b : Bool) → b || list_any (is_at home) rows ≡ false → (list_any (is_at home) rows ≡ false → rows_at home rows ≡ []) → cond b (row ∷ rows_at home rows) (rows_at home rows) ≡ []
    case true none rest = absurd cc
    case false none rest = rest none

all_apart : (home : ℕ) (rows : List PinUse) → Each (λ (u : PinUse). ¬ IsAt (Some home) u) (rows_elsewhere home rows)
all_apart home [] = tt
all_apart home (row ∷ rows) = case (is_at home row) refl (all_apart home rows)
  where
    case : (b : Bool) → is_at home row ≡ b → Each (λ (u : PinUse). ¬ IsAt (Some home) u) (rows_elsewhere home rows) → Each (λ (u : PinUse). ¬ IsAt (Some home) u) (cond (not b) (row ∷ rows_elsewhere home rows) (rows_elsewhere home rows))
    case true is rest = rest
    case false is rest = (apart home row is, rest)

others_apart : (locked : Bool) (home : ℕ) (rows : List PinUse) → Each (λ (u : PinUse). ¬ IsAt (Some home) u) (cond locked [] (rows_elsewhere home rows))
others_apart true home rows = tt
others_apart false home rows = all_apart home rows

pays : (rows : List PinUse) (own : Option Mode) (locked : Bool) (home : ℕ) → PaysToLeave (Some home) (placed rows own locked home) (home_costs rows home)
pays [] own locked home = record { never_free = λ e. cc; first = λ e. stays own; elsewhere = λ e. absurd cc }
  where
    stays : (own : Option Mode) → IsFirstAt (Some home) (use_at home own)
    stays None = tt
    stays (Some mode) = refl
pays (row ∷ rows) own locked home = case (list_any (is_at home) (row ∷ rows)) refl
  where
    case : (b : Bool) → list_any (is_at home) (row ∷ rows) ≡ b → PaysToLeave (Some home) (rows_at home (row ∷ rows) ++ (cond locked [] (rows_elsewhere home (row ∷ rows)))) (cond b HomeFirst AllOne)
    case true any = record {
      never_free = λ e. cc;
      first = λ e. first_at home (row ∷ rows) (cond locked [] (rows_elsewhere home (row ∷ rows))) any;
      elsewhere = λ e. absurd cc;
    }
    case false none = record {
      never_free = λ e. cc;
      first = λ e. absurd cc;
      elsewhere = λ e.
          subst (λ (us : List PinUse). Each (λ (u : PinUse). ¬ IsAt (Some home) u) (us ++ (cond locked [] (rows_elsewhere home (row ∷ rows)))))
          (sym (none_at home (row ∷ rows) none)) (others_apart locked home (row ∷ rows));
    }

pays_from : (rows : List PinUse) (own : Option Mode) (locked : Bool) (home : Option ℕ) (pins : ℕ) → IsSomeAnd home (λ h. h < pins) → PaysToLeave home (values_from rows own locked home) (costs_from rows home)
pays_from rows own locked None pins h = absurd h
pays_from rows own locked (Some home) pins h = pays rows own locked home

pub others_pay : OthersPay
unfolding values_of costs_of
others_pay t s p n = pays_from (rows_of (signal_named t s.name)) (own_mode s.name (signal_named t s.name)) s.locked s.home (length t.pins) (p.at_home n)
