-- Setups of no pin, and of one more.
use Rattle.std.proofs.Common.{◌≡◌, ◌≢◌, ℕ, ◌<◌, ◌≤◌, List, length, get_or, set, replicate, Option, Some, None, inl, inr, sym, subst, ◌∙◌, arith}
use Rattle.std.proofs.lemmas.Bool.{cases_lt}
use Rattle.std.proofs.lemmas.List.{get_or-set_other, get_or_past, get_or-replicate, length-replicate, length-set}
use Rattle.std.proofs.lemmas.Grind.{get_or-set_at}
use Rattle.init_gen.specs.PinWrites.{IsNarrow, AreWhole}
use Rattle.init_gen.specs.declared.setting.Setup.{Setup}

none_there : (n q : ℕ) → ◌≡◌ {A = Option Setup} (get_or (replicate n None) q None) None
none_there n q = elim (cases_lt q n) [
  | inl y ↦ get_or-replicate n q None None y
  | inr y ↦ get_or_past (replicate n None) q None (omega (arith, length-replicate {A = Option Setup} n None))
]

pub whole_none : (n : ℕ) → n ≤ 144 → AreWhole (replicate n None)
whole_none n few = record {
  few = omega (arith, few, length-replicate {A = Option Setup} n None);
  setup = λ q v e. let s : ◌≡◌ {A = Option Setup} (Some v) None = sym e ∙ none_there n q in absurd (cc);
}

other_place : (pins : List (Option Setup)) (p : ℕ) (u : Setup) (q : ℕ) (v : Setup) → AreWhole pins → q ≢ p → ◌≡◌ {A = Option Setup} (get_or (set pins p (Some u)) q None) (Some v) → IsNarrow v.mode
other_place pins p u q v whole d e =
    let h : ◌≡◌ {A = Option Setup} (get_or (set pins p (Some u)) q None) (get_or pins q None) = get_or-set_other pins p q (Some u) None d in
    whole.setup q v (sym h ∙ e)

same_place : (pins : List (Option Setup)) (p : ℕ) (u : Setup) (q : ℕ) (v : Setup) → p < length pins → IsNarrow u.mode → q ≡ p → ◌≡◌ {A = Option Setup} (get_or (set pins p (Some u)) q None) (Some v) → IsNarrow v.mode
same_place pins p u q v l narrow d e =
    let h : ◌≡◌ {A = Option Setup} (get_or (set pins p (Some u)) q None) (Some u) = get_or-set_at pins p q (Some u) None d l in
    let t : ◌≡◌ {A = Option Setup} (Some u) (Some v) = sym h ∙ e in
    let s : u ≡ v = cc in subst (λ (x : Setup). IsNarrow x.mode) s narrow

pub whole_set : (pins : List (Option Setup)) (p : ℕ) (u : Setup) → AreWhole pins → p < length pins → IsNarrow u.mode → AreWhole (set pins p (Some u))
whole_set pins p u whole l narrow = record {
  few = omega (arith, length-set pins p (Some u), whole.few);
  setup = λ q v e. elim (cases_lt p q) [
    | inl y ↦ other_place pins p u q v whole (λ h. omega (arith, h)) e
    | inr y ↦ elim (cases_lt q p) [
      | inl z ↦ other_place pins p u q v whole (λ h. omega (arith, h)) e
      | inr z ↦ same_place pins p u q v l narrow (omega arith) e
    ]
  ];
}
