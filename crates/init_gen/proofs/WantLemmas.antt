-- The modes that are wanted, a place at a time; and the setups of a list with one pin.
use Rattle.std.proofs.Common.{◌≡◌, ◌≢◌, ℕ, ◌+◌, ◌<◌, ◌≤◌, List, length, map, get_or, set, replicate, Option, Some, None, inl, inr, sym, subst, ap, ◌∙◌, arith}
use Rattle.std.proofs.lemmas.List.{length-map}
use Rattle.std.proofs.lemmas.Bool.{cases_lt}
use Rattle.std.proofs.lemmas.List.{ext_get_or, get_or-set_other, get_or_past, get_or-replicate, length-replicate, length-set}
use Rattle.std.proofs.lemmas.Grind.{get_or-set_at}
use Rattle.res_model.specs.declared.table.Mode.{Mode}
use Rattle.init_gen.specs.PinWrites.{wanted, IsNarrow, AreWhole}
use Rattle.init_gen.specs.declared.setting.Setup.{Setup}
use Rattle.init_gen.proofs.SettingLemmas.{link}

pub wants_more : (pins : List (Option Setup)) (wants : List (Option Mode)) (p : ℕ) (x : Option Mode) → p < length wants → x ≡ wanted (get_or pins p None)
    → ((k : ℕ) → k < p → ◌≡◌ {A = Option Mode} (get_or wants k None) (wanted (get_or pins k None)))
    → (k : ℕ) → k < p + 1 → ◌≡◌ {A = Option Mode} (get_or (set wants p x) k None) (wanted (get_or pins k None))
wants_more pins wants p x l e before k h = elim (cases_lt k p) [
  | inl y ↦ let apart : k ≢ p = λ q. omega (arith, q) in get_or-set_other wants p k x None apart ∙ before k y
  | inr y ↦ let same : k ≡ p = omega arith in get_or-set_at wants p k x None same l ∙ e ∙ ap (λ n. wanted (get_or pins n None)) (sym same)
]

pub wants_all : (pins : List (Option Setup)) (wants : List (Option Mode)) (n : ℕ) → length wants ≡ n → length pins ≡ n
    → ((k : ℕ) → k < n → ◌≡◌ {A = Option Mode} (get_or wants k None) (wanted (get_or pins k None))) → wants ≡ map wanted pins
wants_all pins wants n ew ep before =
    ext_get_or None wants (map wanted pins) (ew ∙ sym ep ∙ sym (length-map pins wanted)) (λ i l. before i (omega (arith, ew)) ∙ sym (link pins i))

-- one pin that is whole, and no other
none_there : (n q : ℕ) → ◌≡◌ {A = Option Setup} (get_or (replicate n None) q None) None
none_there n q = elim (cases_lt q n) [
  | inl y ↦ get_or-replicate n q None None y
  | inr y ↦ get_or_past (replicate n None) q None (omega (arith, length-replicate {A = Option Setup} n None))
]

other_place : (n p : ℕ) (u : Setup) (q : ℕ) (v : Setup) → q ≢ p → ◌≡◌ {A = Option Setup} (get_or (set (replicate n None) p (Some u)) q None) (Some v) → IsNarrow v.mode
other_place n p u q v d e =
    let h : ◌≡◌ {A = Option Setup} (get_or (set (replicate n None) p (Some u)) q None) (get_or (replicate n None) q None) = get_or-set_other (replicate n None) p q (Some u) None d in
    let k = none_there n q in
    let s : ◌≡◌ {A = Option Setup} (Some v) None = sym e ∙ h ∙ k in
    absurd (cc)

same_place : (n p : ℕ) (u : Setup) (q : ℕ) (v : Setup) → p < n → IsNarrow u.mode → q ≡ p → ◌≡◌ {A = Option Setup} (get_or (set (replicate n None) p (Some u)) q None) (Some v) → IsNarrow v.mode
same_place n p u q v l narrow d e =
    let h : ◌≡◌ {A = Option Setup} (get_or (set (replicate n None) p (Some u)) q None) (Some u) = get_or-set_at (replicate n None) p q (Some u) None d (omega (arith, length-replicate {A = Option Setup} n None)) in
    let t : ◌≡◌ {A = Option Setup} (Some u) (Some v) = sym h ∙ e in
    let s : u ≡ v = cc in subst (λ (x : Setup). IsNarrow x.mode) s narrow

pub whole_one : (n p : ℕ) (u : Setup) → n ≤ 144 → p < n → IsNarrow u.mode → AreWhole (set (replicate n None) p (Some u))
whole_one n p u few l narrow = record {
  few = omega (arith, length-set (replicate {A = Option Setup} n None) p (Some u), length-replicate {A = Option Setup} n None);
  setup = λ q v e. elim (cases_lt p q) [
    | inl y ↦ other_place n p u q v (λ h. omega (arith, h)) e
    | inr y ↦ elim (cases_lt q p) [
      | inl z ↦ other_place n p u q v (λ h. omega (arith, h)) e
      | inr z ↦ same_place n p u q v l narrow (omega arith) e
    ]
  ];
}
