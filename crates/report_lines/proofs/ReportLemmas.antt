-- The lines of a report are passed over.
use Rattle.std.proofs.Common.{◌≡◌, ℕ, zero, suc, ◌==◌, List, [], ◌∷◌, ◌++◌, length, Bool, true, false, cond, eqb, inl, inr, Option, Some, None, refl, sym, ap, subst, ◌∙◌, append_assoc, arith}
use Rattle.std.specs.Prelude.{Ok, map, codes, decimal, find, is_some, slice_get, if◌then◌else◌}
use Rattle.std.specs.Str.{bytes_eq}
use Rattle.std.proofs.lemmas.Bool.Decides.{nat_tests}
use Rattle.std.proofs.lemmas.Slice.Eq.{bytes_eq-Decides}
use Rattle.res_base.specs.Fraction.{Fraction}
use Rattle.res_base.specs.Lists.{Each}
use Rattle.res_base.proofs.ListLemmas.{each_map}
use Rattle.res_base.proofs.SumLemmas.{bool_cases}
use Rattle.choice_rank.specs.Choices.{choices_of, cost_of, rank_of}
use Rattle.res_model.specs.Clock.{hse_used, pll_used, nodes_of, hclk_of}
use Rattle.res_model.specs.ClockValues.{has_over, scale_of_step}
use Rattle.clock_tree.specs.ClockText.{source_word, source_line, pll_words, pll_line, hse_line, divider_line, floor, node_line, off_line, pll_node_line, choice_lines, first_nodes, last_nodes, wait_word, supply_line, clock_text}
use Rattle.report.specs.PinText.{mode_text, state_text, pin_name, words_line, pin_line, pin_lines, count_line, pins_text, rank_line}
use Rattle.res_model.specs.Placed.{IsPlaced, is_held}
use Rattle.res_model.specs.Power.{wait_of}
use Rattle.res_model.specs.Signals.{signal_named}
use Rattle.res_model.specs.PinNames.{spot}
use Rattle.res_model.specs.Valid.{IsPin, IsPrinting, IsSignal, IsValid}
use Rattle.res_model.specs.declared.clock.ClockChoice.{ClockChoice}
use Rattle.res_model.specs.declared.clock.Facts.{Facts}
use Rattle.res_model.specs.declared.clock.Nodes.{Nodes}
use Rattle.res_model.specs.declared.clock.Src.{Src}
use Rattle.res_model.specs.declared.clock.Src.TheVariants.{Hsi, Hse, Pll}
use Rattle.res_model.specs.declared.project.Signal.{Signal}
use Rattle.res_model.specs.declared.table.Mode.{Mode}
use Rattle.res_model.specs.declared.table.Mode.TheVariants.{Alt, Input, Output, Analog, Exti, Osc, Held}
use Rattle.res_model.specs.declared.table.Pin.{Pin}
use Rattle.res_model.specs.declared.table.PinUse.{PinUse}
use Rattle.res_model.specs.declared.table.TableParts.{TableParts}
use Rattle.res_model.specs.declared.table.TableSignal.{TableSignal}
use Rattle.reg_machine.specs.declared.op.Op.{Op}
use Rattle.c_print.specs.Text.{c_text_of}
use Rattle.problem.specs.ClockValues.{clock_at}
use Rattle.problem.specs.declared.parts.ProblemParts.{ProblemParts}
use Rattle.box_rules.specs.Judged.{IsWhole, whole_meaning}
use Rattle.refutation.specs.declared.node.Node.{Node}
use Rattle.refutation.specs.Canonical.{IsCanonicalOf}
use Rattle.refutation.specs.Forms.{form_of, FitsBound}
use Rattle.refutation.specs.Reading.{proof_of}
use Rattle.refutation.specs.Spelling.{spelling, ArePassedOver}
use Rattle.report.specs.Placed.{placement_text, uses_of}
use Rattle.report.specs.Reported.{report_text, tree_text}
use Rattle.reason_lines.proofs.LineLemmas.{are_read}
use Rattle.report_lines.proofs.CLemmas.{c_passed}
use Rattle.report_lines.proofs.LineLemmas.{IsClean, Ends, clean_text, clean_append, clean_decimal, above, ends, ends_after, first_line, passed_append, passed_line, passed_none}

-- ---- names
clean_printing : (w : List ℕ) → Each IsPrinting w → IsClean w
clean_printing w h = each_map IsPrinting (λ (c : ℕ). (c == 10) ≡ false) w (λ c p. above c (omega (arith, p.0))) h

got : {X : Type 0} (P : X → Type 0) (xs : List X) (i : ℕ) (x : X) → Each P xs → slice_get xs i ≡ Some x → P x
got P [] i x h e = absurd cc
got P (y ∷ ys) zero x h e = let same : y ≡ x = cc in subst P same h.0
got P (y ∷ ys) (suc i) x h e = got P ys i x h.1 e

found : {X : Type 0} (P : X → Type 0) (test : X → Bool) (xs : List X) (x : X) → Each P xs → find test xs ≡ Some x → P x × (test x ≡ true)
found P test [] x h e = absurd cc
found P test (y ∷ ys) x h e = elim (bool_cases (test y)) [
  | inl t ↦ let z : Some y ≡ Some x = rw t at e in let same : y ≡ x = cc in subst (λ x. P x × (test x ≡ true)) same (h.0, t)
  | inr t ↦ found P test ys x h.1 (rw t at e)
]

signal_clean : (t : TableParts) (s : Signal) → IsValid t → IsPlaced t s → IsClean s.name
unfolding is_held signal_named
signal_clean t s v h = elim (bool_cases (bytes_eq s.name (codes "-"))) [
  | inl e ↦ subst IsClean (sym ((bytes_eq-Decides s.name (codes "-")).0 e)) (clean_text (codes "-") refl)
  | inr e ↦ named (find (λ (u : TableSignal). bytes_eq u.name s.name) t.signals) refl (rw e at h.named)
]
  where
    named : (o : Option TableSignal) → find (λ (u : TableSignal). bytes_eq u.name s.name) t.signals ≡ o → is_some o ≡ true → IsClean s.name
    named None e k = absurd cc
    named (Some u) e k =
        let f = found (IsSignal (length t.pins)) (λ (u : TableSignal). bytes_eq u.name s.name) t.signals u v.signals.each e in
        subst IsClean ((bytes_eq-Decides u.name s.name).0 f.1) (clean_printing u.name f.0.text.printing)

-- a pin's name begins with P
starts : (name : List ℕ) (place : ℕ × ℕ) (rest : List ℕ) → spot name ≡ Some place → bytes_eq (name ++ rest) first_line ≡ false
unfolding spot
starts [] place rest e = absurd cc
starts (p ∷ []) place rest e = absurd cc
starts (p ∷ letter ∷ bs) place rest e = elim (bool_cases (p == 80)) [
  | inl t ↦ let other : eqb p 112 ≡ false = grind (arith, nat_tests, t) in rw other refl
  | inr t ↦ let z : ◌≡◌ {A = Option (ℕ × ℕ)} None (Some place) = rw t at e in absurd cc
]

-- ---- words
mode_clean : (m : Mode) → IsClean (mode_text m)
mode_clean (Alt n) = clean_append (codes "AF") (decimal n) (clean_text (codes "AF") refl) (clean_decimal n)
mode_clean Input = clean_text (codes "INPUT") refl
mode_clean Output = clean_text (codes "OUTPUT") refl
mode_clean Analog = clean_text (codes "ANALOG") refl
mode_clean Exti = clean_text (codes "EXTI") refl
mode_clean Osc = clean_text (codes "OSC") refl
mode_clean Held = clean_text (codes "HELD") refl

either : (b : Bool) (xs ys : List ℕ) → IsClean xs → IsClean ys → IsClean (if b then xs else ys)
either true xs ys h k = h
either false xs ys h k = k

state_clean : (need home : Bool) → IsClean (if need then codes "need" else (if home then codes "kept" else codes "moved"))
state_clean true home = clean_text (codes "need") refl
state_clean false true = clean_text (codes "kept") refl
state_clean false false = clean_text (codes "moved") refl

source_clean : (s : Src) → IsClean (source_word s)
source_clean Hsi = clean_text (codes "HSI") refl
source_clean Hse = clean_text (codes "HSE") refl
source_clean Pll = clean_text (codes "PLL") refl

wait_clean : (o : Option ℕ) → IsClean (wait_word o)
wait_clean None = clean_text (codes "none") refl
wait_clean (Some wait) = clean_decimal wait

-- one more text and a number behind clean bytes
more : (xs word ys : List ℕ) → IsClean xs → IsClean word → IsClean ys → IsClean (xs ++ word ++ ys)
more xs word ys h w k = clean_append (xs ++ word) ys (clean_append xs word h w) k

-- ---- lines of pins
rank_passed : (rank cost choices : ℕ) → ArePassedOver (rank_line rank cost choices)
unfolding rank_line
rank_passed rank cost choices =
    let one = clean_append (codes "rank ") (decimal rank) (clean_text (codes "rank ") refl) (clean_decimal rank) in
    let two = more (codes "rank " ++ decimal rank) (codes " cost ") (decimal cost) one (clean_text (codes " cost ") refl) (clean_decimal cost) in
    let three = more (codes "rank " ++ decimal rank ++ codes " cost " ++ decimal cost) (codes " of ") (decimal choices) two (clean_text (codes " of ") refl) (clean_decimal choices) in
    passed_line (rank_line rank cost choices) (ends (codes "rank " ++ decimal rank ++ codes " cost " ++ decimal cost ++ codes " of " ++ decimal choices) three) refl

count_passed : (n : ℕ) → ArePassedOver (count_line n)
unfolding count_line
count_passed n = passed_line (count_line n) (ends (codes "pins " ++ decimal n) (clean_append (codes "pins ") (decimal n) (clean_text (codes "pins ") refl) (clean_decimal n))) refl

words_end : (pin signal mode state : List ℕ) → IsClean pin → IsClean signal → IsClean mode → IsClean state → Ends (words_line pin signal mode state)
unfolding words_line
words_end pin signal mode state p s m t =
    let space = clean_text (codes " ") refl in
    let one = more pin (codes " ") signal p space s in
    let two = more (pin ++ codes " " ++ signal) (codes " ") mode one space m in
    let three = more (pin ++ codes " " ++ signal ++ codes " " ++ mode) (codes " ") state two space t in
    ends (pin ++ codes " " ++ signal ++ codes " " ++ mode ++ codes " " ++ state) three

words_whole : (pin signal mode state : List ℕ) → words_line pin signal mode state ≡ pin ++ (32 ∷ (signal ++ (32 ∷ (mode ++ (32 ∷ (state ++ 10 ∷ []))))))
unfolding words_line
words_whole pin signal mode state =
    append_assoc (pin ++ codes " " ++ signal ++ codes " " ++ mode ++ codes " ") state (10 ∷ [])
    ∙ append_assoc (pin ++ codes " " ++ signal ++ codes " " ++ mode) (codes " ") (state ++ 10 ∷ [])
    ∙ append_assoc (pin ++ codes " " ++ signal ++ codes " ") mode (32 ∷ (state ++ 10 ∷ []))
    ∙ append_assoc (pin ++ codes " " ++ signal) (codes " ") (mode ++ (32 ∷ (state ++ 10 ∷ [])))
    ∙ append_assoc (pin ++ codes " ") signal (32 ∷ (mode ++ (32 ∷ (state ++ 10 ∷ []))))
    ∙ append_assoc pin (codes " ") (signal ++ (32 ∷ (mode ++ (32 ∷ (state ++ 10 ∷ [])))))

module _ (t : TableParts) (v : IsValid t) where
  at_pin : (o : Option Pin) (i : ℕ) → slice_get t.pins i ≡ o → (s : Signal) → IsClean s.name → (m : Mode) (state : List ℕ) → IsClean state
      → ArePassedOver (words_line (pin_name t i) s.name (mode_text m) state)
  at_pin None i e s h m state k = rw e (passed_line (words_line [] s.name (mode_text m) state) (words_end [] s.name (mode_text m) state tt h (mode_clean m) k) (subst (λ xs. bytes_eq xs first_line ≡ false) (sym (words_whole [] s.name (mode_text m) state)) refl))
  at_pin (Some p) i e s h m state k =
      let is = got IsPin t.pins i p v.pins.each e in
      let rest = 32 ∷ (s.name ++ (32 ∷ (mode_text m ++ (32 ∷ (state ++ 10 ∷ []))))) in
      rw e (passed_line (words_line p.name s.name (mode_text m) state) (words_end p.name s.name (mode_text m) state (clean_printing p.name is.text.printing) h (mode_clean m) k)
      (subst (λ xs. bytes_eq xs first_line ≡ false) (sym (words_whole p.name s.name (mode_text m) state)) (starts p.name (p.port, p.number) rest is.named)))

  pins_passed : (ss : List Signal) (us : List PinUse) → Each (IsPlaced t) ss → ArePassedOver (pin_lines t ss us)
  pins_passed [] us h = passed_none
  pins_passed (s ∷ ss) [] h = passed_none
  pins_passed (s ∷ ss) (u ∷ us) h =
      passed_append (pin_line t s u) (pin_lines t ss us)
      (at_pin (slice_get t.pins u.pin) u.pin refl s (signal_clean t s v h.0) u.mode (state_text s u) (state_clean s.need _))
      (pins_passed ss us h.1)

-- ---- lines of clocks
node_passed : (name : List ℕ) (hertz : ℕ) → IsClean name → bytes_eq (node_line name hertz) first_line ≡ false → ArePassedOver (node_line name hertz)
unfolding node_line
node_passed name hertz h o = passed_line (node_line name hertz) (ends (name ++ codes " " ++ decimal hertz) (more name (codes " ") (decimal hertz) h (clean_text (codes " ") refl) (clean_decimal hertz))) o

off_passed : (name : List ℕ) → IsClean name → bytes_eq (off_line name) first_line ≡ false → ArePassedOver (off_line name)
unfolding off_line
off_passed name h o = passed_line (off_line name) (ends_after name (codes " off" ++ 10 ∷ []) h (ends (codes " off") (clean_text (codes " off") refl))) o

pll_node_passed : (name : List ℕ) (x : Option Fraction) → IsClean name → ((hertz : ℕ) → bytes_eq (node_line name hertz) first_line ≡ false) → bytes_eq (off_line name) first_line ≡ false → ArePassedOver (pll_node_line name x)
pll_node_passed name None h a b = off_passed name h b
pll_node_passed name (Some x) h a b = node_passed name (floor x) h (a (floor x))

first_passed : (n : Nodes) → ArePassedOver (first_nodes n)
unfolding first_nodes node_line off_line
first_passed n =
    let vco_in = pll_node_line (codes "VCO_IN") n.vco_in in
    let vco = pll_node_line (codes "VCO") n.vco in
    let sysclk = node_line (codes "SYSCLK") (floor n.sysclk) in
    let hclk = node_line (codes "HCLK") (floor n.hclk) in
    passed_append (vco_in ++ vco ++ sysclk) hclk
    (passed_append (vco_in ++ vco) sysclk
    (passed_append vco_in vco
    (pll_node_passed (codes "VCO_IN") n.vco_in (clean_text (codes "VCO_IN") refl) (λ hertz. refl) refl)
    (pll_node_passed (codes "VCO") n.vco (clean_text (codes "VCO") refl) (λ hertz. refl) refl))
    (node_passed (codes "SYSCLK") (floor n.sysclk) (clean_text (codes "SYSCLK") refl) refl))
    (node_passed (codes "HCLK") (floor n.hclk) (clean_text (codes "HCLK") refl) refl)

last_passed : (n : Nodes) → ArePassedOver (last_nodes n)
unfolding last_nodes node_line off_line
last_passed n =
    let pclk1 = node_line (codes "PCLK1") (floor n.pclk1) in
    let pclk2 = node_line (codes "PCLK2") (floor n.pclk2) in
    let tim1 = node_line (codes "APB1TIM") (floor n.tim1) in
    let tim2 = node_line (codes "APB2TIM") (floor n.tim2) in
    let clk48 = pll_node_line (codes "CLK48") n.clk48 in
    passed_append (pclk1 ++ pclk2 ++ tim1 ++ tim2) clk48
    (passed_append (pclk1 ++ pclk2 ++ tim1) tim2
    (passed_append (pclk1 ++ pclk2) tim1
    (passed_append pclk1 pclk2
    (node_passed (codes "PCLK1") (floor n.pclk1) (clean_text (codes "PCLK1") refl) refl)
    (node_passed (codes "PCLK2") (floor n.pclk2) (clean_text (codes "PCLK2") refl) refl))
    (node_passed (codes "APB1TIM") (floor n.tim1) (clean_text (codes "APB1TIM") refl) refl))
    (node_passed (codes "APB2TIM") (floor n.tim2) (clean_text (codes "APB2TIM") refl) refl))
    (pll_node_passed (codes "CLK48") n.clk48 (clean_text (codes "CLK48") refl) (λ hertz. refl) refl)

source_passed : (c : ClockChoice) → ArePassedOver (source_line c)
unfolding source_line
source_passed c = passed_line (source_line c) (ends (codes "source " ++ source_word c.src) (clean_append (codes "source ") (source_word c.src) (clean_text (codes "source ") refl) (source_clean c.src))) refl

pll_passed : (b : Bool) (c : ClockChoice) → ArePassedOver (if b then pll_words c else codes "pll off\n")
unfolding pll_words
pll_passed true c =
    let space = clean_text (codes " ") refl in
    let zero = clean_append (codes "pll ") (source_word c.psrc) (clean_text (codes "pll ") refl) (source_clean c.psrc) in
    let one = more (codes "pll " ++ source_word c.psrc) (codes " ") (decimal c.m) zero space (clean_decimal c.m) in
    let two = more (codes "pll " ++ source_word c.psrc ++ codes " " ++ decimal c.m) (codes " ") (decimal c.n) one space (clean_decimal c.n) in
    let three = more (codes "pll " ++ source_word c.psrc ++ codes " " ++ decimal c.m ++ codes " " ++ decimal c.n) (codes " ") (decimal c.p) two space (clean_decimal c.p) in
    let four = more (codes "pll " ++ source_word c.psrc ++ codes " " ++ decimal c.m ++ codes " " ++ decimal c.n ++ codes " " ++ decimal c.p) (codes " ") (decimal c.q) three space (clean_decimal c.q) in
    passed_line (pll_words c) (ends (codes "pll " ++ source_word c.psrc ++ codes " " ++ decimal c.m ++ codes " " ++ decimal c.n ++ codes " " ++ decimal c.p ++ codes " " ++ decimal c.q) four) refl
pll_passed false c = passed_line (codes "pll off\n") (ends (codes "pll off") (clean_text (codes "pll off") refl)) refl

hse_passed : (b : Bool) (f : Facts) → ArePassedOver (if b then codes "hse " ++ (if f.bypass then codes "bypass" else codes "crystal") ++ codes " " ++ decimal f.hse_hz ++ codes "\n" else codes "hse off\n")
hse_passed true f =
    let word = if f.bypass then codes "bypass" else codes "crystal" in
    let one = clean_append (codes "hse ") word (clean_text (codes "hse ") refl) (either f.bypass (codes "bypass") (codes "crystal") (clean_text (codes "bypass") refl) (clean_text (codes "crystal") refl)) in
    let two = more (codes "hse " ++ word) (codes " ") (decimal f.hse_hz) one (clean_text (codes " ") refl) (clean_decimal f.hse_hz) in
    passed_line (codes "hse " ++ word ++ codes " " ++ decimal f.hse_hz ++ codes "\n") (ends (codes "hse " ++ word ++ codes " " ++ decimal f.hse_hz) two) refl
hse_passed false f = passed_line (codes "hse off\n") (ends (codes "hse off") (clean_text (codes "hse off") refl)) refl

divider_passed : (c : ClockChoice) → ArePassedOver (divider_line c)
unfolding divider_line
divider_passed c =
    let zero = clean_append (codes "ahb ") (decimal c.hpre) (clean_text (codes "ahb ") refl) (clean_decimal c.hpre) in
    let one = more (codes "ahb " ++ decimal c.hpre) (codes " apb1 ") (decimal c.ppre1) zero (clean_text (codes " apb1 ") refl) (clean_decimal c.ppre1) in
    let two = more (codes "ahb " ++ decimal c.hpre ++ codes " apb1 " ++ decimal c.ppre1) (codes " apb2 ") (decimal c.ppre2) one (clean_text (codes " apb2 ") refl) (clean_decimal c.ppre2) in
    passed (scale_of_step c.vos) (has_over c.vos) two
  where
    passed : (scale : ℕ) (over : Bool) → IsClean (codes "ahb " ++ decimal c.hpre ++ codes " apb1 " ++ decimal c.ppre1 ++ codes " apb2 " ++ decimal c.ppre2)
        → ArePassedOver (codes "ahb " ++ decimal c.hpre ++ codes " apb1 " ++ decimal c.ppre1 ++ codes " apb2 " ++ decimal c.ppre2 ++ codes " vos " ++ decimal scale ++ cond over (codes " over\n") (codes "\n"))
    passed scale false two =
        let three = more (codes "ahb " ++ decimal c.hpre ++ codes " apb1 " ++ decimal c.ppre1 ++ codes " apb2 " ++ decimal c.ppre2) (codes " vos ") (decimal scale) two (clean_text (codes " vos ") refl) (clean_decimal scale) in
        passed_line (codes "ahb " ++ decimal c.hpre ++ codes " apb1 " ++ decimal c.ppre1 ++ codes " apb2 " ++ decimal c.ppre2 ++ codes " vos " ++ decimal scale ++ codes "\n")
        (ends (codes "ahb " ++ decimal c.hpre ++ codes " apb1 " ++ decimal c.ppre1 ++ codes " apb2 " ++ decimal c.ppre2 ++ codes " vos " ++ decimal scale) three) refl
    passed scale true two =
        let three = more (codes "ahb " ++ decimal c.hpre ++ codes " apb1 " ++ decimal c.ppre1 ++ codes " apb2 " ++ decimal c.ppre2) (codes " vos ") (decimal scale) two (clean_text (codes " vos ") refl) (clean_decimal scale) in
        passed_line (codes "ahb " ++ decimal c.hpre ++ codes " apb1 " ++ decimal c.ppre1 ++ codes " apb2 " ++ decimal c.ppre2 ++ codes " vos " ++ decimal scale ++ codes " over\n")
        (ends_after (codes "ahb " ++ decimal c.hpre ++ codes " apb1 " ++ decimal c.ppre1 ++ codes " apb2 " ++ decimal c.ppre2 ++ codes " vos " ++ decimal scale) (codes " over\n") three (ends (codes " over") (clean_text (codes " over") refl))) refl

choice_passed : (f : Facts) (c : ClockChoice) → ArePassedOver (choice_lines f c)
unfolding choice_lines pll_line hse_line
choice_passed f c =
    passed_append (source_line c ++ pll_line f c ++ hse_line f c) (divider_line c)
    (passed_append (source_line c ++ pll_line f c) (hse_line f c)
    (passed_append (source_line c) (pll_line f c) (source_passed c) (pll_passed (pll_used f c) c))
    (hse_passed (hse_used f c) f))
    (divider_passed c)

supply_passed : (vdd : ℕ) (wait : List ℕ) → IsClean wait → ArePassedOver (supply_line vdd wait)
unfolding supply_line
supply_passed vdd wait h =
    let one = clean_append (codes "vdd ") (decimal vdd) (clean_text (codes "vdd ") refl) (clean_decimal vdd) in
    passed_line (supply_line vdd wait) (ends (codes "vdd " ++ decimal vdd ++ codes " wait " ++ wait) (more (codes "vdd " ++ decimal vdd) (codes " wait ") wait one (clean_text (codes " wait ") refl) h)) refl

clock_passed : (f : Facts) (c : ClockChoice) (wait : Option ℕ) → ArePassedOver (clock_text f c wait)
unfolding clock_text
clock_passed f c wait =
    let n = nodes_of f c in
    let first = passed_line (codes "clock\n") (ends (codes "clock") (clean_text (codes "clock") refl)) refl in
    passed_append (codes "clock\n" ++ choice_lines f c ++ first_nodes n ++ last_nodes n) (supply_line f.vdd (wait_word wait))
    (passed_append (codes "clock\n" ++ choice_lines f c ++ first_nodes n) (last_nodes n)
    (passed_append (codes "clock\n" ++ choice_lines f c) (first_nodes n)
    (passed_append (codes "clock\n") (choice_lines f c) first (choice_passed f c)) (first_passed n))
    (last_passed n))
    (supply_passed f.vdd (wait_word wait) (wait_clean wait))

-- ---- the whole
placement_passed : (p : ProblemParts) (at : List ℕ) → IsValid p.tables → Each (IsPlaced p.tables) p.signals → ArePassedOver (placement_text p at)
unfolding placement_text
placement_passed p at v h =
    let rank = rank_line (rank_of p.shape at) (cost_of p.shape at) (choices_of p.shape) in
    passed_append rank (pins_text p.tables p.signals (uses_of p at)) (rank_passed (rank_of p.shape at) (cost_of p.shape at) (choices_of p.shape))
    (passed_append (count_line (length p.signals)) (pin_lines p.tables p.signals (uses_of p at)) (count_passed (length p.signals)) (pins_passed p.tables v p.signals (uses_of p at) h))

pub report_passed : (p : ProblemParts) (at : List ℕ) (ops : List Op) → IsValid p.tables → Each (IsPlaced p.tables) p.signals → ArePassedOver (report_text p at ops)
unfolding report_text
report_passed p at ops v h =
    let c = clock_at p.clock at in
    passed_append (placement_text p at ++ tree_text p c) (c_text_of ops)
    (passed_append (placement_text p at) (tree_text p c) (placement_passed p at v h) (clock_passed p.facts c (wait_of p.tables p.facts.vdd (hclk_of p.facts c))))
    (c_passed ops)

pub behind_report : (p : ProblemParts) (at : List ℕ) (ops : List Op) (bound : Option ℕ) (nodes : List Node) → IsWhole p → IsValid p.tables → Each (IsPlaced p.tables) p.signals → FitsBound bound → IsCanonicalOf (whole_meaning p) bound nodes
    → proof_of (report_text p at ops ++ spelling bound (map form_of nodes)) ≡ Ok (bound, map form_of nodes)
behind_report p at ops bound nodes w v h b c =
    let r = report_passed p at ops v h in
    ap (λ xs. proof_of (xs ++ spelling bound (map form_of nodes))) r.text_is ∙ are_read p bound nodes r.lines w b c r.passed
