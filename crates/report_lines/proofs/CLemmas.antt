-- The lines of a C text are passed over.
use Rattle.std.proofs.Common.{◌≡◌, ℕ, ◌+◌, ◌/◌, ◌%◌, ◌==◌, List, [], ◌∷◌, ◌++◌, Bool, true, false, ltb, inl, inr, refl, arith}
use Rattle.std.specs.Prelude.{codes, decimal}
use Rattle.std.specs.Str.{bytes_eq}
use Rattle.res_base.specs.Lists.{Each}
use Rattle.res_base.proofs.SumLemmas.{bool_cases}
use Rattle.reg_map.specs.Registers.{address}
use Rattle.reg_machine.specs.declared.op.Op.{Op}
use Rattle.reg_machine.specs.declared.op.Op.TheVariants as op
use Rattle.reg_machine.specs.declared.op.Timeout.{Timeout}
use Rattle.reg_machine.specs.declared.op.Timeout.TheVariants as timeout
use Rattle.c_print.specs.declared.part.Part.{Part}
use Rattle.c_print.specs.declared.part.Part.TheVariants as part
use Rattle.c_print.specs.Text.{part_text, digit, digits_2, digits_4, digits_8, hex, number_after, timeout_name, await_end, op_line, awaits_over, answers_part, body_lines, c_lines, c_text_of}
use Rattle.refutation.specs.Spelling.{ArePassedOver}
use Rattle.report_lines.proofs.LineLemmas.{IsClean, Ends, clean_text, clean_append, clean_decimal, above, ends, ends_after, first_line, passed_concat, passed_line}

-- ---- words
clean_digit : (n : ℕ) → (digit n == 10) ≡ false
unfolding digit
clean_digit n = elim (bool_cases (ltb n 10)) [ inl e ↦ rw e (above (48 + n) (omega arith)) | inr e ↦ rw e (above (55 + n) (omega arith)) ]

two : (n : ℕ) → IsClean (digits_2 n)
unfolding digits_2
two n = (clean_digit (n / 16), (clean_digit (n % 16), tt))

four : (n : ℕ) → IsClean (digits_4 n)
unfolding digits_4
four n = clean_append (digits_2 (n / 256)) (digits_2 (n % 256)) (two (n / 256)) (two (n % 256))

eight : (n : ℕ) → IsClean (digits_8 n)
unfolding digits_8
eight n = clean_append (digits_4 (n / 65536)) (digits_4 (n % 65536)) (four (n / 65536)) (four (n % 65536))

clean_hex : (n : ℕ) → IsClean (hex n)
unfolding hex part_text
clean_hex n = clean_append (codes "0x") (digits_8 n ++ codes "u") (clean_text (codes "0x") refl) (clean_append (digits_8 n) (codes "u") (eight n) (clean_text (codes "u") refl))

after : (x : Part) (n : ℕ) → IsClean (part_text x) → IsClean (number_after x n)
after x n h = clean_append (part_text x) (hex n) h (clean_hex n)

-- ---- lines of accesses
name_ends : (t : Timeout) → Ends (await_end t)
unfolding await_end timeout_name
name_ends timeout.Hse = ends (codes ") return HSE_TIMEOUT; }") (clean_text (codes ") return HSE_TIMEOUT; }") refl)
name_ends timeout.Pll = ends (codes ") return PLL_TIMEOUT; }") (clean_text (codes ") return PLL_TIMEOUT; }") refl)
name_ends timeout.Latency = ends (codes ") return LATENCY_TIMEOUT; }") (clean_text (codes ") return LATENCY_TIMEOUT; }") refl)
name_ends timeout.Switch = ends (codes ") return SWITCH_TIMEOUT; }") (clean_text (codes ") return SWITCH_TIMEOUT; }") refl)
name_ends timeout.Over = ends (codes ") return OVER_TIMEOUT; }") (clean_text (codes ") return OVER_TIMEOUT; }") refl)
name_ends timeout.OverSwitch = ends (codes ") return OVER_SWITCH_TIMEOUT; }") (clean_text (codes ") return OVER_SWITCH_TIMEOUT; }") refl)

op_ends : (o : Op) → Ends (op_line o)
unfolding part_text
op_ends (op.Write r value) =
    ends_after (number_after part.Store (address r)) (number_after part.Gets value ++ part_text part.End) (after part.Store (address r) (clean_text (codes "    REG(") refl))
    (ends_after (number_after part.Gets value) (part_text part.End) (after part.Gets value (clean_text (codes ") = ") refl)) (ends (codes ";") (clean_text (codes ";") refl)))
op_ends (op.Modify r clear set) =
    ends_after (number_after part.Store (address r)) (number_after part.GetsOld (address r) ++ (number_after part.ButNot clear ++ (number_after part.Or set ++ part_text part.End))) (after part.Store (address r) (clean_text (codes "    REG(") refl))
    (ends_after (number_after part.GetsOld (address r)) (number_after part.ButNot clear ++ (number_after part.Or set ++ part_text part.End)) (after part.GetsOld (address r) (clean_text (codes ") = (REG(") refl))
    (ends_after (number_after part.ButNot clear) (number_after part.Or set ++ part_text part.End) (after part.ButNot clear (clean_text (codes ") & ~") refl))
    (ends_after (number_after part.Or set) (part_text part.End) (after part.Or set (clean_text (codes ") | ") refl)) (ends (codes ";") (clean_text (codes ";") refl)))))
op_ends (op.Read r) =
    ends_after (number_after part.Load (address r)) (part_text part.LoadEnd) (after part.Load (address r) (clean_text (codes "    (void)REG(") refl)) (ends (codes ");") (clean_text (codes ");") refl))
op_ends (op.Await r mask want polls name) =
    let count = decimal polls ++ part_text part.Unsigned in
    let last = count ++ await_end name in
    ends_after (number_after part.Poll (address r)) (number_after part.Under mask ++ (number_after part.IsNot want ++ (part_text part.AtMost ++ last))) (after part.Poll (address r) (clean_text (codes "    for (polls = 0u; (REG(") refl))
    (ends_after (number_after part.Under mask) (number_after part.IsNot want ++ (part_text part.AtMost ++ last)) (after part.Under mask (clean_text (codes ") & ") refl))
    (ends_after (number_after part.IsNot want) (part_text part.AtMost ++ last) (after part.IsNot want (clean_text (codes ") != ") refl))
    (ends_after (part_text part.AtMost) last (clean_text (codes "; ) { if (++polls == ") refl)
    (ends_after count (await_end name) (clean_append (decimal polls) (part_text part.Unsigned) (clean_decimal polls) (clean_text (codes "u") refl)) (name_ends name)))))

op_other : (o : Op) → bytes_eq (op_line o) first_line ≡ false
unfolding part_text
op_other (op.Write r value) = refl
op_other (op.Modify r clear set) = refl
op_other (op.Read r) = refl
op_other (op.Await r mask want polls name) = refl

-- ---- the whole
part_passed : (line : List ℕ) → IsClean line → bytes_eq (line ++ 10 ∷ []) first_line ≡ false → ArePassedOver (line ++ 10 ∷ [])
part_passed line h o = passed_line (line ++ 10 ∷ []) (ends line h) o

body_passed : (ops : List Op) → Each ArePassedOver (body_lines ops)
unfolding part_text
body_passed [] = (
  part_passed (codes "    return DONE;") (clean_text (codes "    return DONE;") refl) refl,
  (part_passed (codes "}") (clean_text (codes "}") refl) refl, tt),
)
body_passed (o ∷ os) = (passed_line (op_line o) (op_ends o) (op_other o), body_passed os)

-- the third line, in either form
answers_passed : (over : Bool) → ArePassedOver (part_text (answers_part over))
unfolding part_text
answers_passed false = part_passed (codes "enum { DONE, HSE_TIMEOUT, PLL_TIMEOUT, LATENCY_TIMEOUT, SWITCH_TIMEOUT };") (clean_text (codes "enum { DONE, HSE_TIMEOUT, PLL_TIMEOUT, LATENCY_TIMEOUT, SWITCH_TIMEOUT };") refl) refl
answers_passed true =
    part_passed (codes "enum { DONE, HSE_TIMEOUT, PLL_TIMEOUT, LATENCY_TIMEOUT, SWITCH_TIMEOUT, OVER_TIMEOUT, OVER_SWITCH_TIMEOUT };")
    (clean_text (codes "enum { DONE, HSE_TIMEOUT, PLL_TIMEOUT, LATENCY_TIMEOUT, SWITCH_TIMEOUT, OVER_TIMEOUT, OVER_SWITCH_TIMEOUT };") refl) refl

lines_passed : (ops : List Op) → Each ArePassedOver (c_lines ops)
unfolding part_text
lines_passed ops = (
  part_passed (codes "#include <stdint.h>") (clean_text (codes "#include <stdint.h>") refl) refl,
  (
    part_passed (codes "#define REG(a) (*(volatile uint32_t *)(a))") (clean_text (codes "#define REG(a) (*(volatile uint32_t *)(a))") refl) refl,
    (
      answers_passed (awaits_over ops),
      (
        part_passed (codes "int board_init(void)") (clean_text (codes "int board_init(void)") refl) refl,
        (
          part_passed (codes "{") (clean_text (codes "{") refl) refl,
          (
            part_passed (codes "    uint32_t polls;") (clean_text (codes "    uint32_t polls;") refl) refl,
            body_passed ops,
          ),
        ),
      ),
    ),
  ),
)

pub c_passed : (ops : List Op) → ArePassedOver (c_text_of ops)
unfolding c_text_of
c_passed ops = passed_concat (c_lines ops) (lines_passed ops)
