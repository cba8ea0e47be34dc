-- The C function that makes a list of accesses to registers, line by line.
use Rattle.std.specs.Prelude.{ℕ, ◌+◌, ◌/◌, ◌%◌, List, [], ◌∷◌, ◌++◌, map, Bool, true, false, codes, decimal, nat_lt, if◌then◌else◌}
use Rattle.std.specs.List.{concat, list_any}
use Rattle.reg_map.specs.Registers.{address}
use Rattle.reg_machine.specs.declared.op.Timeout.{Timeout}
use Rattle.reg_machine.specs.declared.op.Timeout.TheVariants as timeout
use Rattle.reg_machine.specs.declared.op.Op.{Op}
use Rattle.reg_machine.specs.declared.op.Op.TheVariants as op
use Rattle.c_print.specs.declared.part.Part.{Part}
use Rattle.c_print.specs.declared.part.Part.TheVariants as part

-- the texts that stand in every such function, or around the numbers of a line
unfoldable pub part_text : Part → List ℕ
part_text part.Include = codes "#include <stdint.h>" ++ 10 ∷ []
part_text part.Macro = codes "#define REG(a) (*(volatile uint32_t *)(a))" ++ 10 ∷ []
part_text part.Answers = codes "enum { DONE, HSE_TIMEOUT, PLL_TIMEOUT, LATENCY_TIMEOUT, SWITCH_TIMEOUT };" ++ 10 ∷ []
part_text part.OverAnswers = codes "enum { DONE, HSE_TIMEOUT, PLL_TIMEOUT, LATENCY_TIMEOUT, SWITCH_TIMEOUT, OVER_TIMEOUT, OVER_SWITCH_TIMEOUT };" ++ 10 ∷ []
part_text part.Function = codes "int board_init(void)" ++ 10 ∷ []
part_text part.Open = codes "{" ++ 10 ∷ []
part_text part.Counter = codes "    uint32_t polls;" ++ 10 ∷ []
part_text part.Return = codes "    return DONE;" ++ 10 ∷ []
part_text part.Close = codes "}" ++ 10 ∷ []
part_text part.Store = codes "    REG("
part_text part.Load = codes "    (void)REG("
part_text part.Poll = codes "    for (polls = 0u; (REG("
part_text part.Gets = codes ") = "
part_text part.GetsOld = codes ") = (REG("
part_text part.ButNot = codes ") & ~"
part_text part.Or = codes ") | "
part_text part.Under = codes ") & "
part_text part.IsNot = codes ") != "
part_text part.AtMost = codes "; ) { if (++polls == "
part_text part.End = codes ";" ++ 10 ∷ []
part_text part.LoadEnd = codes ");" ++ 10 ∷ []
part_text part.Hex = codes "0x"
part_text part.Unsigned = codes "u"

-- ---- numbers
-- 0 to 9, then A to F
unfoldable pub digit : ℕ → ℕ
digit n = if nat_lt n 10 then 48 + n else 55 + n

abbrev pub digits_1 : ℕ → List ℕ
digits_1 n = digit n ∷ []

-- the digits of the upper half of a number, and those of the lower
abbrev pub halves : ℕ → (ℕ → List ℕ) → ℕ → List ℕ
halves base spell n = spell (n / base) ++ spell (n % base)

unfoldable pub digits_2 : ℕ → List ℕ
digits_2 n = halves 16 digits_1 n

unfoldable pub digits_4 : ℕ → List ℕ
digits_4 n = halves 256 digits_2 n

unfoldable pub digits_8 : ℕ → List ℕ
digits_8 n = halves 65536 digits_4 n

-- a word: 0x, its eight digits and u
unfoldable pub hex : ℕ → List ℕ
hex n = part_text part.Hex ++ (digits_8 n ++ part_text part.Unsigned)

-- a word behind a text
abbrev pub number_after : Part → ℕ → List ℕ
number_after before n = part_text before ++ hex n

-- a count of polls
abbrev pub count : ℕ → List ℕ
count n = decimal n ++ part_text part.Unsigned

-- ---- lines, each with its end
unfoldable pub timeout_name : Timeout → List ℕ
timeout_name timeout.Hse = codes "HSE_TIMEOUT"
timeout_name timeout.Pll = codes "PLL_TIMEOUT"
timeout_name timeout.Latency = codes "LATENCY_TIMEOUT"
timeout_name timeout.Switch = codes "SWITCH_TIMEOUT"
timeout_name timeout.Over = codes "OVER_TIMEOUT"
timeout_name timeout.OverSwitch = codes "OVER_SWITCH_TIMEOUT"

-- what stands behind the count of polls
unfoldable pub await_end : Timeout → List ℕ
await_end name = codes ") return " ++ (timeout_name name ++ (codes "; }" ++ 10 ∷ []))

abbrev pub op_line : Op → List ℕ
op_line (op.Write r value) = number_after part.Store (address r) ++ (number_after part.Gets value ++ part_text part.End)
op_line (op.Modify r clear set) =
    number_after part.Store (address r) ++ (number_after part.GetsOld (address r) ++ (number_after part.ButNot clear ++ (number_after part.Or set ++ part_text part.End)))
op_line (op.Read r) = number_after part.Load (address r) ++ part_text part.LoadEnd
op_line (op.Await r mask want polls name) =
    number_after part.Poll (address r) ++ (number_after part.Under mask ++ (number_after part.IsNot want ++ (part_text part.AtMost ++ (count polls ++ await_end name))))

-- an op that awaits over-drive, or its switch
abbrev pub is_over : Timeout → Bool
is_over timeout.Hse = false
is_over timeout.Pll = false
is_over timeout.Latency = false
is_over timeout.Switch = false
is_over timeout.Over = true
is_over timeout.OverSwitch = true

abbrev pub is_over_op : Op → Bool
is_over_op (op.Write r value) = false
is_over_op (op.Modify r clear set) = false
is_over_op (op.Read r) = false
is_over_op (op.Await r mask want polls name) = is_over name

abbrev pub awaits_over : List Op → Bool
awaits_over ops = list_any is_over_op ops

-- the third line names the timeouts of over-drive where some op awaits it
abbrev pub answers_part : Bool → Part
answers_part over = if over then part.OverAnswers else part.Answers

-- the six lines before those of the ops
abbrev pub frame : Bool → List (List ℕ)
frame over = part_text part.Include ∷ part_text part.Macro ∷ part_text (answers_part over) ∷ part_text part.Function ∷ part_text part.Open ∷ part_text part.Counter ∷ []

-- the two lines behind them
abbrev pub last_lines : List (List ℕ)
last_lines = part_text part.Return ∷ part_text part.Close ∷ []

abbrev pub body_lines : List Op → List (List ℕ)
body_lines ops = map op_line ops ++ last_lines

abbrev pub c_lines : List Op → List (List ℕ)
c_lines ops = frame (awaits_over ops) ++ body_lines ops

unfoldable pub c_text_of : List Op → List ℕ
c_text_of ops = concat (c_lines ops)
