-- The lines of a trace, and how they are spelled.
use Rattle.std.specs.Prelude.{ℕ, ◌/◌, ◌%◌, ◌+◌, List, [], ◌∷◌, ◌++◌, Bool, if◌then◌else◌, nat_lt, codes, decimal, map}
use Rattle.std.specs.List.{concat}
use Rattle.res_model.specs.declared.clock.Src.{Src}
use Rattle.res_model.specs.declared.clock.Src.TheVariants.{Hsi, Hse, Pll}
use Rattle.reg_machine.specs.Rules.{number_of}
use Rattle.reg_machine.specs.declared.op.Rule.{Rule}
use Rattle.reg_machine.specs.declared.op.Timeout.{Timeout}
use Rattle.reg_machine.specs.declared.op.Timeout.TheVariants as timeout

-- what a line says: an access that was done, by its number, with the address and the word of its register, and the source and
-- the latency in effect; or how the run ended
pub data Said : Type 0 where
  OpWent : (number address word : ℕ) (source : Src) (latency : ℕ) → Said
  RunDone : Said
  RunTimedOut : (name : Timeout) → Said
  RunForbidden : (rule : Rule) → Said

-- and whether each state since the line before is legal
pub record TraceLine : Type 0 where
  pub said : Said
  pub legal : Bool

-- ---- a word in hexadecimal: 0 to 9, then A to F, the upper half before the lower
unfoldable pub digit : ℕ → ℕ
digit n = if nat_lt n 10 then 48 + n else 55 + n

unfoldable pub digits_2 : ℕ → List ℕ
digits_2 n = digit (n / 16) ∷ digit (n % 16) ∷ []

unfoldable pub digits_4 : ℕ → List ℕ
digits_4 n = digits_2 (n / 256) ++ digits_2 (n % 256)

unfoldable pub digits_8 : ℕ → List ℕ
digits_8 n = digits_4 (n / 65536) ++ digits_4 (n % 65536)

-- behind a space and 0x
unfoldable pub word_text : ℕ → List ℕ
word_text n = codes " 0x" ++ digits_8 n

-- between two spaces
unfoldable pub source_text : Src → List ℕ
source_text Hsi = codes " HSI "
source_text Hse = codes " HSE "
source_text Pll = codes " PLL "

unfoldable pub timeout_name : Timeout → List ℕ
timeout_name timeout.Hse = codes "HSE_TIMEOUT"
timeout_name timeout.Pll = codes "PLL_TIMEOUT"
timeout_name timeout.Latency = codes "LATENCY_TIMEOUT"
timeout_name timeout.Switch = codes "SWITCH_TIMEOUT"
timeout_name timeout.Over = codes "OVER_TIMEOUT"
timeout_name timeout.OverSwitch = codes "OVER_SWITCH_TIMEOUT"

unfoldable pub timeout_text : Timeout → List ℕ
timeout_text name = codes "timeout " ++ timeout_name name

unfoldable pub done_text : List ℕ
done_text = codes "done"

unfoldable pub forbidden_text : List ℕ
forbidden_text = codes "forbidden "

abbrev pub said_text : Said → List ℕ
said_text (OpWent number address word source latency) = decimal number ++ (word_text address ++ (word_text word ++ (source_text source ++ decimal latency)))
said_text RunDone = done_text
said_text (RunTimedOut name) = timeout_text name
said_text (RunForbidden rule) = forbidden_text ++ decimal (number_of rule)

unfoldable pub end_text : Bool → List ℕ
end_text legal = (if legal then codes " legal" else codes " illegal") ++ 10 ∷ []

abbrev pub line_text : TraceLine → List ℕ
line_text l = said_text l.said ++ end_text l.legal

unfoldable pub text_of : List TraceLine → List ℕ
text_of lines = concat (map line_text lines)
