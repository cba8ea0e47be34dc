-- Internal: what the keys of a text say together.
use Rattle.std.specs.Prelude.{◌≡◌, ℕ, ◌+◌, List, length, Option, Some, None}
use Rattle.ioc_lines.specs.Lines.{TextLine}
use Rattle.ioc_write.specs.WriteBack.{next_number, pin_numbers, variables_on}
use Rattle.ioc_write.specs.declared.survey.Survey.{Survey}

-- the number above the last one
abbrev pub above : Option ℕ → ℕ
above None = 0
above (Some n) = n + 1

pub record IsSurvey (ls : List TextLine) (s : Survey) : Type 0 where
  pub pins : s.pins ≡ length (pin_numbers ls)
  pub next : above s.last ≡ next_number (pin_numbers ls)
  pub variables : s.variables ≡ variables_on ls
