use Rattle.std.proofs.Common.{◌≡◌, ◌+◌, ◌≤◌, ◌++◌, length, max}
use Rattle.ioc_lines.specs.Lines.{text_lines}
use Rattle.ioc_write.specs.Survey.{above}
use Rattle.ioc_write.specs.WriteBack.{next_number, pin_numbers, variables_on}
use Rattle.ioc_write.proofs.survey.survey_of.Given as goal

abbrev pub invariant-read : goal.invariant-read
invariant-read l = record {
  pins : l.pins + length (pin_numbers (text_lines l.rest)) ≡ length (pin_numbers (text_lines l.text));
  next : max (above l.last) (next_number (pin_numbers (text_lines l.rest))) ≡ next_number (pin_numbers (text_lines l.text));
  variables : l.variables.items ++ variables_on (text_lines l.rest) ≡ variables_on (text_lines l.text);
  few : l.pins + length l.rest ≤ length l.text;
}

abbrev pub decreases-read : goal.decreases-read
decreases-read l = length l.rest
