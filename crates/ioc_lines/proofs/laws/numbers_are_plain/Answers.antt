use Rattle.ioc_lines.proofs.PlainLemmas.{decimal_plain, escaped_print, plain_same, print_clean}
use Rattle.ioc_lines.specs.Lines.{escaped}
use Rattle.std.specs.Prelude.{decimal}
use Rattle.ioc_lines.proofs.laws.numbers_are_plain.Goals as goal

pub returns-clause-number : goal.returns-clause-number
returns-clause-number c = λ n l. plain_same (decimal n) (decimal_plain n l)

pub returns-clause-clean : goal.returns-clause-clean
returns-clause-clean c = λ bs h. print_clean (escaped bs) (escaped_print bs h)
