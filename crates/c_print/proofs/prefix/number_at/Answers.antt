use Rattle.c_print.proofs.NumberLemmas.{number_answer}
use Rattle.c_print.proofs.prefix.number_at.Goals as goal

pub returns : goal.returns
returns c = number_answer c.args.before c.args.text.now c.in_ok-after.field-0.now c.word_at.result c.in_ok-after.ensures c.word_at.ensures
