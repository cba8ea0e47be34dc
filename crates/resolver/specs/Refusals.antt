-- What is said of words that have no reading.
use Rattle.std.specs.Prelude.{ℕ, List, ◌++◌, codes, decimal}
use Rattle.cmd_words.specs.declared.fault.UsageFault.{UsageFault}
use Rattle.cmd_words.specs.declared.fault.UsageFault.TheVariants as words

abbrev pub words_refusal : UsageFault → List ℕ
words_refusal (words.Word number) = codes "usage: word " ++ decimal number
