-- Internal: what is said of a refusal of words, which is nothing where memory ran out.
use Rattle.refusal.specs.declared.refusal.Refusal.{Refusal}
use Rattle.refusal.specs.declared.refusal.Refusal.TheVariants as refusal
use Rattle.answers.specs.Said.{Says}
use Rattle.answers.specs.declared.answer.Answer.{Answer}
use Rattle.answers.specs.declared.answer.Status.TheVariants.{Usage}
use Rattle.cmd_words.specs.declared.fault.UsageFault.{UsageFault}
use Rattle.resolver.specs.Refusals.{words_refusal}

abbrev pub IsSaid : Refusal UsageFault → Answer → Type 0
IsSaid (refusal.Fault fault) a = Says a Usage (words_refusal fault)
IsSaid refusal.OutOfMemory a = ⊥
