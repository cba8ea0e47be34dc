-- The status and the text that are due for a project that is written back with its least choice.
use Rattle.std.specs.Prelude.{◌≡◌, ℕ, List, ◌++◌, Ok, Err, codes, decimal}
use Rattle.choice_rank.specs.Least.{IsLeast, NoneLegal}
use Rattle.problem.specs.Meets.{meets}
use Rattle.problem.specs.declared.parts.ProblemParts.{ProblemParts}
use Rattle.answers.specs.Said.{Says, answered}
use Rattle.answers.specs.declared.answer.Answer.{Answer}
use Rattle.answers.specs.declared.answer.Status.TheVariants.{Done, NoChoice, WriteBackRefused}
use Rattle.ioc_write.specs.WriteBack.{written_back}
use Rattle.ioc_write.specs.declared.fault.BackFault.TheVariants.{NoNumber, LongLine}

-- the text with the least choice as its homes, or why it can't be written, or that there is no choice
pub data OfIoc (text : List ℕ) (p : ProblemParts) (a : Answer) : Type 0 where
  back : (c out : List ℕ) → IsLeast p.shape (meets p) c → written_back text p c ≡ Ok out → a ≡ answered Done out → OfIoc text p a
  unnumbered : (c : List ℕ) → IsLeast p.shape (meets p) c → written_back text p c ≡ Err NoNumber → Says a WriteBackRefused (codes "ioc: number") → OfIoc text p a
  long : (c : List ℕ) (line : ℕ) → IsLeast p.shape (meets p) c → written_back text p c ≡ Err (LongLine line)
      → Says a WriteBackRefused (codes "ioc: line " ++ decimal line) → OfIoc text p a
  none : NoneLegal p.shape (meets p) → Says a NoChoice (codes "no choice") → OfIoc text p a
