-- What is due where a project is to be explained.
use Rattle.std.specs.Prelude.{◌≡◌, ℕ, ◌++◌, List, None, Ok, codes, decimal}
use Rattle.answers.specs.Said.{Says, answered}
use Rattle.answers.specs.declared.answer.Answer.{Answer}
use Rattle.answers.specs.declared.answer.Status.TheVariants.{Done, NoChoice, TooWide}
use Rattle.box_rules.specs.Judged.{whole_meaning}
use Rattle.choice_rank.specs.Choices.{IsFirstWide, IsNarrow, choices_of, cost_of, rank_of}
use Rattle.choice_rank.specs.Least.{IsLeast, NoneLegal}
use Rattle.explain_text.specs.Changes.{changes}
use Rattle.explain_text.specs.Reasons.{why}
use Rattle.ioc_text.specs.Lines.{ioc_of}
use Rattle.ioc_text.specs.declared.line.Line.{Line}
use Rattle.problem.specs.Meets.{meets}
use Rattle.problem.specs.Problem.{problem_of}
use Rattle.problem.specs.declared.parts.Part.TheVariants.{Whole}
use Rattle.problem.specs.declared.parts.ProblemParts.{ProblemParts}
use Rattle.refutation.specs.Canonical.{IsCanonicalOf}
use Rattle.refutation.specs.declared.node.Node.{Node}
use Rattle.res_model.specs.declared.opts.Opts.{Opts}
use Rattle.res_model.specs.declared.project.Home.{Home}
use Rattle.res_model.specs.declared.project.Project.{Project}
use Rattle.res_model.specs.declared.table.TableParts.{TableParts}
use Rattle.explain.specs.GiveUp.{Tells, or_none}
use Rattle.explain.specs.Things.{things}

unfoldable pub rank_line : ℕ → ℕ → ℕ → List ℕ
rank_line rank cost choices = codes "rank " ++ decimal rank ++ codes " cost " ++ decimal cost ++ codes " of " ++ decimal choices ++ codes "\n"

-- what a choice is and what it changes
unfoldable pub fits_text : List Home → ProblemParts → List ℕ → List ℕ
fits_text homes p c = rank_line (rank_of p.shape c) (cost_of p.shape c) (choices_of p.shape) ++ changes homes p c

-- that nothing fits, why, and what helps
unfoldable pub refused_text : List ℕ → List ℕ → List ℕ
refused_text reasons helps = codes "no choice\n" ++ reasons ++ or_none helps

-- what is due for a problem whose ranks fit, made of the project that a text says under these options: what the least choice
-- changes, or why there is none and which single things help where they are given up
pub data OfNarrow (homes : List Home) (p : ProblemParts) (text : List ℕ) (opts : Opts) (a : Answer) : Type 0 where
  fits : (c : List ℕ) → IsLeast p.shape (meets p) c → a ≡ answered Done (fits_text homes p c) → OfNarrow homes p text opts a
  refused : (nodes : List Node) (ioc : List Line) (helps : List ℕ) → NoneLegal p.shape (meets p) → IsCanonicalOf (whole_meaning p) None nodes
      → ioc_of text ≡ Ok ioc → Tells p.tables ioc opts p.signals (things p.tables ioc opts p.signals) helps
      → a ≡ answered NoChoice (refused_text (why p nodes) helps) → OfNarrow homes p text opts a

-- what is due for the whole problem of a project: that ranks would not fit, by the first variable with which they do not, or
-- the above
pub data OfExplain (t : TableParts) (p : Project) (text : List ℕ) (opts : Opts) (a : Answer) : Type 0 where
  wide : (v : ℕ) → ¬ IsNarrow (problem_of t p opts Whole).shape → IsFirstWide (problem_of t p opts Whole).shape v
      → Says a TooWide (codes "too wide: variable " ++ decimal v) → OfExplain t p text opts a
  narrow : IsNarrow (problem_of t p opts Whole).shape → OfNarrow p.clock (problem_of t p opts Whole) text opts a → OfExplain t p text opts a
