-- Internal: what a board comes to, told part by part.
use Rattle.std.specs.Prelude.{◌≡◌, ℕ, List, [], None, map}
use Rattle.choice_rank.specs.Least.{IsLeast, NoneLegal}
use Rattle.answers.specs.Said.{answered}
use Rattle.answers.specs.declared.answer.Answer.{Answer}
use Rattle.answers.specs.declared.answer.Status.TheVariants.{Done, NoChoice}
use Rattle.box_rules.specs.Judged.{pin_meaning, whole_meaning}
use Rattle.choice_setup.specs.SetUp.{setting_of}
use Rattle.init_gen.specs.Writes.{writes_of}
use Rattle.least_search.specs.Found.{IsProof}
use Rattle.problem.specs.Meets.{meets}
use Rattle.problem.specs.declared.parts.ProblemParts.{ProblemParts}
use Rattle.proof_shift.specs.Raised.{raised_proof}
use Rattle.refutation.specs.declared.node.Proof.{Proof}
use Rattle.refutation.specs.Forms.{form_of}
use Rattle.refutation.specs.Spelling.{spelling}
use Rattle.res_model.specs.declared.opts.Opts.{Opts}
use Rattle.res_model.specs.declared.project.Project.{Project}
use Rattle.res_model.specs.declared.table.TableParts.{TableParts}
use Rattle.solver.specs.Owed.{AreReadBack, AreSound}
use Rattle.solver.specs.Refutation.{IsRefutation}
use Rattle.board_fit.specs.Parts.{clocks_of, pins_of}
use Rattle.board_fit.specs.Texts.{parts_text}

-- the lines of a proof
abbrev pub proof_text : Proof → List ℕ
proof_text proof = spelling proof.bound (map form_of proof.nodes)

-- what the clocks beside a placement come to: the least of them, or the refutation of all
pub data OfClocks (q : ProblemParts) (at : List ℕ) (one : ProblemParts) (a : Answer) : Type 0 where
  clocked : (k : List ℕ) → IsLeast one.shape (meets one) k → AreSound one k → AreReadBack (writes_of (setting_of one k)) → a ≡ answered Done (parts_text q at one k) → OfClocks q at one a
  unclocked : (text : List ℕ) → NoneLegal one.shape (meets one) → IsRefutation (whole_meaning one) None [] text → a ≡ answered NoChoice text → OfClocks q at one a

-- the same as of the board, told part by part: the least placement with the least clocks beside it, or the refutation of the
-- part that fails
pub data OfParts (t : TableParts) (p : Project) (opts : Opts) (a : Answer) : Type 0 where
  placed : (at : List ℕ) → IsLeast (pins_of t p opts).shape (meets (pins_of t p opts)) at → OfClocks (pins_of t p opts) at (clocks_of t p opts at) a → OfParts t p opts a
  unplaced : (proof : Proof) → NoneLegal (pins_of t p opts).shape (meets (pins_of t p opts)) → IsProof (pin_meaning (pins_of t p opts)) proof
      → a ≡ answered NoChoice (proof_text (raised_proof proof)) → OfParts t p opts a
