-- The status and the text that are due for a problem.
use Rattle.std.specs.Prelude.{◌≡◌, ℕ, List, [], ◌++◌, Bool, true, false, Option, Some, None, Result, Ok, Err, codes, decimal, map}
use Rattle.choice_rank.specs.Choices.{IsNarrow, IsFirstWide, rank_of}
use Rattle.choice_rank.specs.Least.{IsLeast, NoneLegal}
use Rattle.box_rules.specs.Judged.{whole_meaning}
use Rattle.choice_setup.specs.SetUp.{setting_of}
use Rattle.init_gen.specs.Good.{IsRight}
use Rattle.init_gen.specs.Writes.{target_of, writes_of}
use Rattle.problem.specs.declared.parts.ProblemParts.{ProblemParts}
use Rattle.problem.specs.Meets.{meets}
use Rattle.refutation.specs.declared.node.Node.{Node}
use Rattle.refutation.specs.declared.node.ProofFault.TheVariants as fault
use Rattle.refutation.specs.Forms.{form_of}
use Rattle.refutation.specs.Reading.{proof_of}
use Rattle.refutation.specs.Trees.{IsAccepted}
use Rattle.refute_check.specs.Faults.{fault_at}
use Rattle.c_print.specs.Reading.{Reads}
use Rattle.c_print.specs.Text.{c_text_of}
use Rattle.reg_machine.specs.Legal.{IsLegal}
use Rattle.reg_machine.specs.Reset.{reset_of}
use Rattle.reg_machine.specs.Run.{Sound}
use Rattle.reg_machine.specs.declared.op.Op.{Op}
use Rattle.report.specs.Cases.{case_text}
use Rattle.report.specs.Placed.{placement_text}
use Rattle.report.specs.Reported.{report_text}
use Rattle.search_api.specs.Meaning.{Meaning}
use Rattle.solver.specs.Refutation.{IsRefutation}
use Rattle.answers.specs.Said.{Says, answered}
use Rattle.answers.specs.declared.answer.Answer.{Answer}
use Rattle.answers.specs.declared.answer.Status.TheVariants.{Done, NoChoice, TooWide, ProofRefused}

-- what is due where a task is asked of a problem: that ranks would not fit, by the first variable with which they do not,
-- or what the task says
pub data OfProblem (p : ProblemParts) (task : Answer → Type 0) (a : Answer) : Type 0 where
  wide : (v : ℕ) → ¬ IsNarrow p.shape → IsFirstWide p.shape v → Says a TooWide (codes "too wide: variable " ++ decimal v) → OfProblem p task a
  narrow : IsNarrow p.shape → task a → OfProblem p task a

-- the least placement of the signals, or that none fits
pub data OfPins (p : ProblemParts) (a : Answer) : Type 0 where
  placed : (c : List ℕ) → IsLeast p.shape (meets p) c → a ≡ answered Done (placement_text p c) → OfPins p a
  unplaced : NoneLegal p.shape (meets p) → Says a NoChoice (codes "no choice") → OfPins p a

-- what stands behind the report: the refutation of all that is below the choice, where it is asked for
abbrev pub IsMore : Bool → Meaning → Option ℕ → List ℕ → List ℕ → Type 0
IsMore false m bound report more = more ≡ []
IsMore true m bound report more = IsRefutation m bound report more

-- the four lines of the least choice of a made case, or that there is none
pub data OfCase (number : ℕ) (p : ProblemParts) (a : Answer) : Type 0 where
  made : (c : List ℕ) → IsLeast p.shape (meets p) c → a ≡ answered Done (case_text number p c) → OfCase number p a
  unmade : NoneLegal p.shape (meets p) → Says a NoChoice (codes "no choice") → OfCase number p a

-- from reset and for every list of answers of the flags, the accesses of a choice are never forbidden, pass legal states
-- alone, and end with the clocks and pins of the choice or at an await that timed out
abbrev pub AreSound : ProblemParts → List ℕ → Type 0
AreSound p c =
    Sound (IsLegal p.tables (target_of (setting_of p c))) (IsRight (setting_of p c)) (writes_of (setting_of p c)) (reset_of p.tables (target_of (setting_of p c)))

-- the C text of accesses is read as these accesses, and as nothing else
pub record AreReadBack (ops : List Op) : Type 0 where
  pub read : Reads (c_text_of ops) (Ok ops)
  pub alone : (other : Result (List Op) ℕ) → Reads (c_text_of ops) other → other ≡ Ok ops

-- the report of a choice: its rank, its placement, its clocks, and the C text of its accesses
abbrev pub report_of : ProblemParts → List ℕ → List ℕ
report_of p c = report_text p c (writes_of (setting_of p c))

-- the report of the least choice, or the refutation of all choices
pub data OfWhole (proof : Bool) (p : ProblemParts) (a : Answer) : Type 0 where
  solved : (c more : List ℕ) → IsLeast p.shape (meets p) c → AreSound p c → AreReadBack (writes_of (setting_of p c))
      → IsMore proof (whole_meaning p) (Some (rank_of p.shape c)) (report_of p c) more → a ≡ answered Done (report_of p c ++ more) → OfWhole proof p a
  refuted : (text : List ℕ) → NoneLegal p.shape (meets p) → IsRefutation (whole_meaning p) None [] text → a ≡ answered NoChoice text → OfWhole proof p a

-- what is said of a refutation that is accepted
abbrev pub accepted_text : Option ℕ → List ℕ
accepted_text None = codes "accepted: no choice"
accepted_text (Some rank) = codes "accepted: least rank " ++ decimal rank

-- the nodes of a refutation: the first that breaks its rule, or that they are accepted
pub data OfNodes (p : ProblemParts) (bound : Option ℕ) (nodes : List Node) (a : Answer) : Type 0 where
  rejected : (node : ℕ) → fault_at (whole_meaning p) bound nodes ≡ Some node → Says a ProofRefused (codes "proof: node " ++ decimal node) → OfNodes p bound nodes a
  accepted : IsAccepted (whole_meaning p) bound nodes → Says a Done (accepted_text bound) → OfNodes p bound nodes a

-- the text of a refutation: the first line that is not of a form due there, or what its nodes say
pub data OfProof (text : List ℕ) (p : ProblemParts) (a : Answer) : Type 0 where
  unread : (line : ℕ) → proof_of text ≡ Err (fault.Line line) → Says a ProofRefused (codes "proof: line " ++ decimal line) → OfProof text p a
  nodes : (bound : Option ℕ) (read : List Node) → proof_of text ≡ Ok (bound, map form_of read) → OfNodes p bound read a → OfProof text p a
