-- The status of a problem is none of those that only reading, writing or a lack of memory has.
use Rattle.std.proofs.Common.{◌≡◌, ℕ, List, Bool, Option, ap, subst, sym}
use Rattle.answers.specs.Said.{answered}
use Rattle.answers.specs.declared.answer.Answer.{Answer}
use Rattle.answers.specs.declared.answer.Status.{Status}
use Rattle.answers.specs.declared.answer.Status.TheVariants.{Done, NoChoice, TooWide, TableRefused, ProofRefused, WriteBackRefused, RequestRefused, CTextRefused, AnswersRefused, TraceTooLong}
use Rattle.board_fit.specs.Board.{OfBoard}
use Rattle.board_fit.specs.Board as board
use Rattle.call_io.specs.Gathered.{IsOfBytes}
use Rattle.dma_rules.specs.Texts as dma
use Rattle.dma_model.specs.declared.table.DmaRequest.{DmaRequest}
use Rattle.explain.specs.Due.{OfExplain, OfNarrow}
use Rattle.explain.specs.Due as explain
use Rattle.i2s_pll.specs.Due as i2s
use Rattle.ioc_answer.specs.Owed.{OfIoc}
use Rattle.ioc_answer.specs.Owed as ioc
use Rattle.res_model.specs.declared.clock.ClockChoice.{ClockChoice}
use Rattle.res_model.specs.declared.clock.Facts.{Facts}
use Rattle.res_model.specs.declared.table.TableParts.{TableParts}
use Rattle.can_timing.specs.Texts as can
use Rattle.can_timing.specs.declared.request.Request.{Request}
use Rattle.problem.specs.declared.parts.ProblemParts.{ProblemParts}
use Rattle.problem.specs.Problem.{problem_of}
use Rattle.problem.specs.declared.parts.Part.TheVariants.{Whole}
use Rattle.refutation.specs.declared.node.Node.{Node}
use Rattle.res_model.specs.declared.opts.Opts.{Opts}
use Rattle.res_model.specs.declared.project.Home.{Home}
use Rattle.res_model.specs.declared.project.Project.{Project}
use Rattle.solver.specs.Owed.{OfCase, OfNodes, OfPins, OfProblem, OfProof, OfWhole}
use Rattle.solver.specs.Owed as owed
use Rattle.reg_machine.specs.declared.op.Answer as flags
use Rattle.reg_machine.specs.declared.op.Op.{Op}
use Rattle.reg_machine.specs.declared.state.Target.{Target}
use Rattle.trace_answer.specs.Due.{OfAnswers, OfRun, OfTrace}
use Rattle.trace_answer.specs.Due as trace

done : IsOfBytes Done
done = record { of_inputs = record { own = record { no_write_fault = λ e. absurd cc; no_memory = λ e. absurd cc }; no_read_fault = λ e. absurd cc; no_length = λ e. absurd cc }; no_usage = λ e. absurd cc }

no_choice : IsOfBytes NoChoice
no_choice = record { of_inputs = record { own = record { no_write_fault = λ e. absurd cc; no_memory = λ e. absurd cc }; no_read_fault = λ e. absurd cc; no_length = λ e. absurd cc }; no_usage = λ e. absurd cc }

too_wide : IsOfBytes TooWide
too_wide = record { of_inputs = record { own = record { no_write_fault = λ e. absurd cc; no_memory = λ e. absurd cc }; no_read_fault = λ e. absurd cc; no_length = λ e. absurd cc }; no_usage = λ e. absurd cc }

proof_refused : IsOfBytes ProofRefused
proof_refused = record { of_inputs = record { own = record { no_write_fault = λ e. absurd cc; no_memory = λ e. absurd cc }; no_read_fault = λ e. absurd cc; no_length = λ e. absurd cc }; no_usage = λ e. absurd cc }

table_refused : IsOfBytes TableRefused
table_refused = record { of_inputs = record { own = record { no_write_fault = λ e. absurd cc; no_memory = λ e. absurd cc }; no_read_fault = λ e. absurd cc; no_length = λ e. absurd cc }; no_usage = λ e. absurd cc }

write_back_refused : IsOfBytes WriteBackRefused
write_back_refused = record { of_inputs = record { own = record { no_write_fault = λ e. absurd cc; no_memory = λ e. absurd cc }; no_read_fault = λ e. absurd cc; no_length = λ e. absurd cc }; no_usage = λ e. absurd cc }

request_refused : IsOfBytes RequestRefused
request_refused = record { of_inputs = record { own = record { no_write_fault = λ e. absurd cc; no_memory = λ e. absurd cc }; no_read_fault = λ e. absurd cc; no_length = λ e. absurd cc }; no_usage = λ e. absurd cc }

c_text_refused : IsOfBytes CTextRefused
c_text_refused = record { of_inputs = record { own = record { no_write_fault = λ e. absurd cc; no_memory = λ e. absurd cc }; no_read_fault = λ e. absurd cc; no_length = λ e. absurd cc }; no_usage = λ e. absurd cc }

answers_refused : IsOfBytes AnswersRefused
answers_refused = record { of_inputs = record { own = record { no_write_fault = λ e. absurd cc; no_memory = λ e. absurd cc }; no_read_fault = λ e. absurd cc; no_length = λ e. absurd cc }; no_usage = λ e. absurd cc }

trace_too_long : IsOfBytes TraceTooLong
trace_too_long = record { of_inputs = record { own = record { no_write_fault = λ e. absurd cc; no_memory = λ e. absurd cc }; no_read_fault = λ e. absurd cc; no_length = λ e. absurd cc }; no_usage = λ e. absurd cc }

-- an answer has the status that it was given
pub at : (a : Answer) (status : Status) (text : List ℕ) → a ≡ answered status text → IsOfBytes status → IsOfBytes a.status
at a status text e own = subst IsOfBytes (sym (ap (λ (x : Answer). x.status) e)) own

pub of_done : (a : Answer) (text : List ℕ) → a ≡ answered Done text → IsOfBytes a.status
of_done a text e = at a Done text e done

pub of_problem : (p : ProblemParts) (task : Answer → Type 0) (a : Answer) → (task a → IsOfBytes a.status) → OfProblem p task a → IsOfBytes a.status
of_problem p task a own (owed.wide v not_narrow first says) = at a TooWide _ says too_wide
of_problem p task a own (owed.narrow is_narrow asked) = own asked

pub of_pins : (p : ProblemParts) (a : Answer) → OfPins p a → IsOfBytes a.status
of_pins p a (owed.placed c low e) = at a Done _ e done
of_pins p a (owed.unplaced no_legal says) = at a NoChoice _ says no_choice

pub of_whole : (proof : Bool) (p : ProblemParts) (a : Answer) → OfWhole proof p a → IsOfBytes a.status
of_whole proof p a (owed.solved c more low sound read_back asked e) = at a Done _ e done
of_whole proof p a (owed.refuted text no_legal shown e) = at a NoChoice _ e no_choice

pub of_board : (q w : ProblemParts) (a : Answer) → OfBoard q w a → IsOfBytes a.status
of_board q w a (board.wide v not_narrow first says) = at a TooWide _ says too_wide
of_board q w a (board.narrow is_narrow (board.solved c least sound read_back e)) = at a Done _ e done
of_board q w a (board.narrow is_narrow (board.refuted text no_legal shown e)) = at a NoChoice _ e no_choice

pub of_ioc : (text : List ℕ) (p : ProblemParts) (a : Answer) → OfIoc text p a → IsOfBytes a.status
of_ioc text p a (ioc.back c out least is e) = at a Done _ e done
of_ioc text p a (ioc.unnumbered c least is says) = at a WriteBackRefused _ says write_back_refused
of_ioc text p a (ioc.long c line least is says) = at a WriteBackRefused _ says write_back_refused
of_ioc text p a (ioc.none no_legal says) = at a NoChoice _ says no_choice

of_narrow : (homes : List Home) (p : ProblemParts) (text : List ℕ) (opts : Opts) (a : Answer) → OfNarrow homes p text opts a → IsOfBytes a.status
of_narrow homes p text opts a (explain.fits c least e) = at a Done _ e done
of_narrow homes p text opts a (explain.refused nodes lines helps no_legal shown read tells e) = at a NoChoice _ e no_choice

pub of_explain : (t : TableParts) (p : Project) (text : List ℕ) (opts : Opts) (a : Answer) → OfExplain t p text opts a → IsOfBytes a.status
of_explain t p text opts a (explain.wide v not_narrow first says) = at a TooWide _ says too_wide
of_explain t p text opts a (explain.narrow is_narrow due) = of_narrow p.clock (problem_of t p opts Whole) text opts a due

pub of_case : (number : ℕ) (p : ProblemParts) (a : Answer) → OfCase number p a → IsOfBytes a.status
of_case number p a (owed.made c low e) = at a Done _ e done
of_case number p a (owed.unmade no_legal says) = at a NoChoice _ says no_choice

of_nodes : (p : ProblemParts) (bound : Option ℕ) (nodes : List Node) (a : Answer) → OfNodes p bound nodes a → IsOfBytes a.status
of_nodes p bound nodes a (owed.rejected node e says) = at a ProofRefused _ says proof_refused
of_nodes p bound nodes a (owed.accepted e says) = at a Done _ says done

pub of_proof : (text : List ℕ) (p : ProblemParts) (a : Answer) → OfProof text p a → IsOfBytes a.status
of_proof text p a (owed.unread line e says) = at a ProofRefused _ says proof_refused
of_proof text p a (owed.nodes bound read e due) = of_nodes p bound read a due

pub of_can : (q : Request) (a : Answer) → can.IsDue q a → IsOfBytes a.status
of_can q a (can.found c least e) = at a Done _ e done
of_can q a (can.refuted text no_legal shown e) = at a NoChoice _ e no_choice

pub of_i2s : (t : TableParts) (f : Facts) (home : ClockChoice) (rate : ℕ) (a : Answer) → i2s.OfI2s t f home rate a → IsOfBytes a.status
of_i2s t f home rate a (i2s.found x least sound e) = at a Done _ e done
of_i2s t f home rate a (i2s.unmet no_legal says) = at a NoChoice _ says no_choice

pub of_want : (requests : List DmaRequest) (a : Answer) → dma.OfWant requests a → IsOfBytes a.status
of_want requests a (dma.served choice least e) = at a Done _ e done
of_want requests a (dma.refuted text no_legal shown e) = at a NoChoice _ e no_choice

pub of_request : (a : Answer) (text : List ℕ) → a ≡ answered RequestRefused text → IsOfBytes a.status
of_request a text e = at a RequestRefused text e request_refused

of_run : (t : TableParts) (want : Target) (ops : List Op) (answers : List flags.Answer) (a : Answer) → OfRun t want ops answers a → IsOfBytes a.status
of_run t want ops answers a (trace.shown text is e) = at a Done text e done
of_run t want ops answers a (trace.long is says) = at a TraceTooLong _ says trace_too_long

of_answers : (t : TableParts) (want : Target) (ops : List Op) (text : List ℕ) (a : Answer) → OfAnswers t want ops text a → IsOfBytes a.status
of_answers t want ops text a (trace.unsaid line is says) = at a AnswersRefused _ says answers_refused
of_answers t want ops text a (trace.said answers is due) = of_run t want ops answers a due

pub of_trace : (t : TableParts) (want : Target) (file text : List ℕ) (a : Answer) → OfTrace t want file text a → IsOfBytes a.status
of_trace t want file text a (trace.unread line is says) = at a CTextRefused _ says c_text_refused
of_trace t want file text a (trace.read ops is due) = of_answers t want ops text a due

pub of_table : (a : Answer) (text : List ℕ) → a ≡ answered TableRefused text → IsOfBytes a.status
of_table a text e = at a TableRefused text e table_refused
