-- What a writer answers reads back.
use Rattle.std.proofs.Common.{◌≡◌, ◌≢◌, ◌^◌, ◌<◌, ℕ, List, length, true, Result, Ok, Err}
use Rattle.std.specs.Prelude.{IfOk}
use Rattle.choice_rank.specs.Choices.{IsChoice}
use Rattle.problem.proofs.ChosenLemmas.{clock_in_range}
use Rattle.problem.specs.Problem.{IsProblem}
use Rattle.problem.specs.declared.parts.ProblemParts.{ProblemParts}
use Rattle.res_model.specs.Placement.{fits}
use Rattle.res_model.specs.Valid.{IsValid}
use Rattle.res_model.specs.declared.opts.Opts.{Opts}
use Rattle.refusal.specs.Refusals.{Gives}
use Rattle.refusal.specs.declared.refusal.Refusal.{Refusal}
use Rattle.ioc_write.specs.ReadsBack.{IsOfText, ReadsBack}
use Rattle.ioc_write.specs.WriteBack.{uses_of, written_back}
use Rattle.ioc_write.specs.declared.fault.BackFault.{BackFault}
use Rattle.ioc_write.proofs.FewLemmas.{few_pins}
use Rattle.ioc_write.proofs.PutBack.{reads_back}

pub given_back : {X : Type 0} (look : X → List ℕ) (text : List ℕ) (opts : Opts) (p : ProblemParts) (at : List ℕ) → IsValid p.tables → IsProblem p → p.first ≢ 0 → IsChoice p.shape at → length text < 2 ^ 32
    → IsOfText text opts p → fits p.tables (uses_of p at) ≡ true → (r : Result X (Refusal BackFault)) → Gives look r (written_back text p at) → IfOk r (λ x. ReadsBack (look x) opts p at)
given_back look text opts p at valid agree whole choice few i fit (Ok x) wrote =
    reads_back text opts p at (look x) valid agree choice fit (clock_in_range p agree whole at choice) (few_pins text p few agree.few) i wrote
given_back look text opts p at valid agree whole choice few i fit (Err e) wrote = tt
