use Rattle.std.proofs.Common.{◌≡◌, ◌∙◌, ◌++◌, ℕ, List, Some, true, ap, subst, sym}
use Rattle.choice_rank.specs.Choices.{rank_of}
use Rattle.choice_rank.specs.Least.{IsAnswer, IsLeast}
use Rattle.box_rules.specs.Judged.{whole_meaning}
use Rattle.choice_setup.specs.SetUp.{setting_of}
use Rattle.init_gen.specs.Writes.{writes_of}
use Rattle.problem.specs.Meets.{meets}
use Rattle.problem.specs.declared.parts.ProblemParts.{ProblemParts}
use Rattle.report.specs.Reported.{report_text}
use Rattle.choice_rank.proofs.ChoiceLemmas.{rank_below}
use Rattle.solver.specs.Owed.{AreReadBack, AreSound, IsMore, report_of, solved}
use Rattle.solver.specs.Spelled.{IsAsked}
use Rattle.solver.proofs.ReadLemmas.{more_behind}
use Rattle.answers.specs.Said.{answered}
use Rattle.answers.specs.declared.answer.Status.TheVariants.{Done}
use Rattle.solver.proofs.whole.reported.Goals as goal

pub report_of-requires-clause-meets : goal.report_of-requires-clause-meets
report_of-requires-clause-meets c =
    let p = c.args.p.now in
    let answer = subst (λ (q : ProblemParts). IsAnswer q.shape (meets p) (Some c.args.rank)) (sym c.parts.ensures) c.requires.answer in
    subst (λ (at : List ℕ). meets p at ≡ true) (sym c.as_slice.ensures.value) (c.in_ok-at.ensures.least (meets p) answer).is_legal

pub returns : goal.returns
returns c =
    let p = c.args.p.now in
    let at = c.in_ok-at.at.items in
    let answer = subst (λ (q : ProblemParts). IsAnswer q.shape (meets p) (Some c.args.rank)) (sym c.parts.ensures) c.requires.answer in
    let low : IsLeast p.shape (meets p) at = subst (λ (q : ProblemParts). IsLeast q.shape (meets p) at) c.parts.ensures (c.in_ok-at.ensures.least (meets p) answer) in
    let rank : rank_of p.shape at ≡ c.args.rank = subst (λ (q : ProblemParts). rank_of q.shape at ≡ c.args.rank) c.parts.ensures (c.in_ok-at.ensures.rank (meets p) answer) in
    let sound : AreSound p at = subst (AreSound p) c.as_slice.ensures.value c.in_ok-text.ensures.sound in
    let asked : IsAsked c.args.proof (whole_meaning p) (Some (rank_of p.shape at)) c.args.more.now = subst (λ (r : ℕ). IsAsked c.args.proof (whole_meaning p) (Some r) c.args.more.now) (sym rank) c.requires.more in
    let fits = rank_below p.shape at c.requires.is_whole.ready.shape.narrow low.is_choice in
    let more : IsMore c.args.proof (whole_meaning p) (Some (rank_of p.shape at)) (report_of p at) c.args.more.now = more_behind c.args.proof p at (Some (rank_of p.shape at)) c.args.more.now c.requires.is_whole c.is_valid.ensures c.requires.placed fits asked in
    let read_back : AreReadBack (writes_of (setting_of p at)) = subst (λ (l : List ℕ). AreReadBack (writes_of (setting_of p l))) c.as_slice.ensures.value c.in_ok-text.ensures.read_back in
    let report : c.in_ok-text.text.items ≡ report_text p at (writes_of (setting_of p at)) = c.in_ok-text.ensures.report ∙ ap (λ (l : List ℕ). report_text p l (writes_of (setting_of p l))) c.as_slice.ensures.value in
    solved at c.args.more.now low sound read_back more (ap (answered Done) (c.of.ensures ∙ c.in_ok-extend_from_slice.ensures.items ∙ ap (λ (l : List ℕ). l ++ c.args.more.now) report))
