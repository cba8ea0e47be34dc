use Rattle.std.proofs.Common.{◌≡◌, ◌∙◌, List, ℕ, true, ap, subst, sym}
use Rattle.answers.specs.Said.{answered}
use Rattle.answers.specs.declared.answer.Status.TheVariants.{Done}
use Rattle.choice_rank.specs.Choices.{IsChoice}
use Rattle.choice_setup.specs.SetUp.{setting_of}
use Rattle.init_gen.specs.Writes.{writes_of}
use Rattle.problem.specs.Meets.{meets}
use Rattle.solver.specs.Owed.{AreReadBack, AreSound}
use Rattle.board_fit.specs.ByParts.{clocked}
use Rattle.board_fit.specs.Texts.{parts_text}
use Rattle.board_fit.proofs.boards.told.Goals as goal

pub choice_text-requires-clause-clocks : goal.choice_text-requires-clause-clocks
choice_text-requires-clause-clocks c = subst (IsChoice c.args.one.now.shape) (sym c.as_slice.ensures.value) c.requires.least.is_choice

pub choice_text-requires-clause-meets : goal.choice_text-requires-clause-meets
choice_text-requires-clause-meets c = subst (λ (l : List ℕ). meets c.args.one.now l ≡ true) (sym c.as_slice.ensures.value) c.requires.least.is_legal

pub returns : goal.returns
returns c =
    let one = c.args.one.now in
    let is = c.as_slice.ensures.value in
    clocked c.args.k.items c.requires.least (subst (AreSound one) is c.in_ok-text.ensures.sound) (subst (λ (l : List ℕ). AreReadBack (writes_of (setting_of one l))) is c.in_ok-text.ensures.read_back)
    (ap (answered Done) (c.of.ensures ∙ c.in_ok-text.ensures.text ∙ ap (λ (l : List ℕ). parts_text c.args.q.now c.args.at.now one l) is))
