use Rattle.std.proofs.Common.{◌∙◌, sym}
use Rattle.board_fit.proofs.LawLemmas as law
use Rattle.board_fit.proofs.laws.limits_of_parts.Goals as goal

pub returns-clause-both : goal.returns-clause-both
returns-clause-both c t p opts clocks at board chosen placement = law.both t p opts clocks at board chosen placement

pub returns-clause-other : goal.returns-clause-other
returns-clause-other c t p opts clocks at other board chosen placement ok placement_too ok_too =
    law.clocks_alone t p opts clocks at board chosen placement ok ∙ sym (law.clocks_alone t p opts clocks other board chosen placement_too ok_too)
