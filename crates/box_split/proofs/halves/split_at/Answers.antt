use Rattle.std.proofs.Common.{sym, ap, ◌∙◌, Option, ℕ}
use Rattle.std.specs.Prelude.{is_some, not}
use Rattle.box_split.specs.BoxIn.{box_in}
use Rattle.box_split.proofs.PathLemmas.{single_none}
use Rattle.box_split.proofs.halves.split_at.Goals as goal

pub returns-in-Some-clause-single : goal.returns-in-Some-clause-single
returns-in-Some-clause-single c =
    sym (single_none 0 (box_in c.args.s.now c.args.b.now) ∙ ap (λ (o : Option (ℕ × ℕ)). not (is_some o)) (rw c.vars.ensures.vars at (sym c.in-Some.ensures.split)))

pub returns-in-None-clause-single : goal.returns-in-None-clause-single
returns-in-None-clause-single c =
    sym (single_none 0 (box_in c.args.s.now c.args.b.now) ∙ ap (λ (o : Option (ℕ × ℕ)). not (is_some o)) (rw c.vars.ensures.vars at (sym c.in-None.ensures.split)))
