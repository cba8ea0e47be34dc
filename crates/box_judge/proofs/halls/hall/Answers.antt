use Rattle.std.proofs.Common.{◌∙◌}
use Rattle.box_judge.proofs.HallLemmas.{hall_read, inside_read, long_read, resources_read}
use Rattle.box_judge.proofs.halls.hall.Goals as goal

pub hall-requires-clause-low : goal.hall-requires-clause-low
hall-requires-clause-low c =
    long_read c.args.p.now c.requires.ready c.args.b.now c.requires.is_box c.parts-parts.result.now c.parts-t.result.now c.as_slice-uses.result.now c.signals-lo.result.now c.signals-hi.result.now
    c.parts-parts.ensures c.parts-t.ensures c.as_slice-uses.ensures c.signals-lo.ensures.rest c.signals-hi.ensures.rest c.signals-lo.result.now c.signals-lo.ensures.long

pub hall-requires-clause-high : goal.hall-requires-clause-high
hall-requires-clause-high c =
    long_read c.args.p.now c.requires.ready c.args.b.now c.requires.is_box c.parts-parts.result.now c.parts-t.result.now c.as_slice-uses.result.now c.signals-lo.result.now c.signals-hi.result.now
    c.parts-parts.ensures c.parts-t.ensures c.as_slice-uses.ensures c.signals-lo.ensures.rest c.signals-hi.ensures.rest c.signals-hi.result.now c.signals-hi.ensures.long

pub hall-requires-clause-inside : goal.hall-requires-clause-inside
hall-requires-clause-inside c =
    inside_read c.args.p.now c.requires.ready c.args.b.now c.requires.is_box c.parts-parts.result.now c.parts-t.result.now c.as_slice-uses.result.now c.signals-lo.result.now c.signals-hi.result.now
    c.parts-parts.ensures c.parts-t.ensures c.as_slice-uses.ensures c.signals-lo.ensures.rest c.signals-hi.ensures.rest

pub hall-requires-clause-resources : goal.hall-requires-clause-resources
hall-requires-clause-resources c =
    resources_read c.args.p.now c.requires.ready c.args.b.now c.requires.is_box c.parts-parts.result.now c.parts-t.result.now c.as_slice-uses.result.now c.signals-lo.result.now c.signals-hi.result.now
    c.parts-parts.ensures c.parts-t.ensures c.as_slice-uses.ensures c.signals-lo.ensures.rest c.signals-hi.ensures.rest

pub returns-clause-hall : goal.returns-clause-hall
returns-clause-hall c =
    c.hall.ensures.hall
    ∙ hall_read c.args.p.now c.requires.ready c.args.b.now c.requires.is_box c.parts-parts.result.now c.parts-t.result.now c.as_slice-uses.result.now c.signals-lo.result.now c.signals-hi.result.now
    c.parts-parts.ensures c.parts-t.ensures c.as_slice-uses.ensures c.signals-lo.ensures.rest c.signals-hi.ensures.rest c.args.class
