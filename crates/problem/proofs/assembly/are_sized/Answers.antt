use Rattle.problem.proofs.AgreeLemmas as agreed
use Rattle.problem.proofs.assembly.are_sized.Goals as goal

pub returns-clause-sized : goal.returns-clause-sized
returns-clause-sized c = agreed.each_sized c.args.t.now c.args.p.now.signals c.keeps_rules.ensures c.requires.placed

pub returns-clause-few : goal.returns-clause-few
returns-clause-few c = agreed.shape_few c.args.t.now c.args.p.now c.args.opts.now c.args.part c.keeps_rules.ensures c.homes_of.ensures.ten c.requires.few c.requires.placed c.requires.homes

pub returns-clause-positions : goal.returns-clause-positions
returns-clause-positions c = agreed.shape_positions c.args.t.now c.args.p.now c.args.opts.now c.args.part c.keeps_rules.ensures c.homes_of.ensures.ten c.requires.few c.requires.placed c.requires.homes

pub returns-clause-small : goal.returns-clause-small
returns-clause-small c = agreed.shape_small c.args.t.now c.args.p.now c.args.opts.now c.args.part c.keeps_rules.ensures c.homes_of.ensures.ten c.requires.few c.requires.placed c.requires.homes

pub returns-clause-agree : goal.returns-clause-agree
returns-clause-agree c = agreed.agree c.args.t.now c.args.p.now c.args.opts.now c.args.part c.keeps_rules.ensures c.homes_of.ensures.ten c.requires.few c.requires.placed c.requires.homes
