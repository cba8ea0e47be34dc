use Rattle.choice_setup.specs.SetUp.{setting_of}
use Rattle.board_fit.proofs.texts.are_read_back.Goals as goal

pub returns : goal.returns
returns c =
    let s = setting_of c.args.p.now c.args.at.now in
    let settable = c.is_settable.ensures in
    record {
      read = c.accesses_are_read.ensures.read s settable;
      alone = λ other reads. c.accesses_are_read.ensures.alone s other settable reads;
    }
