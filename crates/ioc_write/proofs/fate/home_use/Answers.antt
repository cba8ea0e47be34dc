use Rattle.std.proofs.Common.{◌∙◌, sym}
use Rattle.ioc_write.proofs.Fates.{home_more}
use Rattle.ioc_write.proofs.fate.home_use.Goals as goal

pub loop-k-preserved : goal.loop-k-preserved
loop-k-preserved c = home_more c.args.signals.now c.args.uses.now c.loop-k.k c.index-signals-k.result c.args.pin c.loop-k-test.true c.requires c.index-signals-k.is (sym c.is_home.ensures ∙ c.if-is_home.false) ∙ c.loop-k.invariant
