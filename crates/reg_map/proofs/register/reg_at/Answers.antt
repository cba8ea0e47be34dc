use Rattle.reg_map.proofs.RegisterLemmas.{if_none, none_at}
use Rattle.reg_map.proofs.register.reg_at.Goals as goal

pub returns-in-None-clause-none : goal.returns-in-None-clause-none
returns-in-None-clause-none c = if_none c.gpio_at.result _ _ (none_at c.args.at c.in-None.ensures.none) c.gpio_at.ensures.none
