use Rattle.std.proofs.Common.{sym, subst, arith}
use Rattle.dma_model.specs.declared.table.DmaRequest.{DmaRequest}
use Rattle.dma_rules.specs.Wanted.{IsAsked}
use Rattle.dma_rules.proofs.WantLemmas.{first_bad, wanted_more}
use Rattle.dma_rules.proofs.want.add_asked.Goals as goal

pub returns-clause-wanted : goal.returns-clause-wanted
returns-clause-wanted c =
    let table = c.args.table.now in
    let words = c.args.words.now in
    let copied = c.in_ok-copied.copied in
    wanted_more table words c.args.place c.args.found.now c.push.new.self copied c.requires.place c.requires.wanted
    (subst (λ (r : DmaRequest). IsAsked table words c.args.place r) (sym c.in_ok-copied.ensures) c.in-Some.ensures) c.in_ok-push.ensures.ok

pub returns-in_default-clause-refused : goal.returns-in_default-clause-refused
returns-in_default-clause-refused c = first_bad c.args.table.now c.args.words.now c.args.place _ c.args.found.now c.requires.place (omega arith) c.requires.wanted c.in_default.ensures
