use Rattle.std.proofs.Common.{sym, ap, ◌∙◌, append-nil, arith}
use Rattle.path_deque.specs.Ends.{owner_tally}
use Rattle.path_deque.specs.Tallies.{put_more, tally}
use Rattle.steal_pool.proofs.CrewLemmas.{given_first, given_other}
use Rattle.steal_pool.proofs.crew.given_to.Goals as goal

pub returns-then-number-ne0-clause-given : goal.returns-then-number-ne0-clause-given
returns-then-number-ne0-clause-given c =
    let t = owner_tally c.args.owner in
    sym (ap (λ l. put_more t l) (given_other c.args.number (λ e. omega arith)) ∙ ap (λ l. tally t.part t.out l t.got) (append-nil t.put))

pub returns-in-Ok-clause-given : goal.returns-in-Ok-clause-given
returns-in-Ok-clause-given c = c.in-Ok.ensures.put ∙ sym (ap (put_more (owner_tally c.args.owner)) (given_first c.args.number (omega arith)))
