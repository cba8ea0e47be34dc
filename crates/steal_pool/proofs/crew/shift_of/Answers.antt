use Rattle.std.proofs.Common.{◌≡◌, [], sym, ap, ◌∙◌}
use Rattle.best_word.specs.declared.part.Part.TheVariants.{First}
use Rattle.path_deque.specs.declared.deque.Tally.{Tally}
use Rattle.path_deque.specs.Ends.{owner_tally}
use Rattle.path_deque.specs.Tallies.{put_more, tally}
use Rattle.steal_worker.specs.Jobs.{given}
use Rattle.steal_pool.proofs.CrewLemmas.{starts}
use Rattle.steal_pool.proofs.crew.shift_of.Goals as goal

pub returns-clause-set_up : goal.returns-clause-set_up
returns-clause-set_up g c = λ n all fresh row.
    let m = g.J.Judge.meaning c.args.j.now in
    let w = c.in_ok-walker.ensures.made in
    let k = c.in_ok-walker.walker.number in
    let mine : owner_tally c.in_ok-owner.owner ≡ tally First n (given k) [] = c.in_ok-owner.ensures.given ∙ (ap (λ t. put_more t (given c.args.number)) fresh ∙ ap (λ i. tally First n (given i) []) (sym w.number)) in
    record {
      ready = (w.seat, w.fits, starts m (record { walker = c.in_ok-walker.walker; owner = c.in_ok-owner.owner; thieves = c.args.thieves }) n mine row.0 w.view w.held w.closed);
      out = ap (λ (t : Tally). t.out) mine;
      deques = row.1;
    }
