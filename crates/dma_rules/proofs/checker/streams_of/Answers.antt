use Rattle.std.proofs.Common.{◌≡◌, ◌<◌, ◌&&◌, ℕ, Bool, true, false, List, length, get_or, ap, subst, sym, ◌∙◌}
use Rattle.box_split.specs.BoxIn.{runs_in}
use Rattle.dma_model.specs.declared.table.DmaRow.{DmaRow}
use Rattle.res_base.specs.VarSet.{in_set}
use Rattle.res_base.specs.declared.var_set.VarSet.{VarSet}
use Rattle.dma_rules.specs.Streams.{no_request}
use Rattle.dma_model.specs.declared.table.DmaRequest.{DmaRequest}
use Rattle.res_base.specs.Lists.{Each}
use Rattle.dma_rules.specs.Judged.{IsStream, can_have, has_stream, rows_in}
use Rattle.dma_rules.proofs.BoxLemmas.{and_first, and_none, bounds_at, can_have_at, not_wanted, one_wanted, run_at, streams_in}
use Rattle.dma_rules.proofs.checker.streams_of.Goals as goal
use Rattle.dma_rules.proofs.checker.streams_of.Goals.{else-has, then-has}

pub rows_in-requires-clause-ordered : goal.rows_in-requires-clause-ordered
rows_in-requires-clause-ordered c = (bounds_at c.args.requests.now c.args.lo.now c.args.hi.now c.loop-v.v c.loop-v-test.true c.requires.is_box).0

pub rows_in-requires-clause-inside : goal.rows_in-requires-clause-inside
rows_in-requires-clause-inside c = subst (λ (r : DmaRequest). get_or c.args.hi.now c.loop-v.v 0 < length r.at) (sym c.request_at-request.ensures) (bounds_at c.args.requests.now c.args.lo.now c.args.hi.now c.loop-v.v c.loop-v-test.true c.requires.is_box).1

pub add_streams-requires : goal.add_streams-requires
add_streams-requires c =
    subst (Each IsStream) (sym (c.rows_in.ensures ∙ ap (λ (r : DmaRequest). rows_in r (run_at c.args.lo.now c.args.hi.now c.loop-v.v)) c.request_at-request.ensures)) (streams_in c.args.requests.now c.loop-v.v (run_at c.args.lo.now c.args.hi.now c.loop-v.v) c.loop-v-test.true c.requires.judged.rows)

pub loop-v-preserved : goal.loop-v-preserved
loop-v-preserved c s =
    let rs = c.args.requests.now in
    let lo = c.args.lo.now in
    let hi = c.args.hi.now in
    let v = c.loop-v.v in
    let have : ℕ → Bool = λ w. can_have rs (runs_in (length rs) lo hi) w s in
    let test : ℕ → Bool = λ w. in_set c.args.vars.now w && have w in
    elim c.if-has.branch [
      | then-has w ↦
          let member : in_set c.args.vars.now v ≡ true = sym c.has.ensures ∙ w.if-has.true in
          let rows : w.rows_in.result.now ≡ rows_in (get_or rs v no_request) (run_at lo hi v) = w.rows_in.ensures ∙ ap (λ (r : DmaRequest). rows_in r (run_at lo hi v)) w.request_at-request.ensures in
          let one : test v ≡ has_stream w.rows_in.result.now s =
          and_first (in_set c.args.vars.now v) (have v) member ∙ can_have_at rs lo hi v s c.loop-v-test.true c.requires.is_box ∙ ap (λ (xs : List DmaRow). has_stream xs s) (sym rows) in
          one_wanted v test (in_set c.loop-v.found s) (in_set c.if-has.found s) (has_stream w.rows_in.result.now s) (ap (λ (f : VarSet). in_set f s) w.found-is ∙ w.add_streams.ensures s) (c.loop-v.invariant s) one
      | else-has w ↦
          let none : test v ≡ false = and_none (in_set c.args.vars.now v) (have v) (sym c.has.ensures ∙ w.if-has.false) in
          not_wanted v test (in_set c.loop-v.found s) (in_set c.if-has.found s) (ap (λ (f : VarSet). in_set f s) w.found-is) (c.loop-v.invariant s) none
    ]
