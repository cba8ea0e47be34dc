use Rattle.std.proofs.Common.{◌≡◌, ◌∙◌, ◌++◌, ℕ, List, ap, arith}
use Rattle.ioc_write.specs.Survey.{above}
use Rattle.ioc_write.specs.WriteBack.{pin_entry, signal_entry}
use Rattle.ioc_write.proofs.Walks.{need_put, no_need, need_counted, none_counted, named_use, some_use, some_is}
use Rattle.ioc_write.proofs.append.put_needs.Goals as goal
use Rattle.ioc_write.proofs.append.put_needs.Goals.{then-signal+in_ok-put_need, else-signal}

pub loop-k-preserved : goal.loop-k-preserved
loop-k-preserved c =
    let t = c.args.t.now in
    let ss = c.args.signals.now in
    let us = c.args.uses.now in
    let k = c.loop-k.k in
    let s = c.index-signals-k.result in
    let u = some_use us k in
    let lt = c.loop-k-test.true in
    let many = c.requires.as_many in
    let n = above c.loop-k.greatest in
    let room = c.loop-k.invariant.room in
    elim c.if-signal.branch [
      | then-signal+in_ok-put_need w ↦
          let pin = w.pin_name.result.now in
          let signal = w.as_bytes.result.now in
          let counted = need_counted t ss us k s u lt many c.index-signals-k.is (some_is us k) w.if-signal.true in
          let number = w.next_number-number.ensures in
          let put : w.put_need.new.out.items ≡ (c.loop-k.out.items ++ pin_entry n pin) ++ signal_entry pin signal =
          w.in_ok-put_need.ensures ∙ ap (λ (i : ℕ). (c.loop-k.out.items ++ pin_entry i pin) ++ signal_entry pin signal) number in
          record {
            same =
                rw (w.out-is, w.greatest-is, number)
                (need_put t ss us k s u lt many c.index-signals-k.is (some_is us k) n c.loop-k.out.items w.put_need.new.out.items pin signal w.if-signal.true
                (named_use t us k _ pin (omega arith) w.pin_name.ensures) (w.as_bytes.ensures.value ∙ w.as_str.ensures) put
                ∙ c.loop-k.invariant.same);
            room = rw (w.greatest-is, number) (omega (arith, counted, room));
          }
      | else-signal w ↦
          let none = none_counted t ss us k s u lt many c.index-signals-k.is (some_is us k) w.if-signal.false in
          record {
            same =
                rw (w.out-is, w.greatest-is)
                (ap (λ (x : List ℕ). c.loop-k.out.items ++ x) (no_need t ss us k s u lt many c.index-signals-k.is (some_is us k) n w.if-signal.false)
                ∙ c.loop-k.invariant.same);
            room = rw w.greatest-is (omega (arith, none, room));
          }
    ]
