use Rattle.std.proofs.Common.{List, ℕ, take, refl, subst}
use Rattle.std.specs.Io.KnownBytes.{Appends}
use Rattle.call_io.specs.Ran.{part}
use Rattle.call_io.proofs.write.write_text.Goals as goal

pub returns-in-Err : goal.returns-in-Err
returns-in-Err g c =
    let n : ℕ = c.in-Err.ensures.prefix.0 in
    part n refl c.in-Err.ensures.failed (subst (λ (text : List ℕ). Appends (g.K.Sink.written c.args.out.now) (g.K.Sink.written c.write_all.new.out) (take n text)) c.as_slice.ensures c.in-Err.ensures.prefix.1, c.in-Err.ensures.told)
