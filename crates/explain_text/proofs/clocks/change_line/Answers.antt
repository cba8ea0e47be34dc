use Rattle.std.proofs.Common.{refl}
use Rattle.explain_text.specs.Changes.{change_line}
use Rattle.explain_text.proofs.clocks.change_line.Goals as goal

pub returns : goal.returns
unfolding change_line
returns c =
    rw (
      c.in_ok-push_str-5.ensures.bytes,
      c.in_ok-push_str-4.ensures.bytes,
      c.in_ok-push_str-3.ensures.bytes,
      c.in_ok-push_str-2.ensures.bytes,
      c.in_ok-push_str.ensures.bytes,
      c.in_ok-line.ensures.ok,
    )
    refl
