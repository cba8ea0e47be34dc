use Rattle.std.proofs.Common.{◌≡◌, ◌++◌, take}
use Rattle.std.specs.Prelude.{string_bytes}
use Rattle.std.specs.List.{flat_map}
use Rattle.explain_text.specs.Reasons.{pin_word}
use Rattle.explain_text.proofs.rivals.put_pin_words.Given as goal

abbrev pub invariant-loop-at : goal.invariant-loop-at
invariant-loop-at l = string_bytes l.line ≡ string_bytes l.initial.line ++ flat_map (pin_word l.t) (take l.at-index l.values)
