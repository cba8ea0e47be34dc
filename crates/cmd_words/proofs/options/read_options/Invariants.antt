use Rattle.std.proofs.Common.{◌≡◌, ◌+◌, map, drop}
use Rattle.std.specs.Prelude.{string_bytes}
use Rattle.cmd_words.specs.Words.{given_from, options, IsLimited}
use Rattle.cmd_words.proofs.options.read_options.Given as goal

abbrev pub invariant-loop-i : goal.invariant-loop-i
invariant-loop-i l = record {
  read : given_from l.takes (l.first + l.i) l.given l.due (map string_bytes (drop l.i l.words)) ≡ options l.takes l.first (map string_bytes l.words);
  limited : IsLimited l.given;
}
