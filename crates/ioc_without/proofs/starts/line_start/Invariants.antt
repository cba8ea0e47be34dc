use Rattle.std.proofs.Common.{◌≡◌, ◌+◌, ◌<◌, ◌≤◌, ◌==◌, true, count_by, take}
use Rattle.ioc_without.specs.Starts.{AreWhole}
use Rattle.ioc_without.proofs.starts.line_start.Given as goal

abbrev pub invariant-loop-at : goal.invariant-loop-at
invariant-loop-at l = record {
  line : l.line ≡ count_by (λ b. b == 10) (take l.at l.text) + 1;
  begins : l.begins ≡ true → AreWhole (take l.at l.text);
  ahead : 0 < l.number → l.line ≤ l.number;
  here : l.line ≡ l.number → l.begins ≡ true;
}
