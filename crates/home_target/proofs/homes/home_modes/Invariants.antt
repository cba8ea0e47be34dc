use Rattle.std.proofs.Common.{◌≡◌, ◌≤◌, drop, length}
use Rattle.home_target.specs.Homes.{home_modes}
use Rattle.home_target.proofs.homes.home_modes.Given as goal

abbrev pub invariant-homes : goal.invariant-homes
invariant-homes l = record {
  within : l.k ≤ length l.signals;
  modes_are : l.modes ≡ home_modes l.t (drop l.k l.signals);
}

abbrev pub decreases-homes : goal.decreases-homes
decreases-homes l = l.k
