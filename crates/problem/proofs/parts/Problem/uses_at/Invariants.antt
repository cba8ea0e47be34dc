use Rattle.std.proofs.Common.{◌≡◌, ◌++◌, drop, length, take}
use Rattle.res_model.specs.Placement.{uses_at}
use Rattle.problem.specs.Meets.{places_of}
use Rattle.problem.proofs.parts.Problem.uses_at.Given as goal

abbrev pub invariant-loop-signal : goal.invariant-loop-signal
invariant-loop-signal l = record {
  size : length l.uses ≡ 160;
  prefix : take l.signal l.uses ++ uses_at (drop l.signal l.self.uses) (drop l.signal (places_of l.self l.at)) ≡ uses_at l.self.uses (places_of l.self l.at);
}
