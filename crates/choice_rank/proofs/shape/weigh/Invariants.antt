use Rattle.std.proofs.Common.{◌≡◌, ◌++◌, drop}
use Rattle.choice_rank.specs.Choices.{choices_of}
use Rattle.choice_rank.specs.Weights.{weights_of}
use Rattle.choice_rank.proofs.shape.weigh.Given as goal

abbrev pub invariant-loop-v : goal.invariant-loop-v
invariant-loop-v l = record {
  weight : l.weight ≡ choices_of (drop l.v-index l.vars);
  weights : l.weights.items ++ weights_of (drop l.v-index l.vars) ≡ weights_of l.vars;
}
