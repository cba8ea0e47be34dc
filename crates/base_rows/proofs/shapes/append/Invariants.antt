use Rattle.std.proofs.Common.{◌≤◌, ◌+◌, vec_len}
use Rattle.choice_rank.specs.Choices.{HasPositions, HasSmallSizes}
use Rattle.base_rows.proofs.shapes.append.Given as goal

abbrev pub invariant-loop : goal.invariant-loop
invariant-loop l = record {
  positions : HasPositions l.vars.items;
  sizes : HasSmallSizes l.vars.items;
  count : vec_len l.vars ≤ vec_len l.initial.vars + l.counter;
}
