-- A list of variables is a shape in one way: for the ghost field in which a judge keeps that its shape is one.
use Rattle.std.proofs.Common.{List, [], ◌∷◌}
use Rattle.std.specs.Coded.{×_prop, Unit-prop, le_prop}
use Rattle.choice_rank.specs.declared.variable.VarShape.{VarShape}
use Rattle.choice_rank.specs.Choices.{IsShape, HasPositions, HasSmallSizes}

positions_prop : (vars : List VarShape) → IsProp (HasPositions vars)
positions_prop [] = Unit-prop
positions_prop (v ∷ vs) = ×_prop le_prop (positions_prop vs)

sizes_prop : (vars : List VarShape) → IsProp (HasSmallSizes vars)
sizes_prop [] = Unit-prop
sizes_prop (v ∷ vs) = ×_prop le_prop (sizes_prop vs)

pub shape_prop : (vars : List VarShape) → IsProp (IsShape vars)
shape_prop vars = hlevel (le_prop, positions_prop vars, sizes_prop vars)
