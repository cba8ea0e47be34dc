-- What a refusal of a shape says.
use Rattle.std.specs.Prelude.{List}
use Rattle.refusal.specs.declared.refusal.Refusal.{Refusal}
use Rattle.refusal.specs.declared.refusal.Refusal.TheVariants.{Fault, OutOfMemory}
use Rattle.choice_rank.specs.declared.variable.VarShape.{VarShape}
use Rattle.choice_rank.specs.declared.shape.ShapeFault.{ShapeFault}
use Rattle.choice_rank.specs.declared.shape.ShapeFault.TheVariants.{TooWide}
use Rattle.choice_rank.specs.Choices.{IsNarrow, IsFirstWide}

-- a shape that is not narrow is refused with its first wide variable; memory ran out for a narrow one
abbrev pub IsShapeRefusal : List VarShape → Refusal ShapeFault → Type 0
IsShapeRefusal vs (Fault (TooWide variable)) = (¬ IsNarrow vs) × IsFirstWide vs variable
IsShapeRefusal vs OutOfMemory = IsNarrow vs
