-- Internal: what a text begins with.
use Rattle.std.specs.Prelude.{◌≡◌, ◌≢◌, ℕ, ◌≤◌, ◌<◌, ◌^◌, List, [], ◌++◌, map, length, take, get_or, Bool, false}
use Rattle.std.specs.List.{concat}
use Rattle.res_base.specs.Lists.{Each}
use Rattle.reg_machine.specs.declared.op.Op.{Op}
use Rattle.c_print.specs.Text.{op_line, is_over_op, awaits_over, frame}
use Rattle.c_print.specs.Reading.{FitsLine}

-- x, which fits, as it is spelled, and then the rest
pub record Begins {X : Type 0} (spell : X → List ℕ) (Fits : X → Type 0) (text : List ℕ) (x : X) (rest : List ℕ) : Type 0 where
  pub fits : Fits x
  pub is : text ≡ spell x ++ rest

-- no x that fits
abbrev pub BeginsNone : {X : Type 0} → (X → List ℕ) → (X → Type 0) → List ℕ → Type 0
BeginsNone {X} spell Fits text = (x : X) (rest : List ℕ) → Fits x → text ≢ spell x ++ rest

abbrev pub Below : ℕ → ℕ → Type 0
Below most n = n < most

-- a count of polls
abbrev pub IsCount : ℕ → Type 0
IsCount n = (1 ≤ n) × (n < 2 ^ 32)

-- the frame with one third line begins as that with another, up to a place
abbrev pub GoesOn : ℕ → Bool → Bool → Type 0
GoesOn place over next = take place (frame next) ≡ take place (frame over)

-- the line of the frame at a place, where the lines before are those of the frame with this third line
abbrev pub IsFrameLine : ℕ → Bool → List ℕ → Bool → List ℕ → Type 0
IsFrameLine place over text next rest = GoesOn place over next × (text ≡ get_or (frame next) place [] ++ rest)

-- an op whose timeout the third line names
pub record FitsFrame (over : Bool) (o : Op) : Type 0 where
  pub line : FitsLine o
  pub named : over ≡ false → is_over_op o ≡ false

-- the lines of ops that the third line allows, as many as there are
pub record TakesOps (over : Bool) (text : List ℕ) (ops : List Op) (rest : List ℕ) : Type 0 where
  pub fit : Each FitsLine ops
  pub named : over ≡ false → awaits_over ops ≡ false
  pub is : text ≡ concat (map op_line ops) ++ rest
  pub no_more : BeginsNone op_line (FitsFrame over) rest
  pub few : length ops ≤ length text
