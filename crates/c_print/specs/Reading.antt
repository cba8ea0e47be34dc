-- What a text is read as: the ops whose C text it is, or the line at which it departs from every C text.
use Rattle.std.specs.Prelude.{◌≡◌, ℕ, ◌-◌, ◌≤◌, ◌<◌, ◌^◌, ◌==◌, List, [], ◌∷◌, take, Result, Ok, Err, if◌then◌else◌}
use Rattle.res_base.specs.Lists.{Each}
use Rattle.reg_map.specs.Registers.{IsRegister}
use Rattle.reg_machine.specs.declared.op.Op.{Op}
use Rattle.reg_machine.specs.declared.op.Op.TheVariants as op
use Rattle.c_print.specs.declared.fault.CFault.{CFault}
use Rattle.c_print.specs.declared.fault.CFault.TheVariants as fault
use Rattle.c_print.specs.Text.{c_lines, c_text_of}

-- an op on a register that there is, of words, and with a poll or more where it awaits
abbrev pub FitsLine : Op → Type 0
FitsLine (op.Write r value) = IsRegister r × (value < 2 ^ 32)
FitsLine (op.Modify r clear set) = IsRegister r × (clear < 2 ^ 32) × (set < 2 ^ 32)
FitsLine (op.Read r) = IsRegister r
FitsLine (op.Await r mask want polls name) = IsRegister r × (mask < 2 ^ 32) × (want < 2 ^ 32) × (1 ≤ polls) × (polls < 2 ^ 32)

-- a byte put before the first line
abbrev pub onto_line : ℕ → List (List ℕ) → List (List ℕ)
onto_line c [] = (c ∷ []) ∷ []
onto_line c (l ∷ ls) = (c ∷ l) ∷ ls

-- the lines of a text, each with its end. The last may have none
abbrev pub lines_of : List ℕ → List (List ℕ)
lines_of [] = []
lines_of (c ∷ cs) = if c == 10 then (10 ∷ []) ∷ lines_of cs else onto_line c (lines_of cs)

-- in its first n lines the text is as some C text
abbrev pub AgreesFor : ℕ → List ℕ → Type 0
AgreesFor n text = (ops : List Op) × Each FitsLine ops × (take n (lines_of text) ≡ take n (c_lines ops))

-- the first line at which the text is as no C text: those before it are of a form due there, and it is not. Where the
-- text ends too early it is the one after the last
pub record DepartsAt (line : ℕ) (text : List ℕ) : Type 0 where
  pub from_one : 1 ≤ line
  pub before : AgreesFor (line - 1) text
  pub not_here : AgreesFor line text → ⊥

-- the ops, or the number of the line
abbrev pub Reads : List ℕ → Result (List Op) ℕ → Type 0
Reads text (Ok ops) = Each FitsLine ops × (c_text_of ops ≡ text)
Reads text (Err line) = DepartsAt line text

-- what a reader's fault says
abbrev pub Refuses : List ℕ → CFault → Type 0
Refuses text (fault.Line line) = Reads text (Err line)
