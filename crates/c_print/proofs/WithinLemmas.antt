-- An access whose timeout the third line names.
use Rattle.std.proofs.Common.{◌≡◌, ℕ, List, [], ◌∷◌, ◌++◌, Bool, true, false, ◌||◌, not, refl, sym, ap, ◌∙◌}
use Rattle.reg_machine.specs.declared.op.Op.{Op}
use Rattle.c_print.specs.Text.{op_line, is_over_op, awaits_over}
use Rattle.c_print.specs.Reading.{FitsLine}
use Rattle.c_print.specs.Prefixes.{Begins, BeginsNone, FitsFrame}
use Rattle.c_print.proofs.LineLemmas.{op_apart}

-- where no access stands, none that the third line allows does
pub none_within : (over : Bool) (text : List ℕ) → BeginsNone op_line FitsLine text → BeginsNone op_line (FitsFrame over) text
none_within over text none o rest f e = none o rest f.line e

pub any_within : (over : Bool) (text : List ℕ) (o : Op) (rest : List ℕ) → over ≡ true → Begins op_line FitsLine text o rest → Begins op_line (FitsFrame over) text o rest
any_within over text o rest w b = record { fits = record { line = b.fits; named = λ n. let z : true ≡ false = sym w ∙ n in absurd cc }; is = b.is }

pub op_within : (over : Bool) (text : List ℕ) (o : Op) (rest : List ℕ) → is_over_op o ≡ false → Begins op_line FitsLine text o rest → Begins op_line (FitsFrame over) text o rest
op_within over text o rest n b = record { fits = record { line = b.fits; named = λ w. n }; is = b.is }

-- the text begins with one access, and the third line does not allow it
pub not_within : (over : Bool) (text : List ℕ) (o : Op) (rest : List ℕ) → over ≡ false → is_over_op o ≡ true → Begins op_line FitsLine text o rest → BeginsNone op_line (FitsFrame over) text
not_within over text o rest w is b p more f e =
    let same : o ≡ p = (op_apart o p rest more b.fits f.line (sym b.is ∙ e)).0 in
    let z : true ≡ false = sym is ∙ ap is_over_op same ∙ f.named w in
    cc

-- ops that the third line allows, and one more
pub all_named : (over : Bool) (ops : List Op) (o : Op) → (over ≡ false → awaits_over ops ≡ false) → FitsFrame over o → over ≡ false → awaits_over (ops ++ o ∷ []) ≡ false
all_named over ops o all f w = one_more ops (all w)
  where
    left : (a b : Bool) → (a || b) ≡ false → a ≡ false
    left true b h = absurd cc
    left false b h = refl

    right : (a b : Bool) → (a || b) ≡ false → b ≡ false
    right true b h = absurd cc
    right false b h = h

    neither : (a b : Bool) → a ≡ false → b ≡ false → (a || b) ≡ false
    neither true b h k = h
    neither false b h k = k

    one_more : (os : List Op) → awaits_over os ≡ false → awaits_over (os ++ o ∷ []) ≡ false
    one_more [] h = neither (is_over_op o) false (f.named w) refl
    one_more (p ∷ os) h = neither (is_over_op p) (awaits_over (os ++ o ∷ [])) (left (is_over_op p) (awaits_over os) h) (one_more os (right (is_over_op p) (awaits_over os) h))

-- the third line is that which the ops need
pub as_named : (over awaits : Bool) → (over ≡ false → awaits ≡ false) → (not over || awaits) ≡ true → awaits ≡ over
as_named false awaits named due = named refl
as_named true awaits named due = due

-- or it names what no op awaits
pub not_due : (over awaits : Bool) → (not over || awaits) ≡ false → (over ≡ true) × (awaits ≡ false)
not_due true awaits out = (refl, out)
not_due false awaits out = absurd cc
