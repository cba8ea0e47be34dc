-- The sections, each put behind what is there, are the list.
use Rattle.std.proofs.Common.{◌≡◌, List, [], ◌∷◌, ◌++◌, Bool, true, false, cond, eqb, refl, sym, ap, ◌∙◌, append_assoc}
use Rattle.reg_machine.specs.declared.op.Op.{Op}
use Rattle.init_gen.specs.declared.setting.Oscillator.{Oscillator}
use Rattle.init_gen.specs.declared.setting.Oscillator.TheVariants as oscillator
use Rattle.init_gen.specs.declared.setting.Codes.{Codes}
use Rattle.init_gen.specs.Writes.{vos_ops, hse_ops, pll_ops, over_ops, late_ops}

hse_more : (o : Oscillator) (rest : List Op) → hse_ops o rest ≡ hse_ops o [] ++ rest
hse_more oscillator.Off rest = refl
hse_more oscillator.Crystal rest = refl
hse_more oscillator.Bypass rest = refl

three : (b : Bool) (x y z : Op) (rest : List Op) → cond b (x ∷ y ∷ z ∷ rest) rest ≡ cond b (x ∷ y ∷ z ∷ []) [] ++ rest
three true x y z rest = refl
three false x y z rest = refl

five : (b : Bool) (x y z u w : Op) (rest : List Op) → x ∷ y ∷ z ∷ cond b rest (u ∷ w ∷ rest) ≡ (x ∷ y ∷ z ∷ cond b [] (u ∷ w ∷ [])) ++ rest
five true x y z u w rest = refl
five false x y z u w rest = refl

pll_more : (c : Codes) (rest : List Op) → pll_ops c rest ≡ pll_ops c [] ++ rest
pll_more c rest = three c.pll _ _ _ rest

late_more : (p : Bool) (c : Codes) (rest : List Op) → late_ops p c rest ≡ late_ops p c [] ++ rest
late_more p c rest = five (eqb c.src 0) _ _ _ _ _ rest

-- two before, and one more where the second test fails
ends_so : (b d : Bool) (x y z : Op) (rest : List Op) → cond b rest (x ∷ y ∷ cond d rest (z ∷ rest)) ≡ cond b [] (x ∷ y ∷ cond d [] (z ∷ [])) ++ rest
ends_so true d x y z rest = refl
ends_so false true x y z rest = refl
ends_so false false x y z rest = refl

vos_more : (c : Codes) (rest : List Op) → vos_ops c rest ≡ vos_ops c [] ++ rest
vos_more c rest = ends_so (eqb c.step 1) (eqb c.scale 1) _ _ _ rest

over_more : (b : Bool) (rest : List Op) → over_ops b rest ≡ over_ops b [] ++ rest
over_more true rest = refl
over_more false rest = refl

pub writes_are : (p : Bool) (c : Codes) (pins z a b o d e : List Op) → z ≡ vos_ops c [] → a ≡ z ++ hse_ops c.oscillator [] → b ≡ a ++ pll_ops c [] → o ≡ b ++ over_ops c.over [] → d ≡ o ++ late_ops p c [] → e ≡ d ++ pins → e ≡ vos_ops c (hse_ops c.oscillator (pll_ops c (over_ops c.over (late_ops p c pins))))
writes_are p c pins z a b o d e ez ea eb eo ed ee =
    let late = late_ops p c pins in
    let over = over_ops c.over late in
    let pll = pll_ops c over in
    let hse = hse_ops c.oscillator pll in
    ee ∙ ap (λ x. x ++ pins) ed ∙ append_assoc o (late_ops p c []) pins ∙ ap (λ x. o ++ x) (sym (late_more p c pins))
    ∙ ap (λ x. x ++ late) eo ∙ append_assoc b (over_ops c.over []) late ∙ ap (λ x. b ++ x) (sym (over_more c.over late))
    ∙ ap (λ x. x ++ over) eb ∙ append_assoc a (pll_ops c []) over ∙ ap (λ x. a ++ x) (sym (pll_more c over))
    ∙ ap (λ x. x ++ pll) ea ∙ append_assoc z (hse_ops c.oscillator []) pll ∙ ap (λ x. z ++ x) (sym (hse_more c.oscillator pll))
    ∙ ap (λ x. x ++ hse) ez ∙ sym (vos_more c hse)
