-- The writes and the ports, a place at a time.
use Rattle.std.proofs.Common.{◌≡◌, ℕ, suc, ◌+◌, ◌<◌, ◌≤◌, List, [], ◌∷◌, ◌++◌, length, get_or, drop, Bool, true, false, cond, Option, Some, None, refl, sym, ap, ◌∙◌, arith, append_assoc, add-one}
use Rattle.std.proofs.Math.Seq.{drop-cons, drop-length}
use Rattle.reg_machine.specs.declared.op.Op.{Op}
use Rattle.res_model.specs.declared.table.Mode.{Mode}
use Rattle.res_model.specs.declared.table.Mode.TheVariants as mode
use Rattle.init_gen.specs.declared.setting.Setup.{Setup}
use Rattle.init_gen.specs.PinWrites.{is_left, ops_in, part_of, port_and, gpio_ops, ports, IsGiven, AreWhole}

pub record PortsSoFar (pins : List (Option Setup)) (p mask : ℕ) : Type 0 where
  pub in_range : p ≤ length pins
  pub mask_is : mask ≡ ports p (drop p pins)

pub record OpsSoFar (start : List Op) (pins : List (Option Setup)) (p : ℕ) (ops : List Op) : Type 0 where
  pub in_range : p ≤ length pins
  pub ops_are : ops ++ gpio_ops p (drop p pins) ≡ start ++ gpio_ops 0 pins

ports_step : (p : ℕ) (o : Option Setup) (rest : List (Option Setup)) → ports p (o ∷ rest) ≡ port_and p o (ports (suc p) rest)
ports_step p None rest = refl
ports_step p (Some u) rest = refl

ops_more : (w : Mode) (p : ℕ) (u : Setup) (rest : List Op) → ops_in w p u rest ≡ ops_in w p u [] ++ rest
ops_more (mode.Alt f) p u rest = refl
ops_more mode.Output p u rest = refl
ops_more mode.Input p u rest = refl
ops_more mode.Analog p u rest = refl
ops_more mode.Exti p u rest = refl
ops_more mode.Osc p u rest = refl
ops_more mode.Held p u rest = refl

ops_if : (b : Bool) (p : ℕ) (u : Setup) (rest : List Op) → cond b rest (ops_in u.mode p u rest) ≡ cond b [] (ops_in u.mode p u []) ++ rest
ops_if true p u rest = refl
ops_if false p u rest = ops_more u.mode p u rest

ops_step : (p : ℕ) (o : Option Setup) (rest : List (Option Setup)) → gpio_ops p (o ∷ rest) ≡ part_of p o ++ gpio_ops (suc p) rest
ops_step p None rest = refl
ops_step p (Some u) rest = ops_if (is_left p u.mode) p u (gpio_ops (suc p) rest)

pub ports_at : (pins : List (Option Setup)) (p : ℕ) → p < length pins → ports p (drop p pins) ≡ port_and p (get_or pins p None) (ports (p + 1) (drop (p + 1) pins))
ports_at pins p l =
    ap (ports p) (drop-cons pins p None l) ∙ ports_step p (get_or pins p None) (drop (suc p) pins)
    ∙ ap (λ k. port_and p (get_or pins p None) (ports k (drop k pins))) (sym (add-one p))

pub ops_at : (pins : List (Option Setup)) (p : ℕ) → p < length pins → gpio_ops p (drop p pins) ≡ part_of p (get_or pins p None) ++ gpio_ops (p + 1) (drop (p + 1) pins)
ops_at pins p l =
    ap (gpio_ops p) (drop-cons pins p None l) ∙ ops_step p (get_or pins p None) (drop (suc p) pins)
    ∙ ap (λ k. part_of p (get_or pins p None) ++ gpio_ops k (drop k pins)) (sym (add-one p))

-- the ports: the start, a step down
pub ports_none : (pins : List (Option Setup)) → PortsSoFar pins (length pins) 0
ports_none pins = record { in_range = omega arith; mask_is = ap (ports (length pins)) (sym (drop-length pins)) }

pub ports_one : (pins : List (Option Setup)) (p mask : ℕ) → p < length pins → PortsSoFar pins (p + 1) mask → PortsSoFar pins p (port_and p (get_or pins p None) mask)
ports_one pins p mask l s = record { in_range = omega arith; mask_is = ap (port_and p (get_or pins p None)) s.mask_is ∙ sym (ports_at pins p l) }

-- the writes: the start, a step up, the end
pub ops_none : (start : List Op) (pins : List (Option Setup)) → OpsSoFar start pins 0 start
ops_none start pins = record { in_range = omega arith; ops_are = refl }

pub ops_one : (start : List Op) (pins : List (Option Setup)) (p : ℕ) (ops more : List Op) → p < length pins → more ≡ ops ++ part_of p (get_or pins p None) → OpsSoFar start pins p ops → OpsSoFar start pins (p + 1) more
ops_one start pins p ops more l e s = record {
  in_range = omega arith;
  ops_are =
      ap (λ x. x ++ gpio_ops (p + 1) (drop (p + 1) pins)) e
      ∙ append_assoc ops (part_of p (get_or pins p None)) (gpio_ops (p + 1) (drop (p + 1) pins))
      ∙ ap (λ x. ops ++ x) (sym (ops_at pins p l)) ∙ s.ops_are;
}

-- what a place has
pub given_if : (pins : List (Option Setup)) (p : ℕ) (o : Option Setup) → AreWhole pins → ◌≡◌ {A = Option Setup} (get_or pins p None) o → IsGiven o
given_if pins p None w e = tt
given_if pins p (Some u) w e = w.setup p u e
