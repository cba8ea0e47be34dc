use Rattle.std.proofs.Common.{◌≡◌, List, [], ◌++◌, sym, subst, ap, ◌∙◌, rules}
use Rattle.reg_machine.specs.Legal.{IsLegal}
use Rattle.reg_machine.specs.Reset.{reset_of}
use Rattle.reg_machine.specs.Run.{Sound}
use Rattle.reg_machine.specs.declared.op.Op.{Op}
use Rattle.init_gen.specs.Codes.{IsSmall, codes_of}
use Rattle.init_gen.specs.Good.{IsRight}
use Rattle.init_gen.specs.PinWrites.{gpio_section}
use Rattle.init_gen.specs.Writes.{vos_ops, hse_ops, pll_ops, over_ops, late_ops, target_of}
use Rattle.init_gen.specs.declared.setting.Codes.{Codes}
use Rattle.init_gen.proofs.ListLemmas.{writes_are}
use Rattle.init_gen.proofs.SettingLemmas.{small, setting_sound}
use Rattle.init_gen.proofs.writes.generate.Goals as goal

pub with_pll-requires : goal.with_pll-requires
with_pll-requires c = subst IsSmall (sym c.codes_of-codes.ensures) (small c.args.s.now c.requires)

pub with_late-requires : goal.with_late-requires
with_late-requires c = subst IsSmall (sym c.codes_of-codes.ensures) (small c.args.s.now c.requires)

pub returns-clause-sound : goal.returns-clause-sound
returns-clause-sound c =
    let s = c.args.s.now in
    let k = c.codes_of-codes.result in
    let is : k ≡ codes_of s.version s.facts s.clock s.wait = c.codes_of-codes.ensures in
    let empty : ◌≡◌ {A = List Op} c.new-none.result.items [] = first_of (cc, search rules) in
    let same = writes_are s.prefetch k (gpio_section s.pins) c.in_ok-zero.zero.items c.in_ok-first.first.items c.in_ok-running.running.items c.in_ok-second.second.items c.in_ok-third.third.items c.in_ok-ops.ops.items
    (c.in_ok-zero.ensures ∙ ap (λ (x : List Op). x ++ vos_ops k []) empty) c.in_ok-first.ensures c.in_ok-running.ensures c.in_ok-second.ensures c.in_ok-third.ensures c.in_ok-ops.ensures
    ∙ ap (λ (x : Codes). vos_ops x (hse_ops x.oscillator (pll_ops x (over_ops x.over (late_ops s.prefetch x (gpio_section s.pins)))))) is in
    λ t valid a. subst (λ (ops : List Op). Sound (IsLegal t (target_of s)) (IsRight s) ops (reset_of t (target_of s))) (sym same) (setting_sound t valid s c.requires a)
