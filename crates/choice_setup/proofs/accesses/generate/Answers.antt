use Rattle.std.proofs.Common.{◌≡◌, subst, ap, sym, ◌∙◌}
use Rattle.std.proofs.lemmas.Result.{IfOk-weaker}
use Rattle.init_gen.specs.Good.{IsAllowed, IsRight}
use Rattle.init_gen.specs.Writes.{target_of, writes_of}
use Rattle.init_gen.specs.declared.setting.Setting.{Setting}
use Rattle.reg_machine.specs.Legal.{IsLegal}
use Rattle.reg_machine.specs.Reset.{reset_of}
use Rattle.reg_machine.specs.Run.{Sound}
use Rattle.choice_setup.specs.SetUp.{setting_of}
use Rattle.choice_setup.proofs.accesses.generate.Goals as goal

pub returns-clause-writes : goal.returns-clause-writes
returns-clause-writes c =
    let is : c.setting_of-setting.result ≡ setting_of c.args.p.now c.args.at.now = c.setting_of-setting.ensures in
    IfOk-weaker c.generate.result _ _ (λ ops h. h ∙ ap writes_of is) c.generate.ensures.writes

pub returns-clause-sound : goal.returns-clause-sound
returns-clause-sound c =
    let t = c.args.p.now.tables in
    let is : c.setting_of-setting.result ≡ setting_of c.args.p.now c.args.at.now = c.setting_of-setting.ensures in
    let allowed : IsAllowed t c.setting_of-setting.result = subst (IsAllowed t) (sym is) c.is_allowed.ensures.allowed in
    IfOk-weaker c.generate.result _ _
    (λ ops h. subst (λ (s : Setting). Sound (IsLegal t (target_of s)) (IsRight s) ops.items (reset_of t (target_of s))) is (h t c.is_allowed.ensures.valid allowed)) c.generate.ensures.sound
