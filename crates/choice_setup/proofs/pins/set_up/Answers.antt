use Rattle.std.proofs.Common.{◌≡◌, ◌+◌, List, get_or, Some, set, subst, ap, ◌∙◌}
use Rattle.res_model.specs.declared.project.Signal.{Signal}
use Rattle.res_model.specs.declared.table.TableParts.{TableParts}
use Rattle.init_gen.specs.declared.setting.Setup.{Setup}
use Rattle.problem.specs.declared.parts.ProblemParts.{ProblemParts}
use Rattle.choice_setup.specs.SetUp.{place_of, setup_of, setups_from}
use Rattle.choice_setup.proofs.PinLemmas.{signal_set}
use Rattle.choice_setup.proofs.pins.set_up.Goals as goal

pub returns-clause-setup : goal.returns-clause-setup
returns-clause-setup c =
    let p = c.args.p.now in
    let k = c.args.signal in
    let s = c.index-as_slice-signal.result in
    let u = c.first_use-used.result in
    let place = c.place_of.result in
    let same : c.parts-parts.result.now ≡ p = c.parts-parts.ensures in
    let is : s ≡ get_or p.signals k s = subst (λ (xs : List Signal). s ≡ get_or xs k s) (c.as_slice.ensures ∙ ap (λ (x : ProblemParts). x.signals) same) c.index-as_slice-signal.is in
    let there : place ≡ place_of p.tables u.pin = c.place_of.ensures.place ∙ ap (λ (x : ProblemParts). place_of x.tables u.pin) same in
    let made : c.setup_of.result ≡ setup_of p.tables s u = c.setup_of.ensures ∙ ap (λ (t : TableParts). setup_of t s u) (ap (λ (x : ProblemParts). x.tables) same) in
    ap (λ (x : Setup). set (setups_from p c.args.at.now (k + 1)) place (Some x)) made
    ∙ signal_set p c.args.at.now k place s u c.requires.signal is c.first_use-used.ensures.first there c.place_of.ensures.within
