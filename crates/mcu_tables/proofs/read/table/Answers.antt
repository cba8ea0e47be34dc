use Rattle.std.proofs.Common.{rules, ◌≡◌, sym, subst, ◌∙◌, Result, Err}
use Rattle.serde_json.specs.View.{view}
use Rattle.mcu_tables.specs.Table.{defaults}
use Rattle.table_members.specs.Places.{Reads}
use Rattle.table_members.specs.declared.fault.TableFault.{TableFault}
use Rattle.res_model.specs.declared.table.TableParts.{TableParts}
use Rattle.mcu_tables.proofs.ReadLemmas.{table_ends, step, refused_reads}
use Rattle.mcu_tables.proofs.ScaleLemmas.{vos_small}
use Rattle.mcu_tables.proofs.read.table.Goals as goal

pub supply-requires : goal.supply-requires
supply-requires c = record { small = vos_small c.in_ok-version.version (view c.args.root.now) c.in_ok-clock.clock c.as_slice-2.result.now c.as_slice-2.ensures c.in_ok-clock.ensures }

pub returns-in_err-defaults : goal.returns-in_err-defaults
returns-in_err-defaults c =
    let e = table_ends (view c.args.root.now) c.in_ok-version.version c.in_ok-names.names c.in_ok-package.package c.in_ok-pins.pins c.in_ok-signals.signals (c.in_ok-hse_in.hse_in, c.in_ok-hse_in.hse_out) c.in_ok-ips.ips c.in_ok-clock.clock (c.in_ok-limits.limits, c.in_ok-limits.over) (c.in_ok-scales.scales, c.in_ok-scales.flash) c.as_slice.result.now c.as_slice-2.result.now
    c.as_slice.ensures c.as_slice-2.ensures c.in_ok-version.ensures c.in_ok-names.ensures c.in_ok-package.ensures c.in_ok-pins.ensures.reads c.in_ok-signals.ensures c.in_ok-hse_in.ensures c.in_ok-ips.ensures c.in_ok-clock.ensures c.in_ok-limits.ensures c.in_ok-scales.ensures in
    let w = defaults c.in_ok-clock.clock (view c.args.root.now) in
    let P : Result TableParts TableFault → Type 0 = λ r. Reads (λ (t : TableParts). t) c.from_residual-in_err-defaults.result r in
    let is : c.from_residual-in_err-defaults.result ≡ Err c.in_err-defaults.field-0.0 = search rules in
    subst P (sym e) (refused_reads c.in_err-defaults.field-0.0 (λ x. x) c.from_residual-in_err-defaults.result w _ is c.in_err-defaults.ensures)

pub returns : goal.returns
returns c =
    let e = table_ends (view c.args.root.now) c.in_ok-version.version c.in_ok-names.names c.in_ok-package.package c.in_ok-pins.pins c.in_ok-signals.signals (c.in_ok-hse_in.hse_in, c.in_ok-hse_in.hse_out) c.in_ok-ips.ips c.in_ok-clock.clock (c.in_ok-limits.limits, c.in_ok-limits.over) (c.in_ok-scales.scales, c.in_ok-scales.flash) c.as_slice.result.now c.as_slice-2.result.now
    c.as_slice.ensures c.as_slice-2.ensures c.in_ok-version.ensures c.in_ok-names.ensures c.in_ok-package.ensures c.in_ok-pins.ensures.reads c.in_ok-signals.ensures c.in_ok-hse_in.ensures c.in_ok-ips.ensures c.in_ok-clock.ensures c.in_ok-limits.ensures c.in_ok-scales.ensures in
    let s = step (defaults c.in_ok-clock.clock (view c.args.root.now)) (c.in_ok-defaults.defaults, c.in_ok-defaults.hse_hz) _ c.in_ok-defaults.ensures in
    let P : Result TableParts TableFault → Type 0 = λ r. Reads (λ (t : TableParts). t) c.legal.result r in
    subst P (sym (e ∙ s)) c.legal.ensures
