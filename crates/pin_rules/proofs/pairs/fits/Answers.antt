use Rattle.std.proofs.Common.{sym}
use Rattle.res_model.specs.declared.table.Mode.TheVariants.{Held}
use Rattle.res_model.specs.declared.table.PinUse.{PinUse}
use Rattle.pin_rules.proofs.FitLemmas.{fits_from, first_clash}
use Rattle.pin_rules.proofs.pairs.fits.Goals as goal

pub returns-in-None : goal.returns-in-None
returns-in-None c = sym (fits_from c.args.t.now c.args.uses.now c.in-None.ensures.none)

pub returns-in-Some : goal.returns-in-Some
returns-in-Some c =
    let none : PinUse = record { pin = 0; mode = Held } in
    let found = c.in-Some.ensures.pair in
    sym (first_clash c.args.t.now c.args.uses.now c.in-Some.field-0.0 c.in-Some.field-0.1 none found.order found.within (found.clash none))
