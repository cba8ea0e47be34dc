use Rattle.std.proofs.Common.{◌≡◌, List, ap, sym, subst, ◌∙◌, None}
use Rattle.res_model.specs.PinNames.{place}
use Rattle.res_model.specs.declared.table.Pin.{Pin}
use Rattle.res_model.specs.declared.table.TableParts.{TableParts}
use Rattle.res_model.proofs.PlaceLaws.{no_place}
use Rattle.res_model.proofs.table.Tables.pin_of.Goals as goal

pub returns-in-None-clause-none : goal.returns-in-None-clause-none
returns-in-None-clause-none c =
    let same = c.as_slice.ensures ∙ ap (λ (t : TableParts). t.pins) c.parts.ensures in
    no_place c.args.self.now.pins c.args.name.now (subst (λ (ps : List Pin). place ps c.args.name.now ≡ None) same (sym c.in-None.ensures.place))
