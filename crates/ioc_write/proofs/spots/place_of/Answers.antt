use Rattle.std.proofs.Common.{◌≡◌, ◌∙◌, ◌+◌, ◌*◌, ℕ, List, Option, Some, None, ap, sym}
use Rattle.std.specs.Prelude.{slice_index_or}
use Rattle.ioc_write.proofs.PinSpots.{no_spot, nothing_there, found_there, other_there, named_within}
use Rattle.ioc_write.proofs.spots.place_of.Goals as goal

at_spot : (spots : List (Option ℕ)) (s n : ℕ) (r o : Option ℕ) → r ≡ slice_index_or spots s None → s ≡ n → r ≡ o → slice_index_or spots n None ≡ o
at_spot spots s n r o a b e = ap (λ (k : ℕ). slice_index_or spots k None) (sym b) ∙ sym a ∙ e

pub returns-in_err-port-clause-place : goal.returns-in_err-port-clause-place
returns-in_err-port-clause-place c = c.from_residual.ensures ∙ sym (no_spot c.args.pins.now c.requires.pins c.args.name.now (sym c.spot_of.ensures ∙ c.in_err-port.was))

pub returns-in_err-place-clause-place : goal.returns-in_err-place-clause-place
returns-in_err-place-clause-place c =
    c.from_residual-in_err-place.ensures
    ∙ sym (nothing_there c.args.pins.now c.requires.pins c.args.name.now c.in_ok-port.port c.in_ok-port.number (sym c.spot_of.ensures ∙ c.in_ok-port.was) c.args.spots.now c.requires.spots
    (at_spot c.args.spots.now c.spot_in.result (c.in_ok-port.port * 16 + c.in_ok-port.number) c.spot_at.result None c.spot_at.ensures c.spot_in.ensures c.in_err-place.was))

pub returns-then-is_named-clause-place : goal.returns-then-is_named-clause-place
returns-then-is_named-clause-place c =
    sym (found_there c.args.pins.now c.requires.pins c.args.name.now c.in_ok-port.port c.in_ok-port.number (sym c.spot_of.ensures ∙ c.in_ok-port.was) c.args.spots.now c.requires.spots c.in_ok-place.place
    (at_spot c.args.spots.now c.spot_in.result (c.in_ok-port.port * 16 + c.in_ok-port.number) c.spot_at.result (Some c.in_ok-place.place) c.spot_at.ensures c.spot_in.ensures c.in_ok-place.was)
    (sym c.is_named.ensures ∙ c.if-is_named.true))

pub returns-else-is_named-clause-place : goal.returns-else-is_named-clause-place
returns-else-is_named-clause-place c =
    sym (other_there c.args.pins.now c.requires.pins c.args.name.now c.in_ok-port.port c.in_ok-port.number (sym c.spot_of.ensures ∙ c.in_ok-port.was) c.args.spots.now c.requires.spots c.in_ok-place.place
    (at_spot c.args.spots.now c.spot_in.result (c.in_ok-port.port * 16 + c.in_ok-port.number) c.spot_at.result (Some c.in_ok-place.place) c.spot_at.ensures c.spot_in.ensures c.in_ok-place.was)
    (sym c.is_named.ensures ∙ c.if-is_named.false))

pub returns-then-is_named-clause-within : goal.returns-then-is_named-clause-within
returns-then-is_named-clause-within c = named_within c.args.pins.now c.in_ok-place.place c.args.name.now (sym c.is_named.ensures ∙ c.if-is_named.true)
