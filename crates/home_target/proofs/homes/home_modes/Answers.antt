use Rattle.std.proofs.Common.{◌≡◌, ◌∙◌, ◌+◌, ◌-◌, ℕ, List, Option, drop, length, ap, refl, arith}
use Rattle.res_model.specs.declared.table.Mode.{Mode}
use Rattle.home_target.specs.Homes.{home_modes}
use Rattle.home_target.proofs.HomeLemmas.{no_homes, one_home}
use Rattle.home_target.proofs.homes.home_modes.Goals as goal

pub homes-init : goal.homes-init
homes-init c = record { within = omega arith; modes_are = c.no_modes-modes.ensures ∙ no_homes c.args.t.now c.args.signals.now (length c.args.signals.now) refl }

pub homes-preserved : goal.homes-preserved
homes-preserved c =
    let t = c.args.t.now in
    let ss = c.args.signals.now in
    let k = c.homes.k - 1 in
    let up : c.homes.k ≡ k + 1 = omega arith in
    let before : c.homes.modes ≡ home_modes t (drop (k + 1) ss) = c.homes.invariant.modes_are ∙ ap (λ (n : ℕ). home_modes t (drop n ss)) up in
    record {
      within = omega arith;
      modes_are = one_home t ss k c.signal_at-signal.result.now c.homes.modes c.put_use.new.modes c.in_ok-found.found before c.signal_at-signal.ensures c.in_ok-found.ensures c.put_use.ensures;
    }

pub is_there-requires : goal.is_there-requires
is_there-requires c = record {
  placed = c.placed_at.ensures c.signal_at-signal.result.now c.signal_at-signal.ensures;
  found = c.in_ok-found.ensures;
}

pub returns : goal.returns
returns c =
    let none : c.homes.k ≡ 0 = omega arith in
    c.homes.invariant.modes_are ∙ ap (λ (n : ℕ). home_modes c.args.t.now (drop n c.args.signals.now)) none
