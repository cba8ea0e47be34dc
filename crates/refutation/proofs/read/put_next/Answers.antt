use Rattle.std.proofs.Common.{ℕ, sym, ap, ◌∙◌, arith}
use Rattle.refutation.specs.Reading.{number_from}
use Rattle.refutation.proofs.FormLemmas.{joins}
use Rattle.refutation.proofs.read.put_next.Goals as goal

pub returns : goal.returns
returns c =
    let found = c.in_ok-v.ensures in (
      omega (arith, found.below),
      ap (λ (n : ℕ). number_from n 170 c.args.field.now) (sym c.from.ensures) ∙ sym found.number,
      joins c.args.vars.now c.put.new.self c.args.least c.in_ok-v.field-0 (omega (arith, found.least, c.from.ensures)) (omega (arith, found.below)) c.requires c.put.ensures,
    )
