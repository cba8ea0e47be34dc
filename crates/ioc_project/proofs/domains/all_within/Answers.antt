use Rattle.std.proofs.Common.{◌∙◌, sym, arith, add-one}
use Rattle.ioc_project.specs.Project.{domain_tests}
use Rattle.ioc_project.proofs.FirstOutside.{inside, outside}
use Rattle.ioc_project.proofs.domains.all_within.Goals as goal

pub returns-then-not-is_in_domain : goal.returns-then-not-is_in_domain
returns-then-not-is_in_domain c =
    sym c.loop-place.invariant ∙ outside (domain_tests c.args.d.now) c.args.homes.now c.loop-place.place (record { value = 0; line = 0 }) (omega arith) (omega arith) (sym c.if-not-is_in_domain.ensures)

pub loop-place-preserved : goal.loop-place-preserved
loop-place-preserved c =
    rw add-one (inside (domain_tests c.args.d.now) c.args.homes.now c.loop-place.place (record { value = 0; line = 0 }) (omega arith) (omega arith) (sym c.if-not-is_in_domain.ensures) ∙ c.loop-place.invariant)
