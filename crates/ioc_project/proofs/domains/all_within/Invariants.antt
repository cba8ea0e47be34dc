use Rattle.std.proofs.Common.{◌≡◌, drop}
use Rattle.ioc_project.specs.Project.{all_within, domain_tests}
use Rattle.ioc_project.proofs.domains.all_within.Given as goal

abbrev pub invariant-loop-place : goal.invariant-loop-place
invariant-loop-place l = all_within (drop l.place (domain_tests l.d)) (drop l.place l.homes) ≡ all_within (domain_tests l.d) l.homes
