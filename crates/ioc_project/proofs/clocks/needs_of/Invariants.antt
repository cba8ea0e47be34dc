use Rattle.std.proofs.Common.{◌≡◌, ◌&&◌, ◌||◌, drop}
use Rattle.std.specs.Prelude.{max}
use Rattle.std.specs.List.{list_any}
use Rattle.res_model.specs.declared.table.Ip.{Ip}
use Rattle.res_model.specs.Clock.{is_exact, is_most, is_in_use, greatest_floor}
use Rattle.ioc_project.proofs.clocks.needs_of.Given as goal

abbrev pub invariant-loop-ip : goal.invariant-loop-ip
invariant-loop-ip l = record {
  exact : (l.needs.exact || list_any (λ (ip : Ip). is_exact ip.clock48 && is_in_use l.t l.p ip) (drop l.ip-index l.ip-items)) ≡ list_any (λ (ip : Ip). is_exact ip.clock48 && is_in_use l.t l.p ip) l.ip-items;
  most : (l.needs.most || list_any (λ (ip : Ip). is_most ip.clock48 && is_in_use l.t l.p ip) (drop l.ip-index l.ip-items)) ≡ list_any (λ (ip : Ip). is_most ip.clock48 && is_in_use l.t l.p ip) l.ip-items;
  floor : max l.needs.floor (greatest_floor l.t l.p (drop l.ip-index l.ip-items)) ≡ greatest_floor l.t l.p l.ip-items;
}
