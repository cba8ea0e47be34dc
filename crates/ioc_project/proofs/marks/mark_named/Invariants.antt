use Rattle.std.proofs.Common.{◌≡◌, drop}
use Rattle.std.specs.List.{list_any}
use Rattle.std.specs.Str.{bytes_eq}
use Rattle.ioc_project.proofs.marks.mark_named.Given as goal

abbrev pub invariant-loop-ip : goal.invariant-loop-ip
invariant-loop-ip l = list_any (λ ip. list_any (bytes_eq l.text) ip.marks) (drop l.ip-index l.ip-items) ≡ list_any (λ ip. list_any (bytes_eq l.text) ip.marks) l.ip-items
