use Rattle.std.proofs.Common.{◌≡◌, ◌+◌, ◌≤◌, length}
use Rattle.std.specs.Str.Lines.{lines}
use Rattle.ioc_text.specs.Lines.{ioc_after, ioc_of}
use Rattle.res_model.specs.Steps.{◌>>=◌}
use Rattle.ioc_text.specs.Index.{each_once}
use Rattle.ioc_text.proofs.read.read_ioc.Given as goal

abbrev pub invariant-read : goal.invariant-read
invariant-read l = record {
  same : (each_once l.lines.items >>= (λ found. ioc_after found (l.number + 1) (lines l.rest))) ≡ ioc_of l.text;
  few : l.number + length l.rest ≤ length l.text;
}

abbrev pub decreases-read : goal.decreases-read
decreases-read l = length l.rest
