use Rattle.std.proofs.Common.{◌≡◌, ◌≤◌, ◌-◌, ◌+◌, Some, vec_len}
use Rattle.std.specs.Io.KnownBytes.{Consumes}
use Rattle.res_io.specs.Causes.{NoneFell}
use Rattle.res_io.specs.Bytes.{file_of}
use Rattle.res_io.proofs.inputs.read_all.Given as goal

abbrev pub invariant-read : goal.invariant-read
invariant-read g l = record {
  files : g.I.Inputs.files l.inputs ≡ g.I.Inputs.files l.fn.inputs;
  later : NoneFell (g.I.Inputs.faults l.fn.inputs) (g.I.Inputs.faults l.inputs);
  current : g.I.Inputs.current l.inputs ≡ Some l.name;
  taken : g.I.Inputs.taken l.inputs ≡ vec_len l.bytes;
  room : vec_len l.buf ≡ 65536;
  short : vec_len l.bytes ≤ 67108864 + 65536;
  read : Consumes (file_of (g.I.Inputs.files l.fn.inputs) l.name) (g.I.Inputs.left l.inputs) l.bytes.items;
}

abbrev pub decreases-read : goal.decreases-read
decreases-read g l = 67108865 - vec_len l.bytes
