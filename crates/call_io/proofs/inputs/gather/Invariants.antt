use Rattle.std.proofs.Common.{◌≡◌, ◌⊎◌, take}
use Rattle.call_io.specs.Gathered.{AllRead}
use Rattle.res_io.specs.Bytes.{IsWithinLimit}
use Rattle.res_io.specs.Causes.{NoneFell}
use Rattle.call_io.proofs.inputs.gather.Given as goal

abbrev pub invariant-loop-name : goal.invariant-loop-name
invariant-loop-name g l = record {
  files : g.I.Inputs.files l.inputs ≡ g.I.Inputs.files l.fn.inputs;
  later : NoneFell (g.I.Inputs.faults l.fn.inputs) (g.I.Inputs.faults l.inputs);
  read : AllRead (g.I.Inputs.files l.fn.inputs) (take l.name-index l.names) l.files.items;
  clear : (l.name-index ≡ 0) ⊎ IsWithinLimit (g.I.Inputs.current l.inputs) (g.I.Inputs.taken l.inputs);
}
