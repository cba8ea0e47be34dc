use Rattle.std.proofs.Common.{◌≡◌, ◌++◌, take}
use Rattle.std.specs.Prelude.{map}
use Rattle.refutation.specs.Forms.{form_of}
use Rattle.refutation.specs.Spelling.{forms_text}
use Rattle.refutation.proofs.write.put_nodes.Given as goal

abbrev pub invariant-loop-node : goal.invariant-loop-node
invariant-loop-node l = l.out.items ≡ l.initial.out.items ++ forms_text (map form_of (take l.node-index l.nodes))
