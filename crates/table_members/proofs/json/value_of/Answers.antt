use Rattle.std.proofs.Common.{ap, sym, ◌∙◌, Option}
use Rattle.serde_json.specs.Data.{Data}
use Rattle.serde_json.specs.Read.{read}
use Rattle.table_members.specs.Forms.{due}
use Rattle.table_members.specs.declared.fault.TableFault.TheVariants as fault
use Rattle.table_members.proofs.JsonLemmas.{json_of_text}
use Rattle.table_members.proofs.json.value_of.Goals as goal

pub returns-in-Ok-from_str : goal.returns-in-Ok-from_str
returns-in-Ok-from_str c = ap (λ (o : Option Data). due fault.NotJson o) (json_of_text c.args.bytes.now c.in-Ok.ensures.cases.1 ∙ ap read (sym c.in-Ok.ensures.cases.0) ∙ c.in-Ok-from_str.ensures.ok)
