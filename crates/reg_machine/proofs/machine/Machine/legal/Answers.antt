use Rattle.std.proofs.Common.{◌≡◌, Bool, subst, sym, rules}
use Rattle.std.specs.Prelude.{◌↔◌, IsTrue}
use Rattle.reg_machine.specs.Legal.{IsLegal, is_legal}
use Rattle.reg_machine.proofs.LegalLemmas.{legal_says}
use Rattle.reg_machine.proofs.machine.Machine.legal.Goals as goal

pub returns-clause-means : goal.returns-clause-means
returns-clause-means c =
    let m = c.args.self.now in
    let e : c.is_legal.result ≡ is_legal m.table m.want m.state = first_of (search rules, cc) in
    subst (λ (b : Bool). IsTrue b ↔ IsLegal m.table m.want m.state) (sym e) (legal_says m.table m.want m.state)
