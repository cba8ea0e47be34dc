-- The text of a refutation that is one leaf with a Hall set is read.
use Rattle.std.proofs.Common.{◌≡◌, ℕ, ◌<◌, ◌&&◌, List, [], ◌∷◌, true, false, not, None, refl, subst, arith}
use Rattle.std.specs.Prelude.{Ok, map, nat_lt}
use Rattle.std.proofs.lemmas.Bool.Decides.{nat_tests}
use Rattle.res_base.specs.declared.var_set.VarSet.{VarSet}
use Rattle.res_base.specs.Sums.{sum_below, one_if}
use Rattle.res_base.specs.VarSet.{in_set}
use Rattle.res_base.proofs.SumLemmas.{some_below}
use Rattle.box_rules.specs.Contest.{Contestant, is_contestant, resources_of, hall_refutes}
use Rattle.box_rules.proofs.CountLemmas.{both, yes}
use Rattle.pin_match.specs.Hall.{any_below}
use Rattle.refutation.specs.Forms.{form_of}
use Rattle.refutation.specs.Lines.{HasLine, HasMembers, ReasonsHaveLines}
use Rattle.refutation.specs.Reading.{proof_of}
use Rattle.refutation.specs.Spelling.{spelling}
use Rattle.refutation.specs.Trees.{BadLeaf}
use Rattle.refutation.specs.declared.node.Node.TheVariants as node
use Rattle.refutation.proofs.FitLemmas.{canonical_read}
use Rattle.res_model.specs.declared.table.TableParts.{TableParts}
use Rattle.search_api.specs.Meaning.{IsLawful, Meaning}
use Rattle.search_api.specs.declared.verdict.Class.{Class}
use Rattle.search_api.specs.declared.verdict.Reason.{Reason}
use Rattle.search_api.specs.declared.verdict.Reason.TheVariants.{Hall}
use Rattle.search_api.specs.declared.verdict.Verdict.TheVariants.{Bad}

-- what refutes a box has a member
pub has_members : (t : TableParts) (class : Class) (cs : List Contestant) (vars : VarSet) → hall_refutes t class cs vars ≡ true → ((v : ℕ) → in_set vars v ≡ true → v < 170) → HasMembers vars
unfolding hall_refutes
has_members t class cs vars refuted small =
    let b = both (not (any_below 192 (λ v. in_set vars v && not (is_contestant cs v)))) (nat_lt (resources_of t class cs vars) (sum_below 192 (λ v. one_if (in_set vars v)))) refuted in
    let l : resources_of t class cs vars < sum_below 192 (λ v. one_if (in_set vars v)) = grind (arith, nat_tests, b.1) in
    let r = some_below 192 (λ v. one_if (in_set vars v)) (omega (arith, l)) in
    record { some = (r.0, r.1, yes (in_set vars r.0) r.2); variables = λ v less e. small v e }

-- a judge of no variables that has one reason for all
abbrev always : Reason → Meaning
always r = record { shape = []; legal = λ c. false; refutes = λ s box. true; verdict = λ box. Bad r }

is_lawful : (r : Reason) → IsLawful (always r)
is_lawful r = record {
  is_shape = record { few = omega arith; positions = tt; small = tt; narrow = omega arith };
  none_legal = λ reason box b e choice c lies ok. absurd cc;
  bad_refutes = λ reason box b e. refl;
  legal_is_one = λ box b e. absurd cc;
  open_has_two = λ box b e. absurd cc;
}

has_lines : (r : Reason) → HasLine r → ReasonsHaveLines (always r)
has_lines r line reason box b e = let same : r ≡ reason = cc (e) in subst HasLine same line

pub read_leaf : (class : Class) (vars : VarSet) → HasMembers vars → proof_of (spelling None (map form_of (node.Bad (Hall class vars) ∷ []))) ≡ Ok (None, map form_of (node.Bad (Hall class vars) ∷ []))
read_leaf class vars has =
    let r : Reason = Hall class vars in
    canonical_read (always r) None (is_lawful r) (has_lines r has) (node.Bad r ∷ []) [] tt record { tree = BadLeaf r; nodes_are = refl; canonical = (refl, refl) } tt
