-- What is printed is read again: a refutation, alone or behind a report, and the C text of accesses.
use Rattle.std.proofs.Common.{◌≡◌, ℕ, ◌++◌, List, [], Bool, true, false, Option, map, subst, sym}
use Rattle.std.specs.Prelude.{Ok}
use Rattle.res_base.specs.Lists.{Each}
use Rattle.res_model.specs.Placed.{IsPlaced}
use Rattle.res_model.specs.Valid.{IsValid}
use Rattle.box_rules.specs.Judged.{IsWhole, whole_meaning}
use Rattle.init_gen.specs.Writes.{writes_of}
use Rattle.problem.specs.declared.parts.ProblemParts.{ProblemParts}
use Rattle.reason_lines.proofs.LineLemmas.{are_read}
use Rattle.refutation.specs.Forms.{FitsBound, form_of}
use Rattle.refutation.specs.Reading.{proof_of}
use Rattle.report_lines.proofs.ReportLemmas.{behind_report}
use Rattle.choice_setup.specs.SetUp.{setting_of}
use Rattle.solver.specs.Owed.{IsMore, report_of}
use Rattle.solver.specs.Refutation.{IsRefutation}
use Rattle.solver.specs.Spelled.{IsAsked, IsSpelled}

-- a text that stands alone
pub alone : (p : ProblemParts) (bound : Option ℕ) (text : List ℕ) → IsWhole p → FitsBound bound → IsSpelled (whole_meaning p) bound text → IsRefutation (whole_meaning p) bound [] text
alone p bound text w fits s = record {
  nodes = s.nodes;
  canonical = s.canonical;
  accepted = s.accepted;
  text_is = s.text_is;
  read = subst (λ (t : List ℕ). proof_of t ≡ Ok (bound, map form_of s.nodes)) (sym s.text_is) (are_read p bound s.nodes [] w fits s.canonical tt);
}

-- a text behind the report of a choice
behind : (p : ProblemParts) (c : List ℕ) (bound : Option ℕ) (text : List ℕ) → IsWhole p → IsValid p.tables → Each (IsPlaced p.tables) p.signals → FitsBound bound
    → IsSpelled (whole_meaning p) bound text → IsRefutation (whole_meaning p) bound (report_of p c) text
behind p c bound text w v placed fits s = record {
  nodes = s.nodes;
  canonical = s.canonical;
  accepted = s.accepted;
  text_is = s.text_is;
  read = subst (λ (t : List ℕ). proof_of (report_of p c ++ t) ≡ Ok (bound, map form_of s.nodes)) (sym s.text_is) (behind_report p c (writes_of (setting_of p c)) bound s.nodes w v placed fits s.canonical);
}

pub more_behind : (proof : Bool) (p : ProblemParts) (c : List ℕ) (bound : Option ℕ) (text : List ℕ) → IsWhole p → IsValid p.tables → Each (IsPlaced p.tables) p.signals → FitsBound bound
    → IsAsked proof (whole_meaning p) bound text → IsMore proof (whole_meaning p) bound (report_of p c) text
more_behind false p c bound text w v placed fits asked = asked
more_behind true p c bound text w v placed fits asked = behind p c bound text w v placed fits asked
