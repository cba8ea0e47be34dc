use Rattle.report_lines.proofs.ReportLemmas.{report_passed}
use Rattle.report_lines.proofs.laws.reports_are_passed_over.Goals as goal

pub returns : goal.returns
returns c = report_passed
