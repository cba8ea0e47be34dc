use Rattle.report_lines.proofs.ReportLemmas.{behind_report}
use Rattle.report_lines.proofs.laws.proofs_behind_reports_are_read.Goals as goal

pub returns : goal.returns
returns c = behind_report
