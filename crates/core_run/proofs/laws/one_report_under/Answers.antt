use Rattle.core_run.proofs.FirstMoments.{one_first}
use Rattle.core_run.proofs.OneReport.{one_report}
use Rattle.core_run.proofs.laws.one_report_under.Goals as goal

pub returns-clause-first : goal.returns-clause-first
returns-clause-first c = one_first

pub returns-clause-report : goal.returns-clause-report
returns-clause-report c = one_report
