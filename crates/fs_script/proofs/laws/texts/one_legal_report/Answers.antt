-- Each report is what its text reads as.
use Rattle.fs_script.proofs.LegalReports.{IsPrintable-legal}
use Rattle.fs_script.proofs.TextRead.{same_report}
use Rattle.fs_script.proofs.laws.texts.one_legal_report.Goals as goal

pub returns : goal.returns
returns c told told' s R S job all all' legal legal' same =
    same_report R S (IsPrintable-legal job all legal) (IsPrintable-legal job all' legal') same
