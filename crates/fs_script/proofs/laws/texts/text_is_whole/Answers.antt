-- The text reads as the same report with what follows and without.
use Rattle.fs_script.proofs.LegalReports.{IsPrintable-legal}
use Rattle.fs_script.proofs.TextRead.{nothing_more}
use Rattle.fs_script.proofs.laws.texts.text_is_whole.Goals as goal

pub returns-clause-alone : goal.returns-clause-alone
returns-clause-alone c told told' s R S more job all all' legal legal' same =
    nothing_more R S more (IsPrintable-legal job all legal) (IsPrintable-legal job all' legal') same
