-- Lines and versions are few, files aren't too long, and digests have sixteen bytes.
use Rattle.fs_script.proofs.LegalReports.{IsPrintable-legal}
use Rattle.fs_script.proofs.laws.texts.legal_reports_are_printable.Goals as goal

pub returns : goal.returns
returns c told s R job all legal = IsPrintable-legal job all legal
