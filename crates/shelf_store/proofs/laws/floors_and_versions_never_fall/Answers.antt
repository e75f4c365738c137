use Rattle.shelf_store.proofs.Fronts.{floors-never_fall, versions-never_fall}
use Rattle.shelf_store.proofs.laws.floors_and_versions_never_fall.Goals as goal

pub returns-clause-floors : goal.returns-clause-floors
returns-clause-floors g c = floors-never_fall

pub returns-clause-versions : goal.returns-clause-versions
returns-clause-versions g c = versions-never_fall
