use Rattle.fs_types.proofs.Common.{◌∙◌, List, ℕ, ap, length-map, map, sym}
use Rattle.core_machine.specs.Core.{states}
use Rattle.core_machine.specs.Moment.{Moment}
use Rattle.core_machine.proofs.Refines.JournalsKept.{paths-beside}
use Rattle.core_machine.proofs.machine.Core.paths.Goals as goal

pub returns : goal.returns
returns g c =
    let r = c.self.inside.run in
    sym (paths-beside r.paths (states r) (length-map r.paths _))
    ∙ ap (λ (m : Moment). map {A = List ℕ × List ℕ} {B = List ℕ} (λ j. j.0) m.journals) c.self.view_is
