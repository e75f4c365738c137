use Rattle.std.proofs.Common.{None, length, refl}
use Rattle.std.specs.Prelude.{replicate}
use Rattle.std.proofs.lemmas.List.{length-replicate}
use Rattle.fs_dev.proofs.no_host.NoDevSpillDev.write_at.Goals as goal

pub returns-clause-open : goal.returns-clause-open
returns-clause-open c =
    let n = length c.args._b.now in (replicate n None, length-replicate n None, refl)
