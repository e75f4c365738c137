use Rattle.std.proofs.Common.{◌+◌}
use Rattle.slot_plain.proofs.Logs.{told-free}
use Rattle.slot_plain.proofs.plain_log.PlainLog.new.Goals as goal

pub returns : goal.returns
returns g c =
    let shape = c.args.shape in
    let free = told-free shape.shmem shape.chunk (g.D.SpillDev.cells c.args.dev) 0 (shape.shmem + shape.spill) in
    rw c.new.ensures cc
