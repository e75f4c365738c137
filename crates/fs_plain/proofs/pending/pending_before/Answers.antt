use Rattle.fs_plain.proofs.pending.pending_before.Goals as goal
use Rattle.std.proofs.Common.{add-one}

pub loop-m-preserved : goal.loop-m-preserved
loop-m-preserved c = rw add-one (cc c.in_ok-note_line.ensures)
