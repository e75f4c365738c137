use Rattle.fs_plain.proofs.front.seen.Goals as goal
use Rattle.std.proofs.Common.{add-one, ◌∙◌, refl}

pub loop-m-preserved : goal.loop-m-preserved
loop-m-preserved c = rw add-one (c.seen_after-most.ensures c.loop-m.m ∙ rw (c.own_op.ensures, c.get.ensures.answer, c.loop-m.invariant) refl)
