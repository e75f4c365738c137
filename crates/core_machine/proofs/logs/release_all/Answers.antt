use Rattle.core_machine.proofs.LogSlots.{released-more, still-held}
use Rattle.core_machine.proofs.logs.release_all.Goals as goal

pub release-requires : goal.release-requires
release-requires g c =
    still-held c.args.dead.now c.loop-h.h-index c.h-item.result c.loop-h-test.true c.h-item.is c.requires.apart
    c.loop-h.invariant c.requires.held

pub loop-h-preserved : goal.loop-h-preserved
loop-h-preserved g c =
    released-more c.args.dead.now c.loop-h.h-index c.h-item.result c.loop-h-test.true c.h-item.is c.requires.apart
    c.loop-h.invariant c.release.ensures
