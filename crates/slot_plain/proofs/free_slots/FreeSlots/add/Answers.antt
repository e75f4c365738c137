use Rattle.std.proofs.Common.{rules}
use Rattle.slot_plain.proofs.FreeTrees.{widened-keeps, widened-flags, added-keeps, added-flags}
use Rattle.slot_plain.proofs.free_slots.FreeSlots.add.Goals as goal

pub returns-in_err-widen_for-clause-err : goal.returns-in_err-widen_for-clause-err
returns-in_err-widen_for-clause-err c =
    let w = c.widen_for.ensures in
    let flags = widened-flags c.self.invariant c.self.view_is w.more w.tree w.leaves in
    search rules

pub invariant_of-self-2 : goal.invariant_of-self-2
invariant_of-self-2 c =
    let w = c.widen_for.ensures in
    added-keeps (widened-keeps c.self.invariant c.self.view_is w.more w.tree w.leaves)
    (widened-flags c.self.invariant c.self.view_is w.more w.tree w.leaves) c.set_leaf.ensures.room c.in_ok-widen_for.ensures.room
    c.requires c.set_leaf.ensures.tree c.set_leaf.ensures.leaf

pub returns-clause-ok : goal.returns-clause-ok
returns-clause-ok c =
    let w = c.widen_for.ensures in
    added-flags (widened-keeps c.self.invariant c.self.view_is w.more w.tree w.leaves)
    (widened-flags c.self.invariant c.self.view_is w.more w.tree w.leaves) c.set_leaf.ensures.room c.in_ok-widen_for.ensures.room
    c.requires c.set_leaf.ensures.tree c.set_leaf.ensures.leaf
