use Rattle.slot_plain.proofs.FreeTrees.{put_back-keeps}
use Rattle.slot_plain.proofs.free_slots.FreeSlots.put_back.Goals as goal

pub invariant_of-self : goal.invariant_of-self
invariant_of-self c =
    let s = c.set_leaf.ensures in put_back-keeps c.self.invariant c.self.view_is s.room s.tree s.leaf c.requires
