use Rattle.slot_plain.proofs.TableSteps.{next_has_entry}
use Rattle.slot_plain.proofs.slot_table.SlotTable.take_into.Goals as goal

pub take_lowest-requires : goal.take_lowest-requires
take_lowest-requires c =
    let i = c.loop.invariant in
    next_has_entry c.args.self.now c.loop.self c.loop.slots.items c.args.k c.loop.counter i.slots i.lowest i.taken
    c.loop-test.true c.requires.entries
