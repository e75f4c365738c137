use Rattle.std.proofs.Common.{ap, length, arith}
use Rattle.slot_plain.specs.Slots.{free_slots}
use Rattle.slot_plain.specs.Entries.{Table}
use Rattle.slot_plain.proofs.Tables.{free_flags}
use Rattle.slot_plain.proofs.slot_table.SlotTable.free_count.Goals as goal

pub overflow_add-result : goal.overflow_add-result
overflow_add-result c = omega (arith, free_flags c.self.invariant, c.self.invariant.few, c.self.invariant.numbers)

pub returns : goal.returns
returns c =
    let same = ap (λ (t : Table). length (free_slots t.slots)) c.self.view_is in
    omega (arith, free_flags c.self.invariant, c.self.invariant.few, same)
