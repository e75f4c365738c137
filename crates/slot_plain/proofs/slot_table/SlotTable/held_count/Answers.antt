use Rattle.std.proofs.Common.{ap, arith}
use Rattle.slot_plain.specs.Slots.{held_count}
use Rattle.slot_plain.specs.Entries.{Table}
use Rattle.slot_plain.proofs.Tables.{held_flags}
use Rattle.slot_plain.proofs.slot_table.SlotTable.held_count.Goals as goal

pub overflow_sub-result : goal.overflow_sub-result
overflow_sub-result c = omega (arith, held_flags c.self.invariant)

pub returns : goal.returns
returns c = omega (arith, held_flags c.self.invariant, ap (λ (t : Table). held_count t.slots) c.self.view_is)
