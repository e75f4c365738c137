use Rattle.std.proofs.Common.{ap, length, arith}
use Rattle.slot_plain.specs.Entries.{Table}
use Rattle.slot_plain.proofs.Tables.{length-slots_of}
use Rattle.slot_plain.proofs.TableSteps.{length-free_slots-le}
use Rattle.slot_plain.proofs.slot_table.SlotTable.take.Goals as goal

pub overflow_sub-from : goal.overflow_sub-from
overflow_sub-from c =
    let i = c.make_entries.inside in
    let all = length-slots_of i.entries.items i.total c.make_entries.invariant.few in
    let size = ap (λ (t : Table). length t.slots) c.make_entries.view_is in
    omega (arith, size, all, length-free_slots-le c.args.self.now.slots, c.free_count.ensures, c.from.ensures)
