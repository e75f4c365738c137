use Rattle.std.proofs.Common.{◌≡◌, ◌≤◌, ◌++◌, length, vec_capacity}
use Rattle.slot_plain.specs.Slots.{free_slots, with_taken}
use Rattle.slot_plain.proofs.slot_table.SlotTable.take_into.Given as goal

abbrev pub invariant-loop : goal.invariant-loop
invariant-loop l = record {
  slots : l.self ≡ record l.initial.self { slots = with_taken l.slots.items l.initial.self.slots };
  lowest : free_slots l.initial.self.slots ≡ l.slots.items ++ free_slots l.self.slots;
  taken : length l.slots.items ≡ l.counter;
  room : l.k ≤ vec_capacity l.slots;
}
