use Rattle.std.proofs.Common.{◌≡◌, ◌-◌}
use Rattle.slot_plain.proofs.slot_table.SlotTable.make_entries.Given as goal

abbrev pub invariant-loop-alloc : goal.invariant-loop-alloc
invariant-loop-alloc l = l.self ≡ record l.initial.self { made = l.self.made }

abbrev pub decreases-loop-alloc : goal.decreases-loop-alloc
decreases-loop-alloc l = l.wanted - l.self.made
