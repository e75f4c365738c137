use Rattle.std.proofs.Common.{◌≡◌, map}
use Rattle.std.specs.List.{range_with_len}
use Rattle.core_machine.specs.Slots.{census}
use Rattle.core_run.proofs.run.slot_list.Given as goal

-- the clients so far are reported
abbrev pub invariant-loop-r : goal.invariant-loop-r
invariant-loop-r l = l.slots ≡ map (census l.core) (range_with_len 0 l.r)
