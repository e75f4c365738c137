use Rattle.std.proofs.Common.{◌≡◌, ◌++◌, take}
use Rattle.std.specs.List.{flat_map}
use Rattle.fs_script.specs.Text.{slot_line}
use Rattle.fs_report.proofs.slots.append_slots.Given as goal

-- the first clients so far
abbrev pub invariant-loop-i : goal.invariant-loop-i
invariant-loop-i l = l.out.items ≡ l.fn.out.items ++ flat_map slot_line (take l.i l.slots)
