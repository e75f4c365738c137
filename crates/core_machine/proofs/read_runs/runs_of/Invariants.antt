use Rattle.std.proofs.Common.{◌≡◌, take}
use Rattle.core_machine.specs.ReadRuns.{joined_from}
use Rattle.core_machine.proofs.read_runs.runs_of.Given as goal

abbrev pub invariant-loop-part : goal.invariant-loop-part
invariant-loop-part l = l.runs.items ≡ joined_from l.off (take l.part-index l.parts)
