use Rattle.std.proofs.Common.{take}
use Rattle.core_machine.specs.Logs.{ReleasesAll}
use Rattle.core_machine.proofs.logs.release_all.Given as goal

abbrev pub invariant-loop-h : goal.invariant-loop-h
invariant-loop-h g l = ReleasesAll (take l.h-index l.dead) l.initial.logs l.logs
