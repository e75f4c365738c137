use Rattle.std.proofs.Common.{◌≡◌, replicate, []}
use Rattle.core_run.proofs.run.devices.Given as goal

-- the devices so far have no byte
abbrev pub invariant-loop : goal.invariant-loop
invariant-loop l = l.devices.items ≡ replicate l.counter []
