use Rattle.fs_types.proofs.Common.{◌≡◌, length}
use Rattle.core_machine.proofs.tests.core_of.Given as goal

-- there is a device for each client so far
abbrev pub invariant-loop : goal.invariant-loop
invariant-loop l = length l.devices.items ≡ l.counter
