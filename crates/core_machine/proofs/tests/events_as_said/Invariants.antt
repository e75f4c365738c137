use Rattle.fs_types.proofs.Common.{◌≡◌, false}
use Rattle.core_machine.proofs.tests.events_as_said.Given as goal

-- the run goes on, and is of the same job
abbrev pub invariant-loop-k : goal.invariant-loop-k
invariant-loop-k l = record { going : l.core.spent ≡ false; job : l.core.job ≡ l.fn.core.job }
