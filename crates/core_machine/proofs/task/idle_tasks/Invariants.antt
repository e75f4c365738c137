use Rattle.fs_types.proofs.Common.{◌≡◌, replicate}
use Rattle.core_machine.specs.Vocabulary.{Idle}
use Rattle.core_machine.proofs.task.idle_tasks.Given as goal

-- the tasks so far are of clients that are in the midst of nothing
abbrev pub invariant-loop : goal.invariant-loop
invariant-loop l = l.tasks.items ≡ replicate l.counter Idle
