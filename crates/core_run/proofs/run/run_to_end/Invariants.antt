use Rattle.std.proofs.Common.{◌≡◌, ℕ, ◌%◌, length}
use Rattle.std.specs.Prelude.{max}
use Rattle.core_machine.specs.EventsLeft.{events_left}
use Rattle.core_run.specs.PickedRun.{moment_after}
use Rattle.core_run.proofs.run.run_to_end.Given as goal

-- the run has come here by some events, and the next one's pick is at its place
abbrev pub invariant-loop-r : goal.invariant-loop-r
invariant-loop-r l =
    (events : ℕ) × (l.core ≡ moment_after l.picks l.initial.core events) × (l.at ≡ events % max (length l.picks) 1)

abbrev pub decreases-loop-r : goal.decreases-loop-r
decreases-loop-r l = events_left l.core
