use Rattle.core_run.proofs.PickedRuns.{Reaches-moment_after, CanRun-job}
use Rattle.core_run.proofs.laws.runs_under_picks_are_reached.Goals as goal

pub returns-clause-moments : goal.returns-clause-moments
returns-clause-moments c = Reaches-moment_after

pub returns-clause-jobs : goal.returns-clause-jobs
returns-clause-jobs c = CanRun-job
