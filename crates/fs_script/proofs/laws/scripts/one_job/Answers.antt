use Rattle.fs_script.proofs.Reading.Scripts.{one_job}
use Rattle.fs_script.proofs.laws.scripts.one_job.Goals as goal

pub returns : goal.returns
returns c = one_job
