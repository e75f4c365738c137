use Rattle.fs_script.proofs.Reading.Scripts.{script_fits}
use Rattle.fs_script.proofs.laws.scripts.scripts_are_of_jobs.Goals as goal

pub returns : goal.returns
returns c = script_fits
