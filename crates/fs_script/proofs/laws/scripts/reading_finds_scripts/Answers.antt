use Rattle.fs_script.proofs.Reading.Scripts.{job_is_script, script_is_job}
use Rattle.fs_script.proofs.laws.scripts.reading_finds_scripts.Goals as goal

pub returns-clause-found : goal.returns-clause-found
returns-clause-found c = job_is_script

pub returns-clause-all : goal.returns-clause-all
returns-clause-all c = script_is_job
