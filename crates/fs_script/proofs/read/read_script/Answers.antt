use Rattle.fs_script.proofs.Reading.Scripts.{reads_scripts, reads_each_script}
use Rattle.fs_script.proofs.read.read_script.Goals as goal

pub returns-clause-ok : goal.returns-clause-ok
returns-clause-ok c = reads_scripts c.args.b.now c.script.result c.script.ensures

pub returns-clause-only : goal.returns-clause-only
returns-clause-only c = reads_each_script c.args.b.now c.script.result c.script.ensures
