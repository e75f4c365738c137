use Rattle.fs_script.proofs.Reading.WithoutWant.{reading_wants_no_memory}
use Rattle.fs_script.proofs.laws.scripts.reading_wants_no_memory.Goals as goal

pub returns : goal.returns
returns c = reading_wants_no_memory
