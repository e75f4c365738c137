use Rattle.core_machine.proofs.Legal.Runs.{free-exact}
use Rattle.core_machine.proofs.laws.free_is_what_is_left.Goals as goal

pub returns : goal.returns
returns c = free-exact
