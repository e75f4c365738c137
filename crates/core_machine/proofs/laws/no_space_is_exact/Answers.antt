use Rattle.core_machine.proofs.Legal.Runs.{no-space-exact}
use Rattle.core_machine.proofs.laws.no_space_is_exact.Goals as goal

pub returns : goal.returns
returns c = no-space-exact
