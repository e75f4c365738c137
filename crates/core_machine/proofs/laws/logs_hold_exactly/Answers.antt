use Rattle.core_machine.proofs.Legal.Runs.{logs-exact}
use Rattle.core_machine.proofs.laws.logs_hold_exactly.Goals as goal

pub returns : goal.returns
returns c = logs-exact
