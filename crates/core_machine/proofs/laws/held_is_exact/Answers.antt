use Rattle.core_machine.proofs.Legal.Runs.{held-exactly}
use Rattle.core_machine.proofs.laws.held_is_exact.Goals as goal

pub returns : goal.returns
returns c = held-exactly
