-- Each moment of a run is legal so far, and at its end nothing is missing.
use Rattle.core_machine.proofs.Legal.Runs.{runs-legal}
use Rattle.core_machine.proofs.laws.runs_are_legal.Goals as goal

pub returns : goal.returns
returns c = runs-legal
