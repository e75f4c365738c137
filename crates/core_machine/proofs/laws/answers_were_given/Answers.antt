use Rattle.core_machine.proofs.Legal.AnswersStand.{given-stand}
use Rattle.core_machine.proofs.Legal.Reached.{were-given}
use Rattle.core_machine.proofs.laws.answers_were_given.Goals as goal

pub returns-clause-given : goal.returns-clause-given
returns-clause-given c = were-given

pub returns-clause-stand : goal.returns-clause-stand
returns-clause-stand c = given-stand
