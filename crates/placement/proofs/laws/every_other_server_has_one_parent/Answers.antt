use Rattle.placement.proofs.Parents.{others-have_one_parent, root-has_no_parent}
use Rattle.placement.proofs.laws.every_other_server_has_one_parent.Goals as goal

pub returns-clause-others : goal.returns-clause-others
returns-clause-others c = others-have_one_parent

pub returns-clause-root : goal.returns-clause-root
returns-clause-root c = root-has_no_parent
