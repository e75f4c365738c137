use Rattle.fs_types.proofs.Common.{arith, common_steps}
use Rattle.fs_types.proofs.Tables.{listed-push_none}
use Rattle.fs_types.proofs.answers.empty_table.Goals as goal

pub loop-preserved : goal.loop-preserved
loop-preserved c = grind (arith, common_steps, listed-push_none)
