use Rattle.fs_types.proofs.Tables.{in_order}
use Rattle.fs_types.proofs.answers.Answers.lines.Goals as goal

pub returns-clause-rising : goal.returns-clause-rising
returns-clause-rising c = (in_order c.self.inside.table.items c.args.self.now c.self.view_is).rising

pub returns-clause-within : goal.returns-clause-within
returns-clause-within c = (in_order c.self.inside.table.items c.args.self.now c.self.view_is).within
