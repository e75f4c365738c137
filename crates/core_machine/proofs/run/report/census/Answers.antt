use Rattle.core_machine.proofs.Refines.Counts.{census-kept}
use Rattle.core_machine.proofs.run.report.census.Goals as goal

pub returns : goal.returns
returns g c =
    let r = c.args.run.now in
    census-kept (c.requires.run.holds c.requires.going) r.spent c.args.r c.log.result.now c.line.result c.log.ensures c.line.ensures
