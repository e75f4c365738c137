use Rattle.std.proofs.Common.{◌∙◌}
use Rattle.slot_plain.proofs.LogSteps.{count_is}
use Rattle.slot_plain.proofs.plain_log.PlainLog.count.Goals as goal

pub returns : goal.returns
returns g c = c.count.ensures ∙ count_is c.self.invariant c.self.view_is c.args.slot
