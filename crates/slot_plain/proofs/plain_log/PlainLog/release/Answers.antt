use Rattle.slot_plain.proofs.LogSteps.{held_is, released_log, released_backs}
use Rattle.slot_plain.proofs.plain_log.PlainLog.release.Goals as goal

pub release-requires : goal.release-requires
release-requires g c = held_is c.self.invariant c.self.view_is c.args.slot c.requires

pub invariant_of-self : goal.invariant_of-self
invariant_of-self g c = released_backs c.self.invariant c.args.slot c.release.ensures

pub returns : goal.returns
returns g c = released_log c.self.invariant c.self.view_is c.args.slot c.release.ensures
