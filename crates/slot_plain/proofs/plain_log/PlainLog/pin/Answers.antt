use Rattle.std.proofs.Common.{arith}
use Rattle.slot_plain.proofs.LogSteps.{count_is, held_is, pinned_log, pinned_backs}
use Rattle.slot_plain.proofs.plain_log.PlainLog.pin.Goals as goal

pub pin-requires-clause-held : goal.pin-requires-clause-held
pin-requires-clause-held g c = held_is c.self.invariant c.self.view_is c.args.slot c.requires.held

pub pin-requires-clause-few : goal.pin-requires-clause-few
pin-requires-clause-few g c = omega (arith, count_is c.self.invariant c.self.view_is c.args.slot, c.requires.few)

pub invariant_of-self : goal.invariant_of-self
invariant_of-self g c = pinned_backs c.self.invariant c.args.slot c.pin.ensures

pub returns : goal.returns
returns g c = pinned_log c.self.invariant c.self.view_is c.args.slot c.pin.ensures
