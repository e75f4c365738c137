use Rattle.std.proofs.Common.{ap, ◌∙◌, length, arith}
use Rattle.slot_plain.specs.Log.{Log}
use Rattle.slot_plain.proofs.LogSteps.{free_is, held_count_is}
use Rattle.slot_plain.proofs.plain_log.PlainLog.line.Goals as goal

pub returns : goal.returns
returns g c =
    let held = c.held_count.ensures ∙ held_count_is c.self.invariant c.self.view_is in
    let free = c.free_count.ensures ∙ ap length (free_is c.self.invariant c.self.view_is) in
    let rank = ap (λ (l : Log). l.rank) c.self.view_is in
    let faults = ap (λ (l : Log). l.faults) c.self.view_is in
    grind (arith, held, free, rank, faults)
