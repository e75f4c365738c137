use Rattle.std.proofs.Common.{rules}
use Rattle.slot_plain.proofs.LogSteps.{held_is, filled_backs, filled_log, write_inside, left_backs, unfilled_log, wrote_backs, wrote_log}
use Rattle.slot_plain.proofs.plain_log.PlainLog.fill.Goals as goal

pub fill-requires-clause-taken : goal.fill-requires-clause-taken
fill-requires-clause-taken g c = held_is c.self.invariant c.self.view_is c.args.slot c.requires.taken

pub invariant_of-self : goal.invariant_of-self
invariant_of-self g c =
    filled_backs c.self.invariant c.self.view_is c.args.slot c.args.b.now c.requires.fits c.is_in_memory.ensures
    c.args.id c.if-is_in_memory.true c.fill.ensures

pub returns-then-is_in_memory-clause-ok : goal.returns-then-is_in_memory-clause-ok
returns-then-is_in_memory-clause-ok g c =
    filled_log c.self.invariant c.self.view_is c.args.slot c.args.b.now c.requires.fits c.is_in_memory.ensures
    c.args.id c.if-is_in_memory.true c.fill.ensures

pub write_counted-requires-clause-inside : goal.write_counted-requires-clause-inside
write_counted-requires-clause-inside g c =
    write_inside c.self.invariant c.self.view_is c.args.slot c.args.b.now c.requires.fits c.is_in_memory.ensures
    c.if-is_in_memory.false (g.met.D.SpillDev.cell_count _) c.requires.taken c.requires.unfilled c.spill_place-place.ensures

pub invariant_of-self-in_err-write_counted : goal.invariant_of-self-in_err-write_counted
invariant_of-self-in_err-write_counted g c =
    left_backs c.self.invariant c.self.view_is c.args.slot c.args.b.now c.requires.fits c.is_in_memory.ensures
    c.if-is_in_memory.false (g.met.D.SpillDev.cell_count _) c.requires.taken c.requires.unfilled c.spill_place-place.ensures
    _ c.write_counted.ensures.same_size c.in_err-write_counted.ensures.open

pub returns-in_err-write_counted-clause-err : goal.returns-in_err-write_counted-clause-err
returns-in_err-write_counted-clause-err g c =
    let failed = unfilled_log c.self.invariant c.self.view_is c.args.slot c.args.b.now c.requires.fits c.is_in_memory.ensures
    c.if-is_in_memory.false (g.met.D.SpillDev.cell_count _) c.requires.taken c.requires.unfilled c.spill_place-place.ensures
    _ c.write_counted.ensures.same_size c.in_err-write_counted.ensures.open
    c.in_err-write_counted.ensures.risen c.in_err-write_counted.ensures.raised in
    search rules

pub fill_spilled-requires-clause-taken : goal.fill_spilled-requires-clause-taken
fill_spilled-requires-clause-taken g c = held_is c.self.invariant c.self.view_is c.args.slot c.requires.taken

pub invariant_of-self-2 : goal.invariant_of-self-2
invariant_of-self-2 g c =
    wrote_backs c.self.invariant c.self.view_is c.args.slot c.args.b.now c.requires.fits c.is_in_memory.ensures
    c.if-is_in_memory.false (g.met.D.SpillDev.cell_count _) c.requires.taken c.requires.unfilled c.spill_place-place.ensures
    _ c.write_counted.ensures.same_size c.args.id _ c.in_ok-write_counted.ensures.calm_device c.in_ok-write_counted.ensures.wrote
    c.fill_spilled.ensures.filled.1

pub returns-clause-ok : goal.returns-clause-ok
returns-clause-ok g c =
    rw c.in_ok-write_counted.ensures.calm
    (wrote_log c.self.invariant c.self.view_is c.args.slot c.args.b.now c.requires.fits c.is_in_memory.ensures
    c.if-is_in_memory.false (g.met.D.SpillDev.cell_count _) c.requires.taken c.requires.unfilled c.spill_place-place.ensures
    _ c.write_counted.ensures.same_size c.args.id _ c.in_ok-write_counted.ensures.calm_device c.in_ok-write_counted.ensures.wrote
    c.fill_spilled.ensures.filled.1)
