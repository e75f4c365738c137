use Rattle.std.proofs.Common.{◌<◌, length, arith, rules}
use Rattle.core_machine.proofs.LogSlots.{held-log, memory-log, part-log}
use Rattle.core_machine.proofs.logs.fetch.Goals as goal

pub bounds-logs-rank-inside : goal.bounds-logs-rank-inside
bounds-logs-rank-inside g c = rw c.rank.view_is (held-log c.args.logs.now c.args.h.now.rank c.args.h.now.slot c.requires.held.1.count)

pub offset_bounds-logs-rank-inside : goal.offset_bounds-logs-rank-inside
offset_bounds-logs-rank-inside g c =
    let inside : c.rank.inside.0 < length c.args.logs.now =
    rw c.rank.view_is (held-log c.args.logs.now c.args.h.now.rank c.args.h.now.slot c.requires.held.1.count) in
    search rules

pub read_piece-requires : goal.read_piece-requires
read_piece-requires g c =
    let piece = part-log c.requires.held.0 c.args.logs.now c.args.h.now c.index-logs-rank.result c.requires.held.1 in
    rw (c.rank.view_is, piece) (omega (arith, c.requires.within, c.requires.held.1.bytes))

pub unreachable-requires : goal.unreachable-requires
unreachable-requires g c =
    let spilled = rw c.rank.view_is at c.in_default.ensures.err.spilled in
    let need = c.requires.held in
    let shared = memory-log need.0 c.args.logs.now c.args.h.now c.index-logs-rank.result need.1 need.2 in
    omega (arith, spilled, shared)

pub returns-clause-given : goal.returns-clause-given
returns-clause-given g c = λ s held.
    let piece = part-log s c.args.logs.now c.args.h.now c.index-logs-rank.result held in
    rw (c.rank.view_is, piece) at c.in-Ok.ensures.given
