use Rattle.std.proofs.Common.{length, arith}
use Rattle.std.proofs.lemmas.Result.{on_ok_weaker}
use Rattle.slot_plain.proofs.LogSteps.{inside_table, read_log, read_inside, read_written, read_given}
use Rattle.slot_plain.proofs.plain_log.PlainLog.read_piece.Goals as goal

pub read-requires-clause-inside : goal.read-requires-clause-inside
read-requires-clause-inside g c =
    inside_table c.self.invariant c.self.view_is c.args.slot c.args.from (length c.args.out.now) c.requires

pub returns-then-is_in_memory-clause-given : goal.returns-then-is_in_memory-clause-given
returns-then-is_in_memory-clause-given g c =
    read_log c.self.invariant c.self.view_is c.args.slot c.args.from (length c.args.out.now) c.requires c.is_in_memory.ensures
    _ c.if-is_in_memory.true c.read.ensures

pub read_counted-requires-clause-inside : goal.read_counted-requires-clause-inside
read_counted-requires-clause-inside g c =
    read_inside c.self.invariant c.self.view_is c.args.slot c.args.from (length c.args.out.now) c.requires c.is_in_memory.ensures
    c.if-is_in_memory.false (omega (arith, c.spill_place-place.ensures))

pub read_counted-requires-clause-written : goal.read_counted-requires-clause-written
read_counted-requires-clause-written g c =
    read_written c.self.invariant c.self.view_is c.args.slot c.args.from (length c.args.out.now) c.requires c.is_in_memory.ensures
    c.if-is_in_memory.false (omega (arith, c.spill_place-place.ensures))

pub returns-clause-given : goal.returns-clause-given
returns-clause-given g c =
    on_ok_weaker c.read_counted.result
    (read_given c.self.invariant c.self.view_is c.args.slot c.args.from (length c.args.out.now) c.requires c.is_in_memory.ensures
    c.if-is_in_memory.false (omega (arith, c.spill_place-place.ensures)) _ c.read_counted.auto.out) c.read_counted.ensures.given
