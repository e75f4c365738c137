use Rattle.std.proofs.Common.{◌≤◌, length, min, vec_capacity}
use Rattle.fs_script.specs.Vocabulary.{payload}
use Rattle.core_machine.proofs.FilledParts.{FilledTo}
use Rattle.core_machine.proofs.logs.fill_line.Given as goal

abbrev pub invariant-loop-part : goal.invariant-loop-part
invariant-loop-part g l = record {
  buffer : min (length (payload l.s l.n)) l.s.shape.chunk ≤ length l.buffer.items;
  room : l.need ≤ vec_capacity l.holds;
  filled : FilledTo l.s l.n l.part l.slot-items l.fn.log l.log l.holds.items;
}
