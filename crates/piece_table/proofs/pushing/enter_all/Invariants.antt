use Rattle.fs_types.proofs.Common.{◌≡◌, length}
use Rattle.std.specs.Vec.Iter.{into_iter_items, into_iter_len}
use Rattle.piece_table.proofs.Entered.{AreEntering}
use Rattle.piece_table.proofs.pushing.enter_all.Given as goal

abbrev pub invariant-loop-h : goal.invariant-loop-h
invariant-loop-h g l = record {
  count : into_iter_len l.h-iterator ≡ length (into_iter_items l.h-iterator);
  entering : AreEntering g.H.Hold.piece g.H.Hold.is_ready l.initial.pieces l.pieces (into_iter_items l.initial.h-iterator)
      (into_iter_items l.h-iterator);
}
