use Rattle.fs_types.proofs.Common.{◌≡◌, ◌+◌, length, take}
use Rattle.fs_types.specs.Fragments.{fragment_count}
use Rattle.fs_types.specs.Pieces.{Piece}
use Rattle.piece_table.specs.PieceTable.{number_of, hold_of}
use Rattle.piece_table.proofs.pushing.count_all.Given as goal

-- those before the place are counted
abbrev pub invariant-loop-f : goal.invariant-loop-f
invariant-loop-f g l = record {
  numbers : (q : Piece) → number_of l.pieces q ≡ number_of l.initial.pieces q + fragment_count q (take l.f-index l.frags);
  holds : (q : Piece) → hold_of l.pieces q ≡ hold_of l.initial.pieces q;
  len : length l.pieces.entries ≡ length l.initial.pieces.entries;
}
