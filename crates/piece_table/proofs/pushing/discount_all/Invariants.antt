use Rattle.fs_types.proofs.Common.{◌≡◌, ◌+◌, length, take, count_by}
use Rattle.fs_types.specs.Fragments.{piece_eq}
use Rattle.fs_types.specs.Pieces.{Piece}
use Rattle.piece_table.specs.PieceTable.{number_of, hold_of}
use Rattle.piece_table.proofs.pushing.discount_all.Given as goal

-- those before the place are counted once less
abbrev pub invariant-loop-p : goal.invariant-loop-p
invariant-loop-p g l = record {
  numbers : (q : Piece) → number_of l.pieces q + count_by (λ p. piece_eq p q) (take l.p-index l.less) ≡ number_of l.initial.pieces q;
  holds : (q : Piece) → hold_of l.pieces q ≡ hold_of l.initial.pieces q;
  len : length l.pieces.entries ≡ length l.initial.pieces.entries;
}
