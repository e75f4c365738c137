use Rattle.fs_types.proofs.Common.{◌≡◌, ◌+◌, ◌≤◌, min, length, vec_len, vec_capacity}
use Rattle.fs_types.specs.Fragments.{fragment_count}
use Rattle.fs_types.specs.Pieces.{Piece}
use Rattle.piece_table.specs.PieceTable.{number_of, hold_of}
use Rattle.piece_table.specs.Ranges.{covered}
use Rattle.piece_table.specs.Thinning.{Thins, ComesOut}
use Rattle.piece_table.proofs.laying.release_covered.Given as goal

-- those behind the place are still counted, and what came out so far was pushed
abbrev pub invariant-loop-g : goal.invariant-loop-g
invariant-loop-g g l =
    let fs = g.S.Spans.fragments l.spans in
    record {
      numbers : (q : Piece) → number_of l.pieces q + fragment_count q (covered l.at l.end fs)
          ≡ number_of l.initial.pieces q + fragment_count q (covered l.place l.end fs);
      thins : Thins l.initial.pieces l.pieces;
      out : ComesOut g.H.Hold.piece (hold_of l.initial.pieces) (hold_of l.pieces) l.initial.dead.items l.dead.items;
      room : min (length (covered l.place l.end fs)) (length l.pieces.entries) + vec_len l.dead ≤ vec_capacity l.dead;
      few : vec_len l.dead + length (covered l.place l.end fs) ≤ vec_len l.initial.dead + length (covered l.at l.end fs);
      spare : l.initial.pieces.spare ≤ l.pieces.spare;
      len : length l.pieces.entries + vec_len l.dead ≡ length l.initial.pieces.entries + vec_len l.initial.dead;
      capacity : vec_capacity l.initial.dead ≤ vec_capacity l.dead;
    }

abbrev pub decreases-loop-g : goal.decreases-loop-g
decreases-loop-g g l = length (covered l.place l.end (g.S.Spans.fragments l.spans))
