use Rattle.fs_types.proofs.Common.{◌≡◌, ◌+◌, ◌≤◌, Some, length, vec_len, vec_capacity}
use Rattle.std.specs.Map.{lookup}
use Rattle.fs_types.specs.Fragments.{piece_eq}
use Rattle.fs_types.specs.Pieces.{Piece}
use Rattle.piece_table.specs.PieceTable.{AreCounted, hold_in}
use Rattle.piece_table.specs.Thinning.{ComesOut}
use Rattle.piece_table.proofs.piece_table.PieceTable.take_all.Given as goal

-- what came out so far was held, and what is left still is
abbrev pub invariant-loop-counted : goal.invariant-loop-counted
invariant-loop-counted g l =
    let first = l.initial.self-inside.pieces.entries in
    let now = l.self-inside.pieces.entries in
    record {
      counted : AreCounted now;
      room : length now + vec_len l.out ≤ vec_capacity l.out;
      held : (q : Piece) (h : g.row.H.Denot) → hold_in (lookup (piece_eq q) now) ≡ Some h → hold_in (lookup (piece_eq q) first) ≡ Some h;
      out : ComesOut g.H.Hold.piece (λ q. hold_in (lookup (piece_eq q) first)) (λ q. hold_in (lookup (piece_eq q) now))
          l.initial.out.items l.out.items;
    }

abbrev pub decreases-loop-counted : goal.decreases-loop-counted
decreases-loop-counted g l = length l.self-inside.pieces.entries
