use Rattle.fs_types.proofs.Common.{◌≡◌, ◌+◌, ◌*◌, ◌≤◌, length, vec_len, vec_capacity, drop}
use Rattle.fs_types.specs.Fragments.{fragment_count}
use Rattle.fs_types.specs.Pieces.{Piece}
use Rattle.piece_table.specs.HeldSpans.{put_fragments}
use Rattle.piece_table.specs.PieceTable.{number_of, hold_of}
use Rattle.piece_table.specs.Ranges.{ends_under}
use Rattle.piece_table.specs.Thinning.{Thins, ComesOut}
use Rattle.piece_table.proofs.pushing.lay_each.Given as goal

-- putting those from the place on gives what putting all gave, and they are still counted
abbrev pub invariant-loop-f : goal.invariant-loop-f
invariant-loop-f g l =
    let rest = drop l.f-index l.over in
    record {
      fragments : put_fragments rest (g.S.Spans.fragments l.spans) ≡ put_fragments l.over (g.S.Spans.fragments l.initial.spans);
      numbers : (q : Piece) → number_of l.pieces q ≡ fragment_count q (g.S.Spans.fragments l.spans) + fragment_count q rest;
      spare : 2 * length rest ≤ g.S.Spans.spare l.spans;
      room : ends_under rest (g.S.Spans.fragments l.spans) + vec_len l.dead ≤ vec_capacity l.dead;
      thins : Thins l.initial.pieces l.pieces;
      out : ComesOut g.H.Hold.piece (hold_of l.initial.pieces) (hold_of l.pieces) l.initial.dead.items l.dead.items;
      len : length l.pieces.entries + vec_len l.dead ≡ length l.initial.pieces.entries + vec_len l.initial.dead;
      few : ends_under rest (g.S.Spans.fragments l.spans) + vec_len l.dead
          ≤ vec_len l.initial.dead + ends_under l.over (g.S.Spans.fragments l.initial.spans);
      capacity : vec_capacity l.initial.dead ≤ vec_capacity l.dead;
    }
