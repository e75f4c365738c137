-- Fragments with holds whose bytes from a place on are dropped.
use Rattle.fs_types.proofs.Common.{◌≡◌, ℕ, ◌+◌, Bool, List, refl, sym, ap, subst, arith}
use Rattle.fs_types.specs.Fragments.{fragment_count}
use Rattle.fs_types.specs.Pieces.{Fragment, Piece}
use Rattle.fs_types.specs.declared.limits.TheConstants.{LONGEST_FILE}
use Rattle.span_list.specs.Spans.{cut_fragments}
use Rattle.piece_table.specs.HeldSpans.{Cuts, HandsOver, Kept, held, kept}
use Rattle.piece_table.specs.PieceTable.{Pieces, number_of, hold_of}
use Rattle.piece_table.specs.Ranges.{covered}
use Rattle.piece_table.specs.Thinning.{Thins, ComesOut}
use Rattle.piece_table.proofs.Counts.{count-cut}
use Rattle.piece_table.proofs.Holds.{AreLaid, HaveHolds, HaveHolds-cut, HaveHolds-kept, IsKept, HandsOver-laid, IsKept-laid, hold_laid}

module _ {H : Type 0} (is_ready : H → Bool) (piece_of : H → Piece) (byte_count : H → ℕ) (old : Kept H) (size : ℕ) (laid : Pieces H)
    (fs : List Fragment) where
  -- what came of a cut: it is kept, and the holds that no fragment needs any more are those that came out of the table
  pub record AreCut : Type 0 where
    pub is_kept : IsKept is_ready piece_of byte_count (kept fs laid)
    pub cuts : Cuts size (held old) (held (kept fs laid))
    pub hands : (dead after : List H) → ComesOut piece_of (hold_of old.pieces) (hold_of laid) dead after
        → HandsOver piece_of (held old) (held (kept fs laid)) dead after

  pub are-cut : IsKept is_ready piece_of byte_count old → fs ≡ cut_fragments size old.fragments
      → ((q : Piece) → number_of laid q + fragment_count q (covered size LONGEST_FILE old.fragments) ≡ number_of old.pieces q)
      → Thins old.pieces laid → AreCut
  are-cut is_kept cut numbers thins = record {
    is_kept = IsKept-laid left;
    cuts = record { fragments = cut; holds = hold_laid left };
    hands = HandsOver-laid left old (λ q unnamed. refl);
  }
    where
      left : AreLaid is_ready piece_of byte_count old.pieces laid fs
      left = record {
        have = subst (HaveHolds byte_count (hold_of old.pieces)) (sym cut)
            (HaveHolds-cut byte_count (hold_of old.pieces) size old.fragments (HaveHolds-kept byte_count is_ready piece_of old is_kept)
            (λ q. omega (arith, count-cut q size old.fragments is_kept.are_held.spans.each)));
        ready = is_kept.are_held.ready;
        theirs = is_kept.are_held.piece;
        numbers = λ q. omega (
          arith,
          numbers q,
          is_kept.numbers q,
          count-cut q size old.fragments is_kept.are_held.spans.each,
          ap (fragment_count q) cut,
        );
        thins = thins;
      }
