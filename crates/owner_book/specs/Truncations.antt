-- What a truncation makes of a path, and which holds it hands out.
use Rattle.std.specs.Prelude.{ℕ, List, ◌++◌, if◌then◌else◌}
use Rattle.fs_types.specs.Pieces.{Fragment, Piece}
use Rattle.fs_types.specs.declared.push.Push.{Push}
use Rattle.span_list.specs.Spans.{cut_fragments}
use Rattle.piece_table.specs.HeldSpans.{AreGone, Held, is_named, pushed, while_named}
use Rattle.owner_book.specs.Commits.{with_line, with_push}
use Rattle.owner_book.specs.Kept.{BookFile, BookPath, held_at}

module _ {H : Type 0} where
  -- fragments without their bytes from a place on, with their holds: each piece that is still named has its hold
  abbrev pub cut_off : ℕ → Held H → Held H
  cut_off size old =
      let fragments : List Fragment = cut_fragments size old.fragments in
      record { fragments = fragments; hold_of = while_named fragments old.hold_of }

  -- a file that was cut to so many bytes, or extended to them by bytes that nobody wrote
  abbrev pub with_size : ℕ → BookFile H → BookFile H
  with_size size f = record { size = size; frozen = f.frozen; held = cut_off size f.held }

  -- a path once a line committed a push to its file, and then gave the file so many bytes
  abbrev pub with_truncation : (H → Piece) → ℕ → Push H → ℕ → BookPath H → BookPath H
  with_truncation piece line push size x = with_line line (λ f. with_size size (with_push piece push f)) x

  -- the fragments of one and of another, and the hold of each piece that one has, or else the other
  abbrev pub beside : Held H → Held H → Held H
  beside over old = record {
    fragments = over.fragments ++ old.fragments;
    hold_of = λ q. if is_named over.fragments q then over.hold_of q else old.hold_of q;
  }

  -- these are the holds of the pieces of a push and of the path's file of which no byte is left in the file, each once
  abbrev pub AreDeadOfBoth : (H → Piece) → Push H → BookPath H → BookPath H → List H → Type 0
  AreDeadOfBoth piece push old new dead =
      AreGone piece (beside (pushed piece push.frags.items push.holds.items) (held_at old)) (held_at new) dead
