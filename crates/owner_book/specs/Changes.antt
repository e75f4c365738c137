-- A commit, a truncation and a lamination at once: a push is put over a file, and what the line does then tells which it is.
use Rattle.std.specs.Prelude.{ℕ}
use Rattle.fs_types.specs.Pieces.{Piece}
use Rattle.fs_types.specs.declared.push.Push.{Push}
use Rattle.piece_table.specs.HeldSpans.{Held, pushed}
use Rattle.owner_book.specs.Commits.{with_line, with_push}
use Rattle.owner_book.specs.Kept.{BookFile, BookPath}
use Rattle.owner_book.specs.Laminations.{frozen}
use Rattle.owner_book.specs.Truncations.{beside, with_size}
use Rattle.owner_book.specs.declared.after_push.AfterPush.{AfterPush}
use Rattle.owner_book.specs.declared.after_push.AfterPush.TheVariants.{Leave, Resize, Freeze}

-- where a line gives the file a size, this holds of the size
abbrev pub IfResize : AfterPush → (ℕ → Type 0) → Type 0
IfResize Leave P = Unit {0}
IfResize (Resize size) P = P size
IfResize Freeze P = Unit {0}

module _ {H : Type 0} where
  -- a file over which a push was put, and with which a line did this then
  abbrev pub file_changed : (H → Piece) → Push H → AfterPush → BookFile H → BookFile H
  file_changed piece push Leave f = with_push piece push f
  file_changed piece push (Resize size) f = with_size size (with_push piece push f)
  file_changed piece push Freeze f = frozen (with_push piece push f)

  -- a path once a line did so to its file
  abbrev pub changed : (H → Piece) → ℕ → Push H → AfterPush → BookPath H → BookPath H
  changed piece line push after x = with_line line (file_changed piece push after) x

  -- what may lose its last byte then: the pieces of the file, and where it is cut those of the push as well
  abbrev pub held_before : (H → Piece) → Push H → AfterPush → Held H → Held H
  held_before piece push Leave old = old
  held_before piece push (Resize size) old = beside (pushed piece push.frags.items push.holds.items) old
  held_before piece push Freeze old = old
