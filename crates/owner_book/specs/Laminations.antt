-- What a lamination makes of a path.
use Rattle.std.specs.Prelude.{ℕ, true}
use Rattle.fs_types.specs.Pieces.{Piece}
use Rattle.fs_types.specs.declared.push.Push.{Push}
use Rattle.owner_book.specs.Commits.{with_line, with_push}
use Rattle.owner_book.specs.Kept.{BookFile, BookPath}

module _ {H : Type 0} where
  -- a file that is frozen from now on
  abbrev pub frozen : BookFile H → BookFile H
  frozen f = record { size = f.size; frozen = true; held = f.held }

  -- a path once a line committed a push to its file, and then froze it
  abbrev pub with_lamination : (H → Piece) → ℕ → Push H → BookPath H → BookPath H
  with_lamination piece line push x = with_line line (λ f. frozen (with_push piece push f)) x
