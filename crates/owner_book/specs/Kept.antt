-- What a book keeps, and what it is seen as: for each gfid and path a journal, and a file or none.
use Rattle.std.specs.Prelude.{ℕ, ◌≤◌, Bool, true, false, List, [], All, Option, Some, None, option_map}
use Rattle.std.specs.Map.{lookup}
use Rattle.fs_types.specs.Fragments.{end_of}
use Rattle.fs_types.specs.Pieces.{Fragment}
use Rattle.fs_types.specs.declared.limits.TheConstants.{LONGEST_FILE}
use Rattle.fs_types.specs.declared.attr.Attr.{Attr}
use Rattle.piece_table.specs.HeldSpans.{Held, Kept, held}
use Rattle.owner_book.specs.declared.file_key.FileKey.{FileKey}
use Rattle.owner_book.specs.Names.{names_key}

-- fragments end within a file of this size, which is no longer than the longest
pub record AreWithin (size : ℕ) (fs : List Fragment) : Type 0 where
  pub ends : All (λ f. end_of f ≤ size) fs
  pub most : size ≤ LONGEST_FILE

-- ---- what is kept

pub record FileKept (H : Type 0) : Type 0 where
  pub size : ℕ
  pub frozen : Bool
  pub kept : Kept H

pub record PathKept (H : Type 0) : Type 0 where
  pub journal : List ℕ
  pub file : Option (FileKept H)

-- the paths of a book, each under its key
abbrev pub Book : Type 0 → Type 0
Book H = List (FileKey × PathKept H)

-- ---- what it is seen as

-- a file at its owner: how many bytes it has, whether it is frozen, and the fragments that its bytes are of, with their holds
pub record BookFile (H : Type 0) : Type 0 where
  pub size : ℕ
  pub frozen : Bool
  pub held : Held H

-- a path at its owner: the lines committed to it, in order, and its file, if it has one
pub record BookPath (H : Type 0) : Type 0 where
  pub journal : List ℕ
  pub file : Option (BookFile H)

module _ {H : Type 0} where
  -- a file as it is kept
  abbrev pub file_of : FileKept H → BookFile H
  file_of f = record { size = f.size; frozen = f.frozen; held = held f.kept }

  -- a path as it is kept
  abbrev pub path_of : PathKept H → BookPath H
  path_of x = record { journal = x.journal; file = option_map file_of x.file }

  -- a path to which nothing was committed
  abbrev pub no_path : BookPath H
  no_path = record { journal = []; file = None }

  -- no fragments
  abbrev pub none_held : Held H
  none_held = record { fragments = []; hold_of = λ _. None }

  -- the fragments and holds of a file that may be there
  abbrev pub held_in : Option (BookFile H) → Held H
  held_in None = none_held
  held_in (Some f) = f.held

  -- the fragments and holds of a path's file: none where it has no file
  abbrev pub held_at : BookPath H → Held H
  held_at x = held_in x.file

  -- what is found of a path
  abbrev pub path_found : Option (PathKept H) → BookPath H
  path_found None = no_path
  path_found (Some x) = path_of x

  -- what a book has of a path
  abbrev pub path_in : Book H → ℕ → List ℕ → BookPath H
  path_in book gfid p = path_found (lookup (names_key gfid p) book)

  -- an empty file, not frozen
  abbrev pub empty_file : BookFile H
  empty_file = record { size = 0; frozen = false; held = none_held }

  -- what is told of a file as it is kept, beside its bytes
  abbrev pub attr_of : FileKept H → Attr
  attr_of f = record { exists = true; size = f.size; frozen = f.frozen }
