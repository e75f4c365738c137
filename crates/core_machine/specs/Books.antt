-- The owners' books: what stands in the book of a path's owner for it, and what a call that changes one path leaves of the others.
use Rattle.std.specs.Prelude.{◌≡◌, ℕ, List, Option, Some, None, length, slice_get, bytes_eq, if◌then◌else◌}
use Rattle.placement.specs.Placement.{gfid, owner}
use Rattle.owner_book.specs.Calls.{Changes}
use Rattle.owner_book.specs.Kept.{Book, BookPath, no_path, path_in}
use Rattle.core_machine.specs.declared.plain_hold.PlainHold.{PlainHold}

-- what a server's book has of a path; nothing where there is no such server
abbrev pub path_at_server : Option (Book PlainHold) → List ℕ → BookPath PlainHold
path_at_server None p = no_path
path_at_server (Some book) p = path_in book (gfid p) p

-- what the book of a path's owner, one of these servers, has of it
abbrev pub path_at : List (Book PlainHold) → List ℕ → BookPath PlainHold
path_at books p = path_at_server (slice_get books (owner (gfid p) (length books))) p

-- whatever the book has of one path now, of every other it has what it had
abbrev pub ChangesOne : Book PlainHold → Book PlainHold → ℕ → List ℕ → Type 0
ChangesOne old new gfid p = Changes old new gfid p (path_in new gfid p)

-- the books have this of one path, and of every other what they had
pub record ChangesPath (old new : List (Book PlainHold)) (p : List ℕ) (x : BookPath PlainHold) : Type 0 where
  pub sized : length new ≡ length old
  pub changes : (q : List ℕ) → path_at new q ≡ (if bytes_eq q p then x else path_at old q)
