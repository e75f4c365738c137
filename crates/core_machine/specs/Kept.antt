-- What the core keeps for a path and for a client on it, as the words of the machine.
use Rattle.std.specs.Prelude.{◌≡◌, ℕ, true, false, is_some, List, length, All, Option, None, IfSome}
use Rattle.fs_script.specs.Vocabulary.{File, Job, Mark, Piece, marked_bytes}
use Rattle.owner_book.specs.Calls.{attr, version}
use Rattle.owner_book.specs.Journals.{marked}
use Rattle.owner_book.specs.Kept.{Book, BookFile, BookPath, held_in, no_path, path_in}
use Rattle.owner_book.specs.declared.committed.Committed.{Committed}
use Rattle.client_files.specs.Noted.{later_of, unseen}
use Rattle.client_files.specs.Kept.{KeptBoard, told_in}
use Rattle.core_machine.specs.ClientPath.{ClientPath}
use Rattle.client_files.specs.declared.noted.Noted.{Noted}
use Rattle.core_machine.specs.declared.plain_hold.PlainHold.{PlainHold}
use Rattle.core_machine.specs.BookFiles.{IsFile}
use Rattle.core_machine.specs.PendingWrites.{ArePending, IsNonePending}
use Rattle.core_machine.specs.Event.{PathNow}

-- what the owner's book has of a path, and what all clients were told of it
pub record OwnedPath : Type 0 where
  pub path : BookPath PlainHold
  pub told : Noted

abbrev pub owned_of : BookPath PlainHold → Noted → OwnedPath
owned_of x told = record { path = x; told = told }

abbrev pub owned_in : Book PlainHold → ℕ → List ℕ → KeptBoard → OwnedPath
owned_in book gfid p board = owned_of (path_in book gfid p) (told_in board p)

-- the marks of the file, if there is one
abbrev pub file_marks : Option (BookFile PlainHold) → File (Option Mark)
file_marks file = marked file

-- its bytes
abbrev pub file_of : Job → Option (BookFile PlainHold) → File ℕ
file_of s f = marked_bytes s (file_marks f)

-- the hold of a piece of the file
abbrev pub file_hold : Option (BookFile PlainHold) → Piece → Option PlainHold
file_hold file q = (held_in file).hold_of q

-- the lines of a client's pending writes, and the hold of a piece of them
abbrev pub pending_lines : ClientPath → List ℕ
pending_lines k = k.pending.lines

abbrev pub pending_hold : ClientPath → Piece → Option PlainHold
pending_hold k q = k.pending.held.hold_of q

-- what an event of a client sees of what is kept for its path, and how many slots of its log are free
abbrev pub kept_now : Job → OwnedPath → ClientPath → ℕ → PathNow
kept_now s x k free = record {
  file = file_of s x.path.file;
  marks = file_marks x.path.file;
  version = version x.path;
  pending = pending_lines k;
  is_open = k.is_open;
  front = (later_of k.noted x.told).version;
  at_front = (later_of k.noted x.told).attr;
  free = free;
}

-- what is noted of a path as it is in the book: its version, and the attributes of its file
abbrev pub noted_now : BookPath PlainHold → Noted
noted_now x = record { version = version x; attr = attr x }

-- what the owner's answer to a commit says of the path
abbrev pub noted_of : Committed PlainHold → Noted
noted_of done = record { version = done.v; attr = done.attr }

-- the file and the pending writes are whole, and have no piece in common
pub record AreSound (s : Job) (x : OwnedPath) (k : ClientPath) : Type 0 where
  pub written : IfSome x.path.file IsFile
  pub pending : ArePending s k.pending
  pub apart : (q : Piece) → is_some (pending_hold k q) ≡ true → file_hold x.path.file q ≡ None

-- all that is kept for a path: by its owner, and by each client
pub record PathState : Type 0 where
  pub owned : OwnedPath
  pub clients : List ClientPath

-- nothing was committed, and nothing is known of the path
abbrev pub fresh_owned : OwnedPath
fresh_owned = record { path = no_path; told = unseen }

-- the client did nothing
pub record IsFreshClient (k : ClientPath) : Type 0 where
  pub is_open : k.is_open ≡ false
  pub pending : IsNonePending k.pending
  pub noted : k.noted ≡ unseen

-- the owner's part, once all clients were told what is noted of the path now
abbrev pub owner_told : OwnedPath → OwnedPath
owner_told x = record { path = x.path; told = noted_now x.path }

-- the path, once they were told
abbrev pub with_told : PathState → PathState
with_told x = record { owned = owner_told x.owned; clients = x.clients }

-- nothing was committed to the path, and of so many clients none did anything
pub record IsFreshPath (count : ℕ) (x : PathState) : Type 0 where
  pub owned : x.owned ≡ fresh_owned
  pub sized : length x.clients ≡ count
  pub clients : All IsFreshClient x.clients
