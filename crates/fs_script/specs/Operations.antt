-- What each operation does, needs and asks for, one case for each: the table of answers and the journals are built on these.
use Rattle.std.specs.Prelude.{ℕ, Bool, true, false, List, [], ◌∷◌, Option, Some, None}
use Rattle.fs_script.specs.declared.line.Op.{Op}
use Rattle.fs_script.specs.declared.line.Op.TheVariants as ops

-- whether a list has an entry
abbrev pub has_any : List ℕ → Bool
has_any [] = false
has_any (n ∷ ns) = true

-- it may be done only on a path that its client has opened
abbrev pub needs_open : Op → Bool
needs_open ops.Create = false
needs_open ops.Open = false
needs_open (ops.Write off text) = true
needs_open ops.Sync = true
needs_open (ops.Read off len own) = true
needs_open ops.Size = true
needs_open (ops.Trunc n) = true
needs_open ops.Laminate = true
needs_open ops.Unlink = true

-- once it is done its client has opened the path
abbrev pub opens_path : Op → Bool
opens_path ops.Create = true
opens_path ops.Open = true
opens_path (ops.Write off text) = false
opens_path ops.Sync = false
opens_path (ops.Read off len own) = false
opens_path ops.Size = false
opens_path (ops.Trunc n) = false
opens_path ops.Laminate = false
opens_path ops.Unlink = false

-- it may be done only where there is a file
abbrev pub needs_file : Op → Bool
needs_file ops.Create = false
needs_file ops.Open = true
needs_file (ops.Write off text) = true
needs_file ops.Sync = true
needs_file (ops.Read off len own) = true
needs_file ops.Size = true
needs_file (ops.Trunc n) = true
needs_file ops.Laminate = true
needs_file ops.Unlink = true

-- it may be done only where there is no file
abbrev pub needs_no_file : Op → Bool
needs_no_file ops.Create = true
needs_no_file ops.Open = false
needs_no_file (ops.Write off text) = false
needs_no_file ops.Sync = false
needs_no_file (ops.Read off len own) = false
needs_no_file ops.Size = false
needs_no_file (ops.Trunc n) = false
needs_no_file ops.Laminate = false
needs_no_file ops.Unlink = false

-- with these lines pending, it may be done only on a file that isn't frozen
abbrev pub needs_unfrozen : Op → List ℕ → Bool
needs_unfrozen ops.Create q = false
needs_unfrozen ops.Open q = false
needs_unfrozen (ops.Write off text) q = true
needs_unfrozen ops.Sync q = has_any q
needs_unfrozen (ops.Read off len own) q = false
needs_unfrozen ops.Size q = false
needs_unfrozen (ops.Trunc n) q = true
needs_unfrozen ops.Laminate q = true
needs_unfrozen ops.Unlink q = false

-- with these lines pending, it is committed once it is done: all that changes the file, but for a sync of nothing
abbrev pub commits : Op → List ℕ → Bool
commits ops.Create q = true
commits ops.Open q = false
commits (ops.Write off text) q = false
commits ops.Sync q = has_any q
commits (ops.Read off len own) q = false
commits ops.Size q = false
commits (ops.Trunc n) q = true
commits ops.Laminate q = true
commits ops.Unlink q = true

-- where it isn't committed, it may find a file as it is
abbrev pub finds_file : Op → Bool
finds_file ops.Create = false
finds_file ops.Open = true
finds_file (ops.Write off text) = false
finds_file ops.Sync = true
finds_file (ops.Read off len own) = false
finds_file ops.Size = false
finds_file (ops.Trunc n) = false
finds_file ops.Laminate = false
finds_file ops.Unlink = false

-- the bytes that a read asks for: from a place on, so many, of the file alone or with what its client has pending put over it
pub record Range : Type 0 where
  pub off : ℕ
  pub len : ℕ
  pub own : Bool

-- the range of so many bytes from a place on
abbrev pub range_of : ℕ → ℕ → Bool → Range
range_of off len own = record { off = off; len = len; own = own }

-- the range of the file that an operation shows, if it does
abbrev pub asked : Op → Option Range
asked ops.Create = None
asked ops.Open = None
asked (ops.Write off text) = None
asked ops.Sync = None
asked (ops.Read off len own) = Some (range_of off len own)
asked ops.Size = None
asked (ops.Trunc n) = None
asked ops.Laminate = None
asked ops.Unlink = None

-- it asks how long the file is
abbrev pub asks_size : Op → Bool
asks_size ops.Create = false
asks_size ops.Open = false
asks_size (ops.Write off text) = false
asks_size ops.Sync = false
asks_size (ops.Read off len own) = false
asks_size ops.Size = true
asks_size (ops.Trunc n) = false
asks_size ops.Laminate = false
asks_size ops.Unlink = false
