-- What was done to a path in the lines of its journal, and the file that they make, each of whose bytes bears its mark.
use Rattle.std.specs.Prelude.{◌≡◌, ℕ, ◌+◌, ◌<◌, ◌≤◌, ◌⊎◌, Bool, true, false, not, List, [], ◌∷◌, ◌++◌, map, fold, All, Option, Some, None, IfSome, option_map}
use Rattle.std.specs.Prelude.{if◌then◌else◌}
use Rattle.std.specs.List.{range_with_len}
use Rattle.fs_types.specs.FragmentMarks.{mark_within, marks_of_fragments}
use Rattle.fs_types.specs.Fragments.{end_of}
use Rattle.fs_types.specs.Marks.{Mark, no_mark}
use Rattle.fs_types.specs.Overwrite.{cut, put}
use Rattle.fs_types.specs.Pieces.{Fragment, Piece}
use Rattle.fs_types.specs.PlainFile.{File}
use Rattle.fs_types.specs.declared.hold.Hold as hold
use Rattle.fs_types.specs.declared.push.Push.{Push}
use Rattle.fs_types.specs.declared.push.Replica.{Replica}
use Rattle.owner_book.specs.Kept.{BookFile, BookPath}
use Rattle.owner_book.specs.Calls.{attr, change_refusal, create_refusal, created, without_file}
use Rattle.owner_book.specs.Commits.{with_commit}
use Rattle.owner_book.specs.HoldLends.{with_hold}
use Rattle.owner_book.specs.Laminations.{with_lamination}
use Rattle.owner_book.specs.Lookups.{Asks, IsLooked, MayAsk}
use Rattle.owner_book.specs.Replicas.{IsReplica}
use Rattle.owner_book.specs.Truncations.{with_truncation}

-- A line made the path's file, put fragments over it, put fragments over it and then gave it so many bytes, put fragments over it and
-- then froze it, or removed it.
pub data Deed : Type 0 where
  creation : Deed
  addition : List Fragment → Deed
  truncation : List Fragment → ℕ → Deed
  lamination : List Fragment → Deed
  removal : Deed

-- an entry of a journal: the line, and what it did
pub record Entry : Type 0 where
  pub line : ℕ
  pub deed : Deed

-- the marks of the bytes of a fragment
abbrev pub marks_within : Fragment → List (Option Mark)
marks_within f = map (λ i. Some (mark_within f (f.at + i))) (range_with_len 0 f.len)

-- the marks of a file over whose bytes those of fragments were put, in their order
abbrev pub put_marks : List Fragment → List (Option Mark) → List (Option Mark)
put_marks frags marks = fold (λ ms f. put no_mark ms f.at (marks_within f)) marks frags

-- a file after a deed; where the deed can't be done, it is as it was
abbrev pub deed_after : File (Option Mark) → Deed → File (Option Mark)
deed_after None creation = Some (record { cells = []; frozen = false })
deed_after (Some f) creation = Some f
deed_after None (addition frags) = None
deed_after (Some f) (addition frags) = if f.frozen then Some f else Some (record { cells = put_marks frags f.cells; frozen = f.frozen })
deed_after None (truncation frags size) = None
deed_after (Some f) (truncation frags size) =
    if f.frozen then Some f else Some (record { cells = cut no_mark (put_marks frags f.cells) size; frozen = f.frozen })
deed_after None (lamination frags) = None
deed_after (Some f) (lamination frags) = if f.frozen then Some f else Some (record { cells = put_marks frags f.cells; frozen = true })
deed_after None removal = None
deed_after (Some f) removal = None

-- whether a deed can be done: where there is no file one is made, a file that isn't frozen is changed, and any is removed
abbrev pub can_be_done : File (Option Mark) → Deed → Bool
can_be_done None creation = true
can_be_done (Some f) creation = false
can_be_done None (addition frags) = false
can_be_done (Some f) (addition frags) = not f.frozen
can_be_done None (truncation frags size) = false
can_be_done (Some f) (truncation frags size) = not f.frozen
can_be_done None (lamination frags) = false
can_be_done (Some f) (lamination frags) = not f.frozen
can_be_done None removal = false
can_be_done (Some f) removal = true

-- whether a deed is a lamination
abbrev pub is_lamination : Deed → Bool
is_lamination creation = false
is_lamination (addition frags) = false
is_lamination (truncation frags size) = false
is_lamination (lamination frags) = true
is_lamination removal = false

-- the file that the entries make, one after the other, where there was none
abbrev pub file_after : List Entry → File (Option Mark)
file_after entries = fold (λ f e. deed_after f e.deed) None entries

module _ {H : Type 0} where
  -- a path's file as its marks
  abbrev pub marked : Option (BookFile H) → File (Option Mark)
  marked file = option_map (λ f. record { cells = marks_of_fragments f.held.fragments f.size; frozen = f.frozen }) file

  -- a path has these entries as its journal, and its file is the one that they make
  pub record StandsFor (entries : List Entry) (x : BookPath H) : Type 0 where
    pub journal : x.journal ≡ map (λ e. e.line) entries
    pub file : marked x.file ≡ file_after entries
    pub within : IfSome x.file (λ f. All (λ g. end_of g ≤ f.size) f.held.fragments)

  -- a line more, which committed a push
  abbrev pub CommittedStands : (H → Piece) → Type 0
  CommittedStands piece =
      (entries : List Entry) (x : BookPath H) (line : ℕ) (push : Push H) → All (λ f. 0 < f.len) push.frags.items
      → StandsFor entries x → change_refusal x ≡ None
      → StandsFor (entries ++ record { line = line; deed = addition push.frags.items } ∷ []) (with_commit piece line push x)

  -- a line more, which committed a push and then gave the file so many bytes
  abbrev pub TruncatedStands : (H → Piece) → Type 0
  TruncatedStands piece =
      (entries : List Entry) (x : BookPath H) (line : ℕ) (push : Push H) (size : ℕ) → All (λ f. 0 < f.len) push.frags.items
      → StandsFor entries x → change_refusal x ≡ None
      → StandsFor (entries ++ record { line = line; deed = truncation push.frags.items size } ∷ [])
      (with_truncation piece line push size x)

  -- a line more, which committed a push and then froze the file
  abbrev pub LaminatedStands : (H → Piece) → Type 0
  LaminatedStands piece =
      (entries : List Entry) (x : BookPath H) (line : ℕ) (push : Push H) → All (λ f. 0 < f.len) push.frags.items
      → StandsFor entries x → change_refusal x ≡ None
      → StandsFor (entries ++ record { line = line; deed = lamination push.frags.items } ∷ []) (with_lamination piece line push x)

  -- no line more: a look-up asked holds of these pieces for pins, all of them or, where memory ran out, some
  abbrev pub LookedStands : hold.Ghosts H → Type 0
  LookedStands met =
      (entries : List Entry) (old new : BookPath H) (pieces : List Piece)
      → (IsLooked (Asks met pieces) old new ⊎ IsLooked (MayAsk met pieces) old new) → StandsFor entries old → StandsFor entries new

-- a replica of a frozen file shows the marks of the file that the lines make
abbrev pub ReplicaShows : {H : Type 0} → hold.Ghosts H → Type 0
ReplicaShows {H} met =
    (entries : List Entry) (given : ℕ) (p : List ℕ) (x : BookPath H) (r : Replica H) → StandsFor entries x → (attr x).frozen ≡ true
    → IsReplica met given p x r
    → file_after entries ≡ Some (record { cells = marks_of_fragments r.frags.items r.size; frozen = true })

-- a file is frozen exactly where the last line of its journal, whose deed could be done, is a lamination
abbrev pub FrozenByTheLast : Type 0 → Type 0
FrozenByTheLast H =
    (entries : List Entry) (e : Entry) (x : BookPath H) → StandsFor (entries ++ e ∷ []) x
    → can_be_done (file_after entries) e.deed ≡ true → (attr x).frozen ≡ is_lamination e.deed

-- no line more: a hold was lent, and any other was left behind
abbrev pub LentStands : Type 0 → Type 0
LentStands H =
    (entries : List Entry) (x : BookPath H) (id : Piece) (w : H) → StandsFor entries x → StandsFor entries (with_hold id w x)

-- a line more, which made the file
abbrev pub CreatedStands : Type 0 → Type 0
CreatedStands H =
    (entries : List Entry) (x : BookPath H) (line : ℕ) → StandsFor entries x → create_refusal x ≡ None
    → StandsFor (entries ++ record { line = line; deed = creation } ∷ []) (created line x)

-- a line more, which removed the file, if there was one
abbrev pub UnlinkedStands : Type 0 → Type 0
UnlinkedStands H =
    (entries : List Entry) (x : BookPath H) (line : ℕ) → StandsFor entries x
    → StandsFor (entries ++ record { line = line; deed = removal } ∷ []) (without_file line x)
