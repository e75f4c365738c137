-- What was done to a map, and what is pending on a path then: the marks of the writes since the last take, put in order.
use Rattle.std.specs.Prelude.{◌≡◌, ℕ, ◌+◌, ◌<◌, ◌≤◌, List, [], ◌∷◌, ◌++◌, length, fold, All, Option, if◌then◌else◌}
use Rattle.std.specs.Str.{bytes_eq}
use Rattle.fs_types.specs.FragmentMarks.{marks_of_fragments}
use Rattle.fs_types.specs.Fragments.{end_of}
use Rattle.fs_types.specs.Marks.{Mark, no_mark, marks_of}
use Rattle.fs_types.specs.Pieces.{Fragment, Piece}
use Rattle.fs_types.specs.PlainFile.{written}
use Rattle.fs_types.specs.declared.limits.TheConstants.{LONGEST_FILE}
use Rattle.piece_table.specs.HeldSpans.{PutsAll, pushed}
use Rattle.client_map.specs.Calls.{Changes, IsAsBefore}
use Rattle.client_map.specs.HoldLends.{with_hold}
use Rattle.client_map.specs.Kept.{MapKept, nothing_pending, pending_in}
use Rattle.client_map.specs.Writes.{Write, parts_of}

-- a line was written to a path, or what was pending there was taken
pub data Deed : Type 0 where
  addition : List ℕ → Write → Deed
  taking : List ℕ → Deed

-- the writes that are pending on a path after one deed more
abbrev pub writes_after : List ℕ → List Write → Deed → List Write
writes_after q ws (addition p w) = if bytes_eq q p then ws ++ w ∷ [] else ws
writes_after q ws (taking p) = if bytes_eq q p then [] else ws

-- the writes to a path since what was pending there was last taken, in order
abbrev pub pending_writes : List Deed → List ℕ → List Write
pending_writes deeds q = fold (writes_after q) [] deeds

-- the marks of writes that were put in order over an empty file
abbrev pub marks_of_writes : ℕ → List Write → List (Option Mark)
marks_of_writes chunk ws = fold (λ ms w. written no_mark ms w.off (marks_of chunk w.line w.len)) [] ws

-- fragments have the marks of these writes, and none behind them
pub record HaveMarks (chunk : ℕ) (ws : List Write) (fs : List Fragment) : Type 0 where
  pub marks : marks_of_fragments fs (length (marks_of_writes chunk ws)) ≡ marks_of_writes chunk ws
  pub within : All (λ f. end_of f ≤ length (marks_of_writes chunk ws)) fs

module _ {H : Type 0} where
  -- after these deeds what is pending on each path has the marks of the writes that are pending there
  abbrev pub StandsFor : List Deed → MapKept H → Type 0
  StandsFor deeds map = (q : List ℕ) → HaveMarks map.chunk (pending_writes deeds q) (pending_in map q).fragments

  -- a deed more: a line was written, by holds of its parts
  abbrev pub AddedStands : (H → Piece) → Type 0
  AddedStands piece =
      (deeds : List Deed) (old new : MapKept H) (p : List ℕ) (w : Write) (holds : List H) → 0 < old.chunk → 0 < w.len
      → w.off + w.len ≤ LONGEST_FILE
      → PutsAll (pushed piece (parts_of old.chunk w) holds) (pending_in old p) (pending_in new p)
      → Changes old new p (pending_in new p) → StandsFor deeds old → StandsFor (deeds ++ addition p w ∷ []) new

-- none: nothing is pending in the map
abbrev pub NewStands : Type 0 → Type 0
NewStands H = (map : MapKept H) → ((q : List ℕ) → pending_in map q ≡ nothing_pending) → StandsFor [] map

-- a deed more: what was pending on a path was taken
abbrev pub TakenStands : Type 0 → Type 0
TakenStands H =
    (deeds : List Deed) (old new : MapKept H) (p : List ℕ) → Changes old new p nothing_pending → StandsFor deeds old
    → StandsFor (deeds ++ taking p ∷ []) new

-- no deed more: a hold was lent, and any other was left behind
abbrev pub LentStands : Type 0 → Type 0
LentStands H =
    (deeds : List Deed) (old new : MapKept H) (p : List ℕ) (id : Piece) (h : H)
    → Changes old new p (with_hold id h (pending_in old p)) → StandsFor deeds old → StandsFor deeds new

-- no deed more: memory ran out
abbrev pub SameStands : Type 0 → Type 0
SameStands H = (deeds : List Deed) (old new : MapKept H) → IsAsBefore old new → StandsFor deeds old → StandsFor deeds new

-- once what is pending on a path was taken, no write is pending there
abbrev pub TakingEmpties : Type 0
TakingEmpties = (deeds : List Deed) (p : List ℕ) → pending_writes (deeds ++ taking p ∷ []) p ≡ []
