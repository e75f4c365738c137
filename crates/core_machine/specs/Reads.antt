-- How a read begins.
use Rattle.std.specs.Prelude.{◌≡◌, ℕ, ◌+◌, ◌-◌, ◌<◌, min, Bool, false, List, All, AllPairs, Option, Some, None, find, length, map}
use Rattle.std.specs.Prelude.{slice_index_or}
use Rattle.fs_types.specs.FragmentMarks.{mark_at}
use Rattle.fs_types.specs.declared.attr.Attr.{Attr}
use Rattle.fs_types.specs.Fragments.{piece_eq}
use Rattle.piece_table.specs.PieceTable.{AreTheirs, hold_of}
use Rattle.slot_plain.specs.Log.{Log}
use Rattle.span_list.specs.Spans.{AreSpans}
use Rattle.fs_script.specs.Vocabulary.{Job, Mark, Piece, cells_of, marks_in, piece_of, view_of}
use Rattle.owner_book.specs.Kept.{BookFile}
use Rattle.owner_book.specs.Lookups.{parts_in, pieces_named}
use Rattle.owner_book.specs.declared.looked.Looked.{Looked}
use Rattle.core_machine.specs.declared.plain_hold.PlainHold.{PlainHold}
use Rattle.core_machine.specs.declared.task.ReadTask.{ReadTask}
use Rattle.core_machine.specs.BookFiles.{marks_of_file}
use Rattle.core_machine.specs.Pins.{no_count, pin_count}
use Rattle.core_machine.specs.Settling.{Settles}
use Rattle.core_machine.specs.Task.{IsReadTask, reading_of}

-- this was found of a range of a file: its parts there, the size of the file, and a hold of each piece that the parts name, which is
-- that of the file
pub record IsFoundIn (f : BookFile PlainHold) (off len : ℕ) (found : Looked PlainHold) : Type 0 where
  pub frags : found.frags.items ≡ parts_in off (off + len) f.held.fragments
  pub size : found.attr.size ≡ f.size
  pub holds : map (λ h. h.piece) found.holds.items ≡ pieces_named found.frags.items
  pub each : All (λ h. f.held.hold_of h.piece ≡ Some h) found.holds.items

-- the hold of a piece among those that were found
abbrev pub found_hold : Looked PlainHold → Piece → Option PlainHold
found_hold found q = find (λ h. piece_eq h.piece q) found.holds.items

-- ---- what a client sees

-- the marks of a file as a client sees it: of the file alone, or with the client's own pending lines put over it
abbrev pub marks_seen : Job → Bool → List ℕ → BookFile PlainHold → List (Option Mark)
marks_seen s own lines f = cells_of (view_of s (marks_in s) own lines (Some (record { cells = marks_of_file f; frozen = f.frozen })))

-- a mark is of a byte of a piece that has a hold
pub record HasHold (hold_at : Piece → Option PlainHold) (m : Mark) : Type 0 where
  pub hold : PlainHold
  pub is : hold_at (piece_of m) ≡ Some hold
  pub within : m.place < hold.bytes

-- This is seen of a range: fragments in order, which have these marks there and none elsewhere, and the size of what the range is
-- of. No two of the holds that were found are of one piece; each hold is of the piece that it stands for, and each mark has one.
pub record IsSeenIn (marks : List (Option Mark)) (off len : ℕ) (hold_at : Piece → Option PlainHold) (seen : Looked PlainHold) : Type 0 where
  pub spans : AreSpans seen.frags.items
  pub before : (k : ℕ) → k < off → mark_at seen.frags.items k ≡ None
  pub shows : (k : ℕ) → mark_at seen.frags.items (off + k) ≡ slice_index_or marks k None
  pub size : length marks ≡ min len (seen.attr.size - off)
  pub once : AllPairs (λ g h. piece_eq g.piece h.piece ≡ false) seen.holds.items
  pub theirs : AreTheirs (λ h. h.piece) hold_at
  pub held : (k : ℕ) (m : Mark) → slice_index_or marks k None ≡ Some m → HasHold hold_at m

-- a read of these marks looked up this version, with these attributes, and fetched nothing yet; it pins the pieces that they name by
-- these holds, and the slots of these are held once more than before
pub record BeginsRead (s : Job) (marks : List (Option Mark)) (version : ℕ) (known : Attr) (hold_at : Piece → Option PlainHold) (t : ReadTask)
    (was now : List Log) : Type 0 where
  pub reading : reading_of t ≡ record { version = version; marks = marks; fetched = 0 }
  pub attr : t.attr ≡ known
  pub task : IsReadTask s t
  pub holds : (q : Piece) (h : PlainHold) → hold_of t.pins q ≡ Some h → hold_at q ≡ Some h
  pub slots : Settles no_count (pin_count t.pins) was now
