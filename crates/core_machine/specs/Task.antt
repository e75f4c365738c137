-- What a client is in the midst of, as the code keeps it.
use Rattle.std.specs.Prelude.{◌≡◌, ℕ, ◌+◌, ◌<◌, ◌≤◌, List, length, take, slice_index, All, is_some, Option, Some, None}
use Rattle.fs_types.specs.FragmentMarks.{mark_at, marks_of_fragments}
use Rattle.fs_types.specs.Fragments.{fragment_count}
use Rattle.piece_table.specs.HeldSpans.{is_named}
use Rattle.piece_table.specs.PieceTable.{Pieces, hold_of, number_of}
use Rattle.fs_script.specs.Vocabulary.{Fragment, Job, Mark, Piece, marked_byte, runs}
use Rattle.core_machine.specs.declared.plain_hold.PlainHold.{PlainHold}
use Rattle.core_machine.specs.declared.task.ReadTask.{ReadTask}
use Rattle.core_machine.specs.declared.task.Task.{Task}
use Rattle.core_machine.specs.declared.task.Task.TheVariants.{Idle, Read}
use Rattle.core_machine.specs.Doing.{Doing, Reading, nothing, reading}

-- the marks of the bytes that a read shows
abbrev pub marks_of_task : ReadTask → List (Option Mark)
marks_of_task t = marks_of_fragments t.runs.items (length t.bytes.items)

abbrev pub reading_of : ReadTask → Reading
reading_of t = record { version = t.version; marks = marks_of_task t; fetched = t.fetched }

abbrev pub doing_of : Task → Doing
doing_of Idle = nothing
doing_of (Read t) = reading (reading_of t)

-- a read pins each piece that its runs name, once, and no other, and counts the runs of each; a run lies in its piece
pub record PinsRuns (runs : List Fragment) (pins : Pieces PlainHold) : Type 0 where
  pub numbers : (q : Piece) → number_of pins q ≡ fragment_count q runs
  pub named : (q : Piece) → is_some (hold_of pins q) ≡ is_named runs q
  pub piece : (q : Piece) (h : PlainHold) → hold_of pins q ≡ Some h → h.piece ≡ q
  pub within : All (λ f. (h : PlainHold) → hold_of pins f.piece ≡ Some h → f.from + f.len ≤ h.bytes) runs

-- the runs are those of the bytes shown; of these the bytes of the runs that were fetched are there, and zeros elsewhere
pub record IsReadTask (s : Job) (t : ReadTask) : Type 0 where
  pub runs_are : runs (marks_of_task t) ≡ t.runs.items
  pub pinned : PinsRuns t.runs.items t.pins
  pub fetched : t.fetched ≤ length t.runs.items
  pub bytes : (k : ℕ) → k < length t.bytes.items
      → slice_index t.bytes.items k ≡ marked_byte s (mark_at (take t.fetched t.runs.items) k)

abbrev pub IsTask : Job → Task → Type 0
IsTask s Idle = Unit {0}
IsTask s (Read t) = IsReadTask s t

-- the holds of what a client is in the midst of
abbrev pub task_hold : Task → Piece → Option PlainHold
task_hold Idle q = None
task_hold (Read t) q = hold_of t.pins q
