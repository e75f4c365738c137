-- Marks in files: at each place of a file the byte of a piece that stands there, or none for a zero that nobody wrote. They
-- are made as the bytes are, by the same effects; only, a line brings the marks of its payload where it brought its bytes.
use Rattle.std.specs.Prelude.{◌≡◌, ℕ, ◌+◌, ◌*◌, ◌<◌, List, [], map, length, slice_index_or, Option, Some, None}
use Rattle.fs_types.specs.Marks.{Mark}
use Rattle.fs_types.specs.PlainFile.{File}
use Rattle.fs_script.specs.Job.{Job}
use Rattle.fs_script.specs.Payload.{offset, part, marks_in}
use Rattle.fs_script.specs.Pending.{Answering}
use Rattle.fs_script.specs.Effect.{state_in, put_lines}

-- the marks of the file at version v of a journal, from none
abbrev pub marks_at : Job → Answering → List ℕ → ℕ → File (Option Mark)
marks_at s A J v = state_in s (marks_in s) A J v

-- the marks of what these lines bring, put in order on an empty file
abbrev pub marks_put : Job → List ℕ → List (Option Mark)
marks_put s ns = put_lines s (marks_in s) ns []

-- what stands at the places of a file; nothing where there is none
abbrev pub cells_of : {X : Type 0} → File X → List X
cells_of None = []
cells_of (Some f) = f.cells

-- the marks of the file that a whole journal makes
abbrev pub present_marks : Job → Answering → List ℕ → List (Option Mark)
present_marks s A J = cells_of (marks_at s A J (length J))

-- a mark stands at place k: its line wrote that byte of its payload there, and it is a byte of the part
pub record IsAtHome (s : Job) (k : ℕ) (m : Mark) : Type 0 where
  pub place : k ≡ offset s m.line + m.part * s.shape.chunk + m.place
  pub byte : m.place < length (part s m.line m.part)

-- ---- bytes by their marks

-- the byte that a mark is of, and 0 where there is none
abbrev pub marked_byte : Job → Option Mark → ℕ
marked_byte s None = 0
marked_byte s (Some m) = slice_index_or (part s m.line m.part) m.place 0

-- a file with h of what stands at each of its places
abbrev pub file_map : {X Y : Type 0} → (X → Y) → File X → File Y
file_map h None = None
file_map h (Some f) = Some (record { cells = map h f.cells; frozen = f.frozen })

-- the bytes of a file, by its marks
abbrev pub marked_bytes : Job → File (Option Mark) → File ℕ
marked_bytes s f = file_map (marked_byte s) f
