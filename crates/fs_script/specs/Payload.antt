-- Payloads: the bytes that a line writes, where in the file it writes them, and the parts that they are cut into.
use Rattle.std.specs.Prelude.{ℕ, ◌+◌, ◌*◌, ◌/◌, ◌%◌, List, [], length, map, take, drop, Option, Some, None}
use Rattle.std.specs.List.{range_with_len}
use Rattle.std.specs.Int.{div_ceil}
use Rattle.fs_types.specs.Marks.{Mark, marks_of}
use Rattle.fs_script.specs.declared.line.OpLine.{OpLine}
use Rattle.fs_script.specs.declared.line.Op.{Op}
use Rattle.fs_script.specs.declared.line.Op.TheVariants as ops
use Rattle.fs_script.specs.declared.line.Data.{Data}
use Rattle.fs_script.specs.declared.line.Data.TheVariants.{Text, Pattern}
use Rattle.fs_script.specs.Job.{Job, op_at}

-- byte i of the pattern of a seed
abbrev pub pattern_byte : ℕ → ℕ → ℕ
pattern_byte seed i = (seed + 31 * i + i / 256) % 256

-- the bytes that are written out, or those that are computed
abbrev pub data_bytes : Data → List ℕ
data_bytes (Text bytes) = bytes
data_bytes (Pattern seed len) = map (pattern_byte seed) (range_with_len 0 len)

-- what a write brings: the place in the file, and the bytes from there on
pub record Write : Type 0 where
  pub at : ℕ
  pub bytes : List ℕ

-- what a write of this data at this place brings
abbrev pub write_of : ℕ → Data → Write
write_of off text = record { at = off; bytes = data_bytes text }

-- what an operation brings into its client's log, if it does
abbrev pub brought : Op → Option Write
brought ops.Create = None
brought ops.Open = None
brought (ops.Write off text) = Some (write_of off text)
brought ops.Sync = None
brought (ops.Read off len own) = None
brought ops.Size = None
brought (ops.Trunc n) = None
brought ops.Laminate = None
brought ops.Unlink = None

abbrev pub brought_in : Option OpLine → Option Write
brought_in None = None
brought_in (Some o) = brought o.op

-- what line n writes, if it does
abbrev pub write_at : Job → ℕ → Option Write
write_at s n = brought_in (op_at s n)

abbrev pub bytes_brought : Option Write → List ℕ
bytes_brought None = []
bytes_brought (Some w) = w.bytes

abbrev pub place_brought : Option Write → ℕ
place_brought None = 0
place_brought (Some w) = w.at

-- the bytes that line n writes
abbrev pub payload : Job → ℕ → List ℕ
payload s n = bytes_brought (write_at s n)

-- where in the file it writes them
abbrev pub offset : Job → ℕ → ℕ
offset s n = place_brought (write_at s n)

-- how many parts of chunk bytes hold len bytes, the last one perhaps shorter
abbrev pub parts_of : ℕ → ℕ → ℕ
parts_of chunk len = div_ceil len chunk

-- part p of what line n writes
abbrev pub part : Job → ℕ → ℕ → List ℕ
part s n p = take s.shape.chunk (drop (p * s.shape.chunk) (payload s n))

-- what stands at the places of a file: a blank where nobody wrote, and what each line brings
pub record Cells (X : Type 0) : Type 0 where
  pub blank : X
  pub of_line : ℕ → List X

-- bytes, and 0 where nobody wrote
abbrev pub bytes_of : Job → Cells ℕ
bytes_of s = record { blank = 0; of_line = payload s }

-- marks, and none where nobody wrote
abbrev pub marks_in : Job → Cells (Option Mark)
marks_in s = record { blank = None; of_line = λ n. marks_of s.shape.chunk n (length (payload s n)) }
