-- Jobs: a shape and a list of lines, the first of which is line 2 of the script.
use Rattle.std.specs.Prelude.{◌≡◌, ℕ, zero, suc, ◌-◌, ◌==◌, Bool, true, false, ◌&&◌, List, take, length, filter, count_by, is_some, Option, Some, None, if◌then◌else◌}
use Rattle.std.specs.List.{slice_get, range_with_len}
use Rattle.std.specs.Str.{bytes_eq}
use Rattle.fs_script.specs.declared.shape.Shape.{Shape}
use Rattle.fs_script.specs.declared.line.Line.{Line}
use Rattle.fs_script.specs.declared.line.Line.TheVariants as lines
use Rattle.fs_script.specs.declared.line.OpLine.{OpLine}
use Rattle.fs_script.specs.declared.line.Op.{Op}

pub record Job : Type 0 where
  pub shape : Shape
  pub lines : List Line

-- line n of the script; the header, line 1, is none of them
abbrev pub line_at : Job → ℕ → Option Line
line_at s zero = None
line_at s (suc zero) = None
line_at s (suc (suc k)) = slice_get s.lines k

abbrev pub operation : Option Line → Option OpLine
operation None = None
operation (Some lines.Note) = None
operation (Some lines.Barrier) = None
operation (Some (lines.Op o)) = Some o

-- the operation of line n, if it is one
abbrev pub op_at : Job → ℕ → Option OpLine
op_at s n = operation (line_at s n)

abbrev pub rank_in : Option OpLine → Option ℕ
rank_in None = None
rank_in (Some o) = Some o.rank

-- the client whose operation line n is
abbrev pub rank_at : Job → ℕ → Option ℕ
rank_at s n = rank_in (op_at s n)

abbrev pub own_op : ℕ → List ℕ → Option OpLine → Option Op
own_op r p None = None
own_op r p (Some o) = if o.rank == r && bytes_eq o.path p then Some o.op else None

-- what line n does, where it is an operation of client r on path p
abbrev pub own_at : Job → ℕ → List ℕ → ℕ → Option Op
own_at s r p n = own_op r p (op_at s n)

abbrev pub is_barrier : Line → Bool
is_barrier lines.Barrier = true
is_barrier lines.Note = false
is_barrier (lines.Op o) = false

-- the phase of line n: how many barriers stand before it
abbrev pub phase : Job → ℕ → ℕ
phase s n = count_by is_barrier (take (n - 2) s.lines)

-- the numbers of the lines that are operations, rising
abbrev pub op_lines : Job → List ℕ
op_lines s = filter (λ n. is_some (op_at s n)) (range_with_len 2 (length s.lines))

abbrev pub is_of_rank : ℕ → Option OpLine → Bool
is_of_rank r None = false
is_of_rank r (Some o) = o.rank == r

-- a client's program: the numbers of its lines, in order
abbrev pub program : Job → ℕ → List ℕ
program s r = filter (λ n. is_of_rank r (op_at s n)) (range_with_len 2 (length s.lines))

-- some operation of the script is on this path
pub record Names (s : Job) (p : List ℕ) : Type 0 where
  pub line : ℕ
  pub op : OpLine
  pub is : op_at s line ≡ Some op
  pub on : op.path ≡ p
