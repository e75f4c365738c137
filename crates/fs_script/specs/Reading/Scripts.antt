-- Reading a script from left to right, up to the first fault: what bytes outside the grammar are answered.
use Rattle.std.specs.Prelude.{ℕ, ◌+◌, nat_lt, List, [], ◌∷◌, length, Result, Ok, Err, if◌then◌else◌}
use Rattle.fs_script.specs.declared.limits.TheConstants.{SCRIPT_LIMIT, LINE_LIMIT}
use Rattle.fs_script.specs.declared.shape.Shape.{Shape}
use Rattle.fs_script.specs.declared.line.Line.{Line}
use Rattle.fs_script.specs.declared.fault.ScriptFault.{ScriptFault}
use Rattle.fs_script.specs.declared.fault.ScriptFault.TheVariants as faults
use Rattle.fs_script.specs.declared.read.line_fault.LineFault.{LineFault}
use Rattle.fs_script.specs.declared.read.line_fault.LineFault.TheVariants as line_faults
use Rattle.fs_script.specs.Job.{Job}
use Rattle.fs_script.specs.Reading.Steps.{◌>>=◌}
use Rattle.fs_script.specs.Reading.Tokens.{lines_of}
use Rattle.fs_script.specs.Reading.Headers.{header_of}
use Rattle.fs_script.specs.Reading.Lines.{line_of}

-- the fault of a script whose line n has this fault
abbrev pub fault_at : ℕ → LineFault → ScriptFault
fault_at n (line_faults.Bad reason) = faults.BadLine n reason
fault_at n line_faults.OverLimit = faults.OverLimit n
fault_at n line_faults.Want = faults.Want

-- what line n says, or the script's fault
abbrev pub numbered : ℕ → Result Line LineFault → Result Line ScriptFault
numbered n (Ok l) = Ok l
numbered n (Err f) = Err (fault_at n f)

-- the lines that texts say, of which the first is line n of the script
abbrev pub lines_from : Shape → ℕ → List (List ℕ) → Result (List Line) ScriptFault
lines_from h n [] = Ok []
lines_from h n (t ∷ ts) = do
  l ← numbered n (line_of h t)
  ls ← lines_from h (n + 1) ts
  Ok (l ∷ ls)

-- the lines after the header, where they are few enough
abbrev pub lines_after_header : Shape → List (List ℕ) → Result (List Line) ScriptFault
lines_after_header h ts = if nat_lt LINE_LIMIT (length ts + 1) then Err faults.TooManyLines else lines_from h 2 ts

-- the job that lines spell
abbrev pub job_of_lines : List (List ℕ) → Result Job ScriptFault
job_of_lines [] = Err faults.BadHeader
job_of_lines (t ∷ ts) = do
  h ← header_of t
  ls ← lines_after_header h ts
  Ok (record { shape = h; lines = ls })

-- the job that the bytes spell, or the first fault
abbrev pub job_of : List ℕ → Result Job ScriptFault
job_of bytes = if nat_lt SCRIPT_LIMIT (length bytes) then Err faults.TooLong else job_of_lines (lines_of bytes)
