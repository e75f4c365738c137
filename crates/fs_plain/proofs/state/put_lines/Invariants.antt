use Rattle.std.proofs.Common.{◌≡◌, drop}
use Rattle.fs_script.specs.Payload.{bytes_of}
use Rattle.fs_script.specs.Effect.{with_lines}
use Rattle.fs_plain.proofs.state.put_lines.Given as goal

-- the lines that are left make of the file so far what all lines make of the first
abbrev pub invariant-loop-n : goal.invariant-loop-n
invariant-loop-n l = with_lines l.s (bytes_of l.s) (drop l.n-index l.lines) l.file ≡ with_lines l.s (bytes_of l.s) l.lines l.initial.file
