use Rattle.std.proofs.Common.{◌≡◌, ◌+◌, length}
use Rattle.fs_script.specs.Reading.Tokens.{lines_of}
use Rattle.fs_script.specs.Reading.Scripts.{lines_from}
use Rattle.fs_script.proofs.Lines.{with_front}
use Rattle.fs_script.proofs.read.lines_from_second.Given as goal

abbrev pub invariant-loop-first : goal.invariant-loop-first
invariant-loop-first l = record {
  read : with_front l.lines.items (lines_from l.shape (length l.lines.items + 2) (lines_of l.rest)) ≡ lines_from l.shape 2 (lines_of l.text);
  counted : length l.lines.items + length (lines_of l.rest) ≡ length (lines_of l.text);
}

abbrev pub decreases-loop-first : goal.decreases-loop-first
decreases-loop-first l = length l.rest
