use Rattle.std.proofs.Common.{◌≡◌, ◌+◌, ◌≤◌, length}
use Rattle.fs_script.specs.Reading.Tokens.{lines_of}
use Rattle.fs_script.proofs.read.lines.line_count.Given as goal

abbrev pub invariant-loop-others : goal.invariant-loop-others
invariant-loop-others l = (l.count + length (lines_of l.rest) ≡ length (lines_of l.text)) × (l.count + length l.rest ≤ length l.text)

abbrev pub decreases-loop-others : goal.decreases-loop-others
decreases-loop-others l = length l.rest
