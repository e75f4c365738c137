use Rattle.fs_types.proofs.Common.{◌≡◌, ◌+◌, length}
use Rattle.piece_table.specs.Ranges.{covered}
use Rattle.piece_table.proofs.ranges.count_covered.Given as goal

-- those so far and those behind the place are all
abbrev pub invariant-loop-g : goal.invariant-loop-g
invariant-loop-g g l =
    l.count + length (covered l.place l.end (g.S.Spans.fragments l.spans)) ≡ length (covered l.at l.end (g.S.Spans.fragments l.spans))

abbrev pub decreases-loop-g : goal.decreases-loop-g
decreases-loop-g g l = length (covered l.place l.end (g.S.Spans.fragments l.spans))
