use Rattle.fs_types.proofs.Common.{◌≡◌, ◌+◌}
use Rattle.piece_table.specs.Ranges.{ending_count}
use Rattle.piece_table.proofs.ranges.count_ending.Given as goal

-- those so far and those behind the place are all
abbrev pub invariant-loop-g : goal.invariant-loop-g
invariant-loop-g g l =
    l.count + ending_count l.place l.end (g.S.Spans.fragments l.spans) ≡ ending_count l.at l.end (g.S.Spans.fragments l.spans)

abbrev pub decreases-loop-g : goal.decreases-loop-g
decreases-loop-g g l = ending_count l.place l.end (g.S.Spans.fragments l.spans)
