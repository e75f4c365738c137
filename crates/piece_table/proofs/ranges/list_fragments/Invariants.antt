use Rattle.fs_types.proofs.Common.{◌≡◌, ◌+◌, ◌≤◌, ◌++◌, length, vec_len, vec_capacity}
use Rattle.fs_types.specs.declared.limits.TheConstants.{LONGEST_FILE}
use Rattle.piece_table.specs.Ranges.{covered}
use Rattle.piece_table.proofs.ranges.list_fragments.Given as goal

-- those in the list and those behind the place are all, and there is room for them
abbrev pub invariant-loop-f : goal.invariant-loop-f
invariant-loop-f g l =
    let rest = covered l.place LONGEST_FILE (g.S.Spans.fragments l.spans) in
    record {
      all : l.list.items ++ rest ≡ l.fn.list.items ++ g.S.Spans.fragments l.spans;
      room : vec_len l.list + length rest ≤ vec_capacity l.list;
    }

abbrev pub decreases-loop-f : goal.decreases-loop-f
decreases-loop-f g l = length (covered l.place LONGEST_FILE (g.S.Spans.fragments l.spans))
