use Rattle.fs_types.proofs.Common.{◌≡◌, ◌+◌, drop}
use Rattle.piece_table.specs.Ranges.{ends_under}
use Rattle.piece_table.proofs.ranges.count_under.Given as goal

-- those under the fragments so far and under the others are all
abbrev pub invariant-loop-f : goal.invariant-loop-f
invariant-loop-f g l =
    let fs = g.S.Spans.fragments l.spans in
    l.count + ends_under (drop l.f-index l.over) fs ≡ ends_under l.over fs
