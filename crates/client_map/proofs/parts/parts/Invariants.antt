use Rattle.std.proofs.Common.{◌≡◌, ◌*◌, ◌≤◌, map, vec_len, vec_capacity, length}
use Rattle.std.specs.List.{range_with_len}
use Rattle.client_map.specs.Writes.{part_of, write_of}
use Rattle.client_map.proofs.parts.parts.Given as goal

-- the fragments are those of the parts so far
abbrev pub invariant-loop-hold : goal.invariant-loop-hold
invariant-loop-hold g l = record {
  frags : l.frags.items ≡ map (part_of l.fn.chunk (write_of g.H.Hold.piece l.off l.len l.holds)) (range_with_len 0 l.hold-index);
  count : vec_len l.frags ≡ l.hold-index;
  room : length l.holds ≤ vec_capacity l.frags;
  begin : l.begin ≡ l.hold-index * l.fn.chunk;
}
