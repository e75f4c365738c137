use Rattle.fs_types.proofs.Common.{◌≡◌, map, range_with_len}
use Rattle.fs_types.specs.Fragments.{held_pieces}
use Rattle.client_map.specs.Writes.{part_of}
use Rattle.client_map.proofs.tests.holds_of.Given as goal

-- the holds are those of the parts so far
abbrev pub invariant-loop-part : goal.invariant-loop-part
invariant-loop-part l =
    held_pieces (λ h. h.piece) (λ h. h.bytes) l.holds.items
    ≡ held_pieces (λ f. f.piece) (λ f. f.len)
    (map (part_of 8 (record { line = l.fn.line; off = l.fn.off; len = l.fn.len })) (range_with_len 0 l.part))
