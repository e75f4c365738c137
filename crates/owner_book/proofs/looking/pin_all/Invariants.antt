use Rattle.fs_types.proofs.Common.{◌≤◌, take, vec_len, vec_capacity}
use Rattle.piece_table.specs.HeldSpans.{AreHeld, held}
use Rattle.owner_book.specs.Lookups.{Asks, Pins}
use Rattle.owner_book.proofs.looking.pin_all.Given as goal

-- the pieces so far have their pins, and no other was asked
abbrev pub invariant-loop-p : goal.invariant-loop-p
invariant-loop-p g l = record {
  pins : Pins g.H.Hold (held l.initial.kept) (take l.p-index l.pieces) l.holds.items l.bare.items;
  asks : Asks g.H.Hold (take l.p-index l.pieces) (held l.initial.kept) (held l.kept);
  are_held : AreHeld g.H.Hold.is_ready g.H.Hold.piece g.H.Hold.bytes (held l.kept);
  count : vec_len l.holds ≤ l.p-index;
  count_bare : vec_len l.bare ≤ l.p-index;
  room : vec_capacity l.initial.holds ≤ vec_capacity l.holds;
  room_bare : vec_capacity l.initial.bare ≤ vec_capacity l.bare;
}
