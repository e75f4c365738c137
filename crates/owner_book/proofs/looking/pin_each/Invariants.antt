use Rattle.fs_types.proofs.Common.{◌≡◌, ◌≤◌, false, list_any, take, vec_len, vec_capacity}
use Rattle.piece_table.specs.HeldSpans.{AreHeld, held}
use Rattle.owner_book.specs.Lookups.{ArePinned, AsksFor, lacks_room}
use Rattle.owner_book.proofs.looking.pin_each.Given as goal

-- the pieces so far have their pins, since none lacks room, and no other was asked
abbrev pub invariant-loop-p : goal.invariant-loop-p
invariant-loop-p g l = record {
  pins : ArePinned g.H.Hold l.given (held l.initial.kept) (take l.p-index l.pieces) l.pins.items;
  has_room : list_any (lacks_room g.H.Hold l.given (held l.initial.kept)) (take l.p-index l.pieces) ≡ false;
  asks : AsksFor g.H.Hold l.given (take l.p-index l.pieces) (held l.initial.kept) (held l.kept);
  are_held : AreHeld g.H.Hold.is_ready g.H.Hold.piece g.H.Hold.bytes (held l.kept);
  count : vec_len l.pins ≤ l.p-index;
  room : vec_capacity l.initial.pins ≤ vec_capacity l.pins;
}
