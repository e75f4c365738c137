use Rattle.fs_types.proofs.Common.{ap, inl, inr, refl, Err, false_from_ne_true}
use Rattle.piece_table.specs.HeldSpans.{held}
use Rattle.owner_book.specs.Lookups.{IsRefused, MayBeAsked, is_bare}
use Rattle.owner_book.proofs.Pinned.{asks-full, becomes-weaker, refused-may_be}
use Rattle.owner_book.proofs.Pins.{ok≢err}
use Rattle.owner_book.proofs.looking.pin_one.Goals as goal

pub returns-in-Err-Want-clause-may_ask : goal.returns-in-Err-Want-clause-may_ask
returns-in-Err-Want-clause-may_ask g c =
    becomes-weaker (IsRefused g.H.Hold) (MayBeAsked g.H.Hold) (refused-may_be g.H.Hold 0) _ _ _ c.in-Err-Want.ensures.refused

-- it has a pin where its hold has room
pub returns-in-Ok-clause-asks : goal.returns-in-Ok-clause-asks
returns-in-Ok-clause-asks g c =
    let roomy = false_from_ne_true (is_bare g.H.Hold (held c.args.kept.now) c.args.p)
    (λ t. ok≢err c.in-Ok.pin _ (c.in-Ok.ensures.no_room.1 t)) in
    record {
      asks = c.in-Ok.ensures.asks;
      adds = inr (roomy, refl, c.in-Ok.pin, c.push_reserved.ensures.items, c.in-Ok.ensures.piece, c.in-Ok.ensures.pin.of);
    }

-- and is bare where it has none
pub returns-in-Err-NoRoom-clause-asks : goal.returns-in-Err-NoRoom-clause-asks
returns-in-Err-NoRoom-clause-asks g c =
    let full = c.in-Err-NoRoom.ensures.no_room.0 (ap Err c.in-Err-NoRoom.field-0-is) in
    record {
      asks = asks-full g.H.Hold c.args.p (held c.args.kept.now) (held c.pin_of.new.kept) full c.in-Err-NoRoom.ensures.refused;
      adds = inl (full, refl, c.push_reserved-in-Err-NoRoom.ensures.items);
    }
