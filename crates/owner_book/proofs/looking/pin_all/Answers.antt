-- One more piece was asked for a pin, or memory ran out at it.
use Rattle.fs_types.proofs.Common.{◌∙◌, sym, ap, subst, take_more, arith, ◌++◌, [], ◌∷◌, take}
use Rattle.piece_table.specs.HeldSpans.{held}
use Rattle.owner_book.specs.Lookups.{Asks, Pins}
use Rattle.owner_book.proofs.Pinned.{after-refusal, asks-more, fresh, may-ask, one-there, pins-more}
use Rattle.owner_book.proofs.looking.pin_all.Goals as goal

pub loop-p-preserved : goal.loop-p-preserved
loop-p-preserved g c =
    let p = c.p-item.result in
    let k = c.loop-p.p-index in
    let ps = c.args.pieces.now in
    let first = held c.args.kept.now in
    let so_far = c.loop-p.invariant in
    let one = c.in_ok-pin_one.ensures in
    let now = take_more ps k p c.loop-p-test.true ∙ ap (λ q. take k ps ++ q ∷ []) (sym c.p-item.is) in
    let other = fresh ps k p c.p-item.is c.loop-p-test.true c.requires.once in
    record {
      pins = subst (λ qs. Pins g.H.Hold first qs c.pin_one.new.holds.items c.pin_one.new.bare.items) (sym now)
          (pins-more g.H.Hold first (held c.loop-p.kept) (held c.pin_one.new.kept) (take k ps) p c.loop-p.holds.items
          c.pin_one.new.holds.items c.loop-p.bare.items c.pin_one.new.bare.items so_far.asks other one.asks so_far.pins);
      asks = subst (λ qs. Asks g.H.Hold qs first (held c.pin_one.new.kept)) (sym now)
          (asks-more g.H.Hold first (held c.loop-p.kept) (held c.pin_one.new.kept) (take k ps) p c.loop-p.holds.items
          c.pin_one.new.holds.items c.loop-p.bare.items c.pin_one.new.bare.items so_far.asks other one.asks);
      are_held = one.held;
      count = omega (arith, so_far.count, one.room.0);
      count_bare = omega (arith, so_far.count_bare, one.room.1);
      room = omega (arith, so_far.room, one.capacity.0);
      room_bare = omega (arith, so_far.room_bare, one.capacity.1);
    }

pub returns-in_err-pin_one-clause-may_ask : goal.returns-in_err-pin_one-clause-may_ask
returns-in_err-pin_one-clause-may_ask g c =
    let p = c.p-item.result in
    let k = c.loop-p.p-index in
    let ps = c.args.pieces.now in
    after-refusal c.from_residual.result (may-ask g.H.Hold 0 (held c.args.kept.now) (held c.loop-p.kept) (held c.pin_one.new.kept) ps k p
    c.loop-p.invariant.asks c.in_err-pin_one.ensures.may_ask (fresh ps k p c.p-item.is c.loop-p-test.true c.requires.once)
    (one-there ps k p c.p-item.is c.loop-p-test.true))
