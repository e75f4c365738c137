-- One more piece was pinned, or its hold gave none.
use Rattle.fs_types.proofs.Common.{◌≡◌, ◌∙◌, sym, ap, subst, take_more, arith, ◌++◌, [], ◌∷◌, take, false, false_from_ne_true, list_any}
use Rattle.fs_types.proofs.Common.{Result, Ok, Err}
use Rattle.std.proofs.lemmas.List.Folds.{list_any_at}
use Rattle.std.specs.Result.{IsErrAnd, IsErrOf}
use Rattle.fs_types.specs.declared.hold.PinNo.{PinNo}
use Rattle.fs_types.specs.declared.hold.PinNo.TheVariants.{NoRoom}
use Rattle.piece_table.specs.HeldSpans.{held}
use Rattle.owner_book.specs.Lookups.{ArePinned, AsksFor, IsRefused, MayBeAskedFor, lacks_room}
use Rattle.owner_book.proofs.Pinned.{asks-then, becomes-weaker, fresh, has_room-then, lacks-first, may-ask, one-there, pinned-then}
use Rattle.owner_book.proofs.Pinned.{refused-may_be}
use Rattle.owner_book.proofs.Pins.{ok≢err}
use Rattle.owner_book.proofs.looking.pin_each.Goals as goal

pub loop-p-preserved : goal.loop-p-preserved
loop-p-preserved g c =
    let met = g.H.Hold in
    let given = c.args.given in
    let p = c.p-item.result in
    let k = c.loop-p.p-index in
    let ps = c.args.pieces.now in
    let first = held c.args.kept.now in
    let old = held c.loop-p.kept in
    let new = held c.pin_of.new.kept in
    let so_far = c.loop-p.invariant in
    let one = c.in_ok-pin_of.ensures in
    let now = take_more ps k p c.loop-p-test.true ∙ ap (λ q. take k ps ++ q ∷ []) (sym c.p-item.is) in
    let other = fresh ps k p c.p-item.is c.loop-p-test.true c.requires.once in
    let roomy = false_from_ne_true (lacks_room met given old p) (λ t. ok≢err c.in_ok-pin_of.field-0 _ (one.no_room.1 t)) in
    record {
      pins = subst (λ qs. ArePinned met given first qs c.push_reserved.new.self.items) (sym now)
          (pinned-then met given first old new (take k ps) p so_far.asks other c.loop-p.pins.items c.push_reserved.new.self.items
          c.in_ok-pin_of.field-0 c.push_reserved.ensures.items one.piece one.pin so_far.pins);
      has_room = subst (λ qs. list_any (lacks_room met given first) qs ≡ false) (sym now)
          (has_room-then met given first old new (take k ps) p so_far.asks other so_far.has_room roomy);
      asks = subst (λ qs. AsksFor met given qs first new) (sym now)
          (asks-then met given first old new (take k ps) p so_far.asks other one.asks);
      are_held = one.held;
      count = omega (arith, so_far.count, c.push_reserved.ensures.len);
      room = omega (arith, so_far.room, c.push_reserved.ensures.capacity);
    }

pub returns-in_err-pin_of-clause-may_ask : goal.returns-in_err-pin_of-clause-may_ask
returns-in_err-pin_of-clause-may_ask g c =
    let met = g.H.Hold in
    let given = c.args.given in
    let p = c.p-item.result in
    let k = c.loop-p.p-index in
    let ps = c.args.pieces.now in
    may-ask met given (held c.args.kept.now) (held c.loop-p.kept) (held c.pin_of.new.kept) ps k p c.loop-p.invariant.asks
    (becomes-weaker (IsRefused met) (MayBeAskedFor met given) (refused-may_be met given) _ _ _ c.in_err-pin_of.ensures.refused)
    (fresh ps k p c.p-item.is c.loop-p-test.true c.requires.once) (one-there ps k p c.p-item.is c.loop-p-test.true)

-- the refusal is that of the pin
abbrev error_or : {X : Type 0} → PinNo → Result X PinNo → PinNo
error_or why (Ok x) = why
error_or why (Err e) = e

told : {X Y : Type 0} (r : Result X PinNo) (why : PinNo) → IsErrAnd r (λ e. e ≡ why) → IsErrOf r NoRoom → IsErrOf {T = Y} (Err why) NoRoom
told (Ok x) why same is = absurd (ok≢err x NoRoom is)
told (Err e) why same is = ap Err (sym same ∙ ap (error_or NoRoom) is)

pub returns-in_err-pin_of-clause-no_room : goal.returns-in_err-pin_of-clause-no_room
returns-in_err-pin_of-clause-no_room g c = λ is.
    let met = g.H.Hold in
    let given = c.args.given in
    let p = c.p-item.result in
    let k = c.loop-p.p-index in
    let ps = c.args.pieces.now in
    let first = held c.args.kept.now in
    let old = held c.loop-p.kept in
    let lacks = lacks_room met given first in
    let full = c.in_err-pin_of.ensures.no_room.0 (told c.from_residual.result c.in_err-pin_of.field-0.0 c.from_residual.ensures.1 is) in
    let other = fresh ps k p c.p-item.is c.loop-p-test.true c.requires.once in
    list_any_at lacks ps k p c.loop-p-test.true
    (ap lacks (sym c.p-item.is)
    ∙ lacks-first met given first old (held c.pin_of.new.kept) (take k ps) p c.loop-p.invariant.asks other ∙ full)
