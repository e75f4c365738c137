use Rattle.fs_types.proofs.Common.{◌∙◌, ap, refl, subst, sym, true}
use Rattle.std.specs.Option.{option_copied_mut}
use Rattle.fs_types.specs.declared.mem_hold.MemHold.{MemHold}
use Rattle.owner_book.specs.Commits.{HasHolds}
use Rattle.owner_book.specs.HoldLends.{with_hold}
use Rattle.owner_book.specs.Kept.{path_in}
use Rattle.owner_book.proofs.CallerLemmas.{holds-changed, holds-lent}
use Rattle.owner_book.proofs.Paths.{at-changed}
use Rattle.owner_book.proofs.tests.pushes.pin.Goals as goal

pub returns-in-Ok : goal.returns-in-Ok
returns-in-Ok c =
    let h = c.in-Some.hold.now in
    let w = c.pin.new.self in
    let old = c.args.book.now in
    let new = c.hold_of.follows.lender w in
    let was = path_in old 7 c.args.path.now in
    let there = sym c.hold_of.ensures.hold ∙ ap option_copied_mut c.in-Some.is in
    let changes = (rw c.in-Some.is at c.hold_of.follows.holds) w in
    let id = c.piece.result in
    let has = holds-lent {H = MemHold} (λ _. true) (λ h. h.piece) (λ h. h.bytes) id h w was there refl c.pin.ensures.same_piece
    c.pin.ensures.same_bytes (c.requires 7 c.args.path.now) in
    holds-changed {H = MemHold} (λ _. true) (λ h. h.piece) (λ h. h.bytes) old new 7 c.args.path.now (with_hold id w was) changes
    (subst (HasHolds (λ _. true) (λ h. h.piece) (λ h. h.bytes)) (sym (at-changed old new 7 c.args.path.now (with_hold id w was) changes)) has)
    c.requires
