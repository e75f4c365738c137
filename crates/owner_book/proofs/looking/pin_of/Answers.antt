use Rattle.fs_types.proofs.Common.{◌≡◌, ◌∙◌, sym, ap, Some}
use Rattle.std.specs.Option.{option_copied_mut}
use Rattle.piece_table.specs.HeldSpans.{SetsHold}
use Rattle.piece_table.specs.PieceTable.{hold_of}
use Rattle.piece_table.proofs.CallerLemmas.{AreHeld-lent}
use Rattle.owner_book.specs.Lookups.{IsAskedFor, IsLike, IsRefused}
use Rattle.owner_book.proofs.Paths.{OnErr-map, OnOk-map}
use Rattle.owner_book.proofs.Pins.{becomes-lent}
use Rattle.owner_book.proofs.looking.pin_of.Goals as goal
use Rattle.owner_book.proofs.looking.pin_of.Goals.{After-pin}
use Rattle.owner_book.proofs.looking.pin_of.Given.{Over}

-- the hold that was asked, and what the pin left of it
was : (g : Over) (c : After-pin g) → hold_of c.args.kept.now.pieces c.args.p ≡ Some c.in-Some.hold.now
was g c = sym c.hold_of.ensures.hold ∙ ap option_copied_mut c.in-Some.is

sets : (g : Over) (c : After-pin g) → SetsHold c.args.p c.pin.new.self c.args.kept.now (c.hold_of.follows.lender c.pin.new.self)
sets g c = (rw c.in-Some.is at c.hold_of.follows.holds) c.pin.new.self

like : (g : Over) (c : After-pin g) → IsLike g.H.Hold c.in-Some.hold.now c.pin.new.self
like g c = record {
  ready = c.pin.ensures.ready;
  piece = c.pin.ensures.same_piece;
  bytes = c.pin.ensures.same_bytes;
  place = c.pin.ensures.same_place;
}

pub returns-clause-asks : goal.returns-clause-asks
returns-clause-asks g c =
    let at = (goal.at.returns-clause-asks g c).After-pin in
    OnOk-map c.pin.result (λ lowered. becomes-lent (IsAskedFor g.H.Hold c.args.given) c.args.p c.in-Some.hold.now c.pin.new.self
    c.args.kept.now (c.hold_of.follows.lender c.pin.new.self) (sets g at) (was g at) (record { like = like g at; room = lowered }))
    c.pin.ensures.lowered

pub returns-clause-refused : goal.returns-clause-refused
returns-clause-refused g c =
    let at = (goal.at.returns-clause-refused g c).After-pin in
    OnErr-map c.pin.result (λ same. becomes-lent (IsRefused g.H.Hold) c.args.p c.in-Some.hold.now c.pin.new.self
    c.args.kept.now (c.hold_of.follows.lender c.pin.new.self) (sets g at) (was g at) (record { like = like g at; room = same }))
    c.pin.ensures.same_room

pub returns-clause-held : goal.returns-clause-held
returns-clause-held g c =
    let at = (goal.at.returns-clause-held g c).After-pin in
    AreHeld-lent c.args.p c.pin.new.self c.args.kept.now (c.hold_of.follows.lender c.pin.new.self) (sets g at) g.H.Hold.is_ready
    g.H.Hold.piece g.H.Hold.bytes c.in-Some.hold.now (was g at) c.requires.held c.pin.ensures.ready c.pin.ensures.same_piece
    c.pin.ensures.same_bytes
