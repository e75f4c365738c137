use Rattle.std.proofs.Common.{rules, sym, ◌≡◌, None}
use Rattle.piece_table.specs.PieceTable.{hold_of}
use Rattle.client_map.specs.Kept.{pending_in}
use Rattle.core_machine.specs.Pins.{either_hold}
use Rattle.core_machine.proofs.PinnedRuns.{PinsOnce-first}
use Rattle.core_machine.proofs.pins.pin_once.Goals as goal

pub returns : goal.returns
returns g c =
    let there = sym c.in-Some.ensures in
    let none : hold_of c.args.pins.now c.args.piece ≡ None = search rules in
    PinsOnce-first (either_hold (hold_of c.args.found.now) (pending_in c.args.client.now.pending c.args.p.now).hold_of) c.args.piece
    c.in-Some.hold c.args.pins.now c.enter.new.self c.args.logs.now c.pin.new.logs there
    (c.requires.theirs c.args.piece c.in-Some.hold there) none
    c.in_default-enter.ensures.numbers c.in_default-enter.ensures.holds c.pin.ensures
