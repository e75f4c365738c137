use Rattle.std.proofs.Common.{arith, ap, ◌≡◌, take, subst, sym, is_some, IsSome, if◌then◌else◌, Option}
use Rattle.fs_types.specs.Pieces.{Fragment, Piece}
use Rattle.piece_table.specs.PieceTable.{hold_of}
use Rattle.fs_script.proofs.CallerLemmas.{some_of}
use Rattle.core_machine.specs.declared.plain_hold.PlainHold.{PlainHold}
use Rattle.client_map.specs.Kept.{pending_in}
use Rattle.core_machine.specs.Pins.{PinsOnce, either_hold, no_count}
use Rattle.core_machine.proofs.PinnedRuns.{ArePins-more, if_some, pinned-counted, pinned-few, pinned-held}
use Rattle.core_machine.proofs.pins.pin_runs.Goals as goal

pub pin_once-requires-clause-counted : goal.pin_once-requires-clause-counted
pin_once-requires-clause-counted g c =
    let hold_at = either_hold (hold_of c.args.found.now) (pending_in c.args.client.now.pending c.args.p.now).hold_of in
    pinned-counted no_count hold_at (take c.loop-run.run-index c.args.runs.now) c.loop-run.pins c.args.logs.now c.loop-run.logs
    c.loop-run.invariant c.run.inside.piece

pub pin_once-requires-clause-held : goal.pin_once-requires-clause-held
pin_once-requires-clause-held g c = λ none.
    let hold_at = either_hold (hold_of c.args.found.now) (pending_in c.args.client.now.pending c.args.p.now).hold_of in
    if_some (hold_at c.run.inside.piece) _
    (pinned-held no_count hold_at (take c.loop-run.run-index c.args.runs.now) c.loop-run.pins c.args.logs.now c.loop-run.logs
    c.loop-run.invariant c.requires.slots c.run.inside.piece (omega arith))

pub pin_once-requires-clause-few : goal.pin_once-requires-clause-few
pin_once-requires-clause-few g c = λ none.
    let hold_at = either_hold (hold_of c.args.found.now) (pending_in c.args.client.now.pending c.args.p.now).hold_of in
    if_some (hold_at c.run.inside.piece) _ (λ h is.
    let same = pinned-few no_count hold_at (take c.loop-run.run-index c.args.runs.now) c.loop-run.pins c.args.logs.now c.loop-run.logs
    c.loop-run.invariant c.run.inside.piece c.requires.slots (ap (λ (o : Option PlainHold). if is_some o then 1 else 0) none) h is in
    let few = c.requires.few h.rank h.slot in
    omega (arith, same, few))

pub loop-run-preserved : goal.loop-run-preserved
loop-run-preserved g c =
    let hold_at = either_hold (hold_of c.args.found.now) (pending_in c.args.client.now.pending c.args.p.now).hold_of in
    let piece : c.run.inside.piece ≡ c.run-item.result.piece = ap (λ (f : Fragment). f.piece) c.run.view_is in
    let there : IsSome (hold_at c.run-item.result.piece) =
    subst (λ (f : Fragment). IsSome (hold_at f.piece)) (sym c.run-item.is)
    (c.requires.named c.loop-run.run-index c.run-item.result c.loop-run-test.true) in
    let h = some_of (hold_at c.run-item.result.piece) there in
    ArePins-more c.args.runs.now c.loop-run.run-index c.run-item.result c.loop-run-test.true c.run-item.is hold_at c.loop-run.pins
    c.pin_once.new.pins c.args.logs.now c.loop-run.logs c.pin_once.new.logs c.requires.slots c.requires.once c.requires.held h.0 h.1
    c.loop-run.invariant
    (subst (λ (q : Piece). PinsOnce hold_at q c.loop-run.pins c.pin_once.new.pins c.loop-run.logs c.pin_once.new.logs) piece
    c.in_ok-pin_once.ensures)
