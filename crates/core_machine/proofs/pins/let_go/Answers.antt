use Rattle.std.proofs.Common.{ap, ◌≡◌, drop, subst}
use Rattle.fs_types.specs.Pieces.{Fragment, Piece}
use Rattle.core_machine.specs.Pins.{LetsGoOnce}
use Rattle.core_machine.proofs.PinnedRuns.{ArePins-fewer, LetsGo-held, LetsGo-there, ArePins-none}
use Rattle.core_machine.proofs.pins.let_go.Goals as goal

pub let_go_once-requires-clause-held : goal.let_go_once-requires-clause-held
let_go_once-requires-clause-held g c =
    LetsGo-held c.args.pins.now c.loop-run.pins (drop c.loop-run.run-index c.args.runs.now) c.args.logs.now c.loop-run.logs
    c.requires.slots c.loop-run.invariant c.run.inside.piece

pub loop-run-preserved : goal.loop-run-preserved
loop-run-preserved g c =
    let piece : c.run.inside.piece ≡ c.run-item.result.piece = ap (λ (f : Fragment). f.piece) c.run.view_is in
    let h = LetsGo-there c.args.pins.now c.args.runs.now c.loop-run.run-index c.run-item.result c.loop-run-test.true c.run-item.is
    c.requires.named in
    ArePins-fewer c.args.runs.now c.loop-run.run-index c.run-item.result c.loop-run-test.true c.run-item.is c.args.pins.now
    c.loop-run.pins c.let_go_once.new.pins c.args.logs.now c.loop-run.logs c.let_go_once.new.logs c.requires.slots c.requires.once
    c.requires.held h.0 h.1 c.loop-run.invariant
    (subst (λ (q : Piece). LetsGoOnce q c.loop-run.pins c.let_go_once.new.pins c.loop-run.logs c.let_go_once.new.logs) piece
    c.let_go_once.ensures)

pub returns : goal.returns
returns g c =
    ArePins-none c.args.pins.now c.loop-run.pins c.args.runs.now c.loop-run.run-index c.args.logs.now c.loop-run.logs
    c.loop-run-test.false c.loop-run.invariant
