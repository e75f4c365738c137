use Rattle.std.proofs.Common.{ap, sym, ◌∙◌, Some, Option, if◌then◌else◌}
use Rattle.fs_types.specs.Fragments.{piece_eq}
use Rattle.core_machine.specs.declared.plain_hold.PlainHold.{PlainHold}
use Rattle.core_machine.proofs.FoundHolds.{find-more, find-new}
use Rattle.core_machine.proofs.pins.table_of.Goals as goal

pub enter-requires-clause-new_piece : goal.enter-requires-clause-new_piece
enter-requires-clause-new_piece c =
    c.loop-hold.invariant c.hold-item.result.piece
    ∙ find-new (λ h. h.piece) c.args.holds.now c.requires.apart c.loop-hold.hold-index c.hold-item.result c.loop-hold-test.true c.hold-item.is

pub loop-hold-preserved : goal.loop-hold-preserved
loop-hold-preserved c = λ q.
    c.in_default.ensures.holds q
    ∙ ap (λ (o : Option PlainHold). if piece_eq c.hold-item.result.piece q then Some c.hold-item.result else o) (c.loop-hold.invariant q)
    ∙ sym (find-more (λ h. h.piece) c.args.holds.now c.requires.apart c.loop-hold.hold-index c.hold-item.result c.loop-hold-test.true
    c.hold-item.is q)
