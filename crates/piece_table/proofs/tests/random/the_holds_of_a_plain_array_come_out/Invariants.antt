use Rattle.fs_types.proofs.Common.{true}
use Rattle.piece_table.specs.HeldSpans.{AreHeld, held}
use Rattle.piece_table.proofs.tests.random.the_holds_of_a_plain_array_come_out.Given as goal

abbrev pub invariant-loop-line : goal.invariant-loop-line
invariant-loop-line g l = AreHeld (λ _. true) (λ h. h.piece) (λ h. h.bytes) (held l.kept)
