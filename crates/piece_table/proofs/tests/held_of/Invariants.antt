use Rattle.fs_types.proofs.Common.{true}
use Rattle.piece_table.specs.HeldSpans.{AreHeld, held}
use Rattle.piece_table.proofs.tests.held_of.Given as goal

abbrev pub invariant-loop-at : goal.invariant-loop-at
invariant-loop-at l = AreHeld (λ _. true) (λ h. h.piece) (λ h. h.bytes) (held l.kept)
