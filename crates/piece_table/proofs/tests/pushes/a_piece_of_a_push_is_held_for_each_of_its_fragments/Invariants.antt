use Rattle.fs_types.proofs.Common.{true}
use Rattle.piece_table.specs.HeldSpans.{AreHeld, held}
use Rattle.piece_table.proofs.tests.pushes.a_piece_of_a_push_is_held_for_each_of_its_fragments.Given as goal

abbrev pub invariant-loop-at : goal.invariant-loop-at
invariant-loop-at g l = AreHeld (λ _. true) (λ h. h.piece) (λ h. h.bytes) (held l.kept)
