use Rattle.fs_types.proofs.Common.{◌≡◌, true}
use Rattle.client_map.specs.Calls.{AllHaveHolds}
use Rattle.client_map.proofs.tests.loans.writes_after_a_take_are_pending_alone.Given as goal

abbrev pub invariant-loop-line : goal.invariant-loop-line
invariant-loop-line g l = record {
  chunk : l.map.chunk ≡ 8;
  holds : AllHaveHolds (λ _. true) (λ h. h.piece) (λ h. h.bytes) l.map;
}
