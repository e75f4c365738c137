use Rattle.fs_types.proofs.Common.{◌≡◌, true}
use Rattle.client_map.specs.Calls.{AllHaveHolds}
use Rattle.client_map.proofs.tests.loans.a_take_of_nothing_is_an_empty_push.Given as goal

abbrev pub invariant-loop-path : goal.invariant-loop-path
invariant-loop-path g l = record {
  chunk : l.map.chunk ≡ 8;
  holds : AllHaveHolds (λ _. true) (λ h. h.piece) (λ h. h.bytes) l.map;
}
