use Rattle.fs_types.proofs.Common.{◌≡◌, true}
use Rattle.client_map.specs.Calls.{AllHaveHolds}
use Rattle.client_map.proofs.tests.random.random_writes_give_what_plain_arrays_give.Given as goal

abbrev pub invariant-loop-line : goal.invariant-loop-line
invariant-loop-line g l = record {
  chunk : l.map.chunk ≡ 8;
  holds : AllHaveHolds (λ _. true) (λ h. h.piece) (λ h. h.bytes) l.map;
}

abbrev pub invariant-loop-round : goal.invariant-loop-round
invariant-loop-round g l = record {
  chunk : l.map.chunk ≡ 8;
  holds : AllHaveHolds (λ _. true) (λ h. h.piece) (λ h. h.bytes) l.map;
}
