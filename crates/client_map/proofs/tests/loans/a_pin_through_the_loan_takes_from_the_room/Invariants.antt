use Rattle.fs_types.proofs.Common.{◌≡◌, true}
use Rattle.client_map.specs.Calls.{AllHaveHolds}
use Rattle.client_map.proofs.tests.loans.a_pin_through_the_loan_takes_from_the_room.Given as goal

abbrev pub invariant-loop-part : goal.invariant-loop-part
invariant-loop-part g l = record {
  chunk : l.map.chunk ≡ 8;
  holds : AllHaveHolds (λ _. true) (λ h. h.piece) (λ h. h.bytes) l.map;
}

abbrev pub invariant-loop-pinned : goal.invariant-loop-pinned
invariant-loop-pinned g l = record {
  chunk : l.map.chunk ≡ 8;
  holds : AllHaveHolds (λ _. true) (λ h. h.piece) (λ h. h.bytes) l.map;
}
