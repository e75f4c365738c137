use Rattle.fs_types.proofs.Common.{◌≡◌, ◌≤◌, vec_len, vec_capacity, filter, range_with_len}
use Rattle.core_machine.specs.Vocabulary.{is_of_phase, next_in, places_of}
use Rattle.core_machine.proofs.turns.fill_ready.Given as goal

-- the clients before r that go
abbrev pub invariant-loop-r : goal.invariant-loop-r
invariant-loop-r l = record {
  going : l.ready.items ≡ filter (λ r. is_of_phase l.s l.phase (next_in (places_of l.s l.programs l.phase) r)) (range_with_len 0 l.r);
  short : vec_len l.ready ≤ l.r;
  room : vec_capacity l.ready ≡ vec_capacity l.initial.ready;
}
