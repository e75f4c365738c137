use Rattle.fs_types.proofs.Common.{◌≡◌, [], map, replicate}
use Rattle.core_machine.proofs.program.empty_programs.Given as goal

abbrev pub invariant-loop : goal.invariant-loop
invariant-loop l = record {
  lines : map (λ p. p.lines.items) l.programs.items ≡ replicate l.counter [];
  places : map (λ p. p.place) l.programs.items ≡ replicate l.counter 0;
}
