use Rattle.fs_types.proofs.Common.{◌≡◌, ◌-◌, map, filter, replicate, range_with_len}
use Rattle.fs_script.specs.Vocabulary.{op_at, is_of_rank}
use Rattle.core_machine.proofs.program.programs_of.Given as goal

-- each client's program has its lines before line n
abbrev pub invariant-loop-n : goal.invariant-loop-n
invariant-loop-n l = record {
  lines : map (λ p. p.lines.items) l.programs.items
      ≡ map (λ r. filter (λ m. is_of_rank r (op_at l.s m)) (range_with_len 2 (l.n - 2))) (range_with_len 0 l.s.shape.clients);
  places : map (λ p. p.place) l.programs.items ≡ replicate l.s.shape.clients 0;
}
