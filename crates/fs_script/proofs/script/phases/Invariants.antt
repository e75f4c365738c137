use Rattle.fs_types.proofs.Common.{◌≡◌, ◌+◌, take, map, count_by, range_with_len}
use Rattle.fs_script.specs.Vocabulary.{is_barrier}
use Rattle.fs_script.proofs.script.phases.Given as goal

abbrev pub invariant-loop-line : goal.invariant-loop-line
invariant-loop-line l = record {
  table : l.phases.items ≡ map (λ k. count_by is_barrier (take k l.lines)) (range_with_len 0 (l.line-index + 1));
  phase : l.phase ≡ count_by is_barrier (take l.line-index l.lines);
}
