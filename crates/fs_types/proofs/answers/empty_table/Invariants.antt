use Rattle.fs_types.proofs.Common.{◌≡◌, [], vec_len}
use Rattle.fs_types.specs.AnswerList.{listed}
use Rattle.fs_types.proofs.answers.empty_table.Given as goal

abbrev pub invariant-loop : goal.invariant-loop
invariant-loop l = (listed 1 l.table.items ≡ []) × (vec_len l.table ≡ l.counter)
