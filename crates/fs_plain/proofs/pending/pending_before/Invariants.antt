use Rattle.std.proofs.Common.{◌≡◌}
use Rattle.fs_types.specs.AnswerList.{answer_at}
use Rattle.fs_script.specs.Pending.{pending}
use Rattle.fs_plain.proofs.pending.pending_before.Given as goal

abbrev pub invariant-loop-m : goal.invariant-loop-m
invariant-loop-m l = l.pending.items ≡ pending l.s (answer_at l.a.list) l.r l.p l.m
