use Rattle.std.proofs.Common.{◌≡◌}
use Rattle.fs_types.specs.AnswerList.{answer_at}
use Rattle.fs_script.specs.Front.{seen}
use Rattle.fs_plain.proofs.front.seen.Given as goal

abbrev pub invariant-loop-m : goal.invariant-loop-m
invariant-loop-m l = l.most ≡ seen l.s (answer_at l.a.list) l.r l.p l.m
