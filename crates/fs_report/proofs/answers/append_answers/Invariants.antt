use Rattle.std.proofs.Common.{◌≡◌, ◌++◌}
use Rattle.std.specs.List.{flat_map}
use Rattle.fs_script.specs.Text.{answer_line}
use Rattle.fs_report.proofs.TextLemmas.{answers_below}
use Rattle.fs_report.proofs.answers.append_answers.Given as goal

abbrev pub invariant-loop-n : goal.invariant-loop-n
invariant-loop-n l = l.out.items ≡ l.fn.out.items ++ flat_map answer_line (answers_below l.n l.answers.list)
