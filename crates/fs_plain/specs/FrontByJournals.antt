-- The front of a line, by the journals of a report.
use Rattle.std.specs.Prelude.{ℕ, List, Option, Some, None}
use Rattle.fs_script.specs.declared.line.OpLine.{OpLine}
use Rattle.fs_script.specs.Job.{Job, op_at}
use Rattle.fs_script.specs.Pending.{Answering}
use Rattle.fs_script.specs.Front.{front}
use Rattle.fs_script.specs.Report.{journal_of}

abbrev pub front_for : Job → Answering → List (List ℕ × List ℕ) → ℕ → Option OpLine → ℕ
front_for s A journals n None = 0
front_for s A journals n (Some o) = front s A (journal_of journals o.path) o.rank o.path n

-- the front of line n, for its own client on its own path; 0 where it is no operation
abbrev pub front_at : Job → Answering → List (List ℕ × List ℕ) → ℕ → ℕ
front_at s A journals n = front_for s A journals n (op_at s n)
