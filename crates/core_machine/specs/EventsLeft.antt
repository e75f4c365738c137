-- How many events a run may still have, at the most: each event leaves fewer.
use Rattle.std.specs.Prelude.{ℕ, ◌+◌, ◌-◌, List, length, drop, sum_by, Option, Some, None}
use Rattle.std.specs.List.{range_with_len}
use Rattle.fs_script.specs.declared.line.Op.{Op}
use Rattle.fs_script.specs.declared.line.Op.TheVariants as ops
use Rattle.fs_script.specs.declared.line.OpLine.{OpLine}
use Rattle.fs_script.specs.Vocabulary.{Job, op_at, program, runs}
use Rattle.core_machine.specs.Doing.{Doing, nothing, reading}
use Rattle.core_machine.specs.Moment.{Client, Moment, client_of}

-- the most events of an operation: a read looks up, fetches at most each byte by itself, and finishes
abbrev pub most_events : Op → ℕ
most_events ops.Create = 1
most_events ops.Open = 1
most_events (ops.Write off text) = 1
most_events ops.Sync = 1
most_events (ops.Read off len own) = len + 2
most_events ops.Size = 1
most_events (ops.Trunc n) = 1
most_events ops.Laminate = 1
most_events ops.Unlink = 1

abbrev pub most_events_in : Option OpLine → ℕ
most_events_in None = 0
most_events_in (Some o) = most_events o.op

-- those of these lines
abbrev pub most_events_of : Job → List ℕ → ℕ
most_events_of s ns = sum_by (λ n. most_events_in (op_at s n)) ns

-- those of a client that is in the midst of a line, the first of these, or of nothing
abbrev pub left_in : Job → Doing → List ℕ → ℕ
left_in s nothing ns = most_events_of s ns
left_in s (reading d) ns = length (runs d.marks) - d.fetched + 1 + most_events_of s (drop 1 ns)

abbrev pub left_for : Job → ℕ → Client → ℕ
left_for s r c = left_in s c.doing (drop c.place (program s r))

abbrev pub events_left : Moment → ℕ
events_left m = sum_by (λ r. left_for m.job r (client_of m r)) (range_with_len 0 m.job.shape.clients)
