-- Pieces of accepted writes: how many a line writes, and how many of those that a client wrote were accepted.
use Rattle.std.specs.Prelude.{ℕ, Bool, false, nat_lt, List, length, filter, sum_by, Option, Some, None, if◌then◌else◌}
use Rattle.fs_types.specs.declared.answer.Answer.{Answer}
use Rattle.fs_script.specs.AnswerKinds.{is_accepted}
use Rattle.fs_script.specs.Job.{Job, program}
use Rattle.fs_script.specs.Payload.{parts_of, payload}
use Rattle.fs_script.specs.Pending.{Answering}

-- how many pieces line n writes
abbrev pub need : Job → ℕ → ℕ
need s n = parts_of s.shape.chunk (length (payload s n))

-- a line has an answer by which its bytes were accepted
abbrev pub was_accepted : Option Answer → Bool
was_accepted None = false
was_accepted (Some a) = is_accepted a

-- how many pieces the accepted writes among these lines have
abbrev pub accepted_pieces : Job → Answering → List ℕ → ℕ
accepted_pieces s A ns = sum_by (λ n. if was_accepted (A n) then need s n else 0) ns

-- how many pieces the accepted writes of client r before line n have
abbrev pub accepted_before : Job → Answering → ℕ → ℕ → ℕ
accepted_before s A r n = accepted_pieces s A (filter (λ k. nat_lt k n) (program s r))
