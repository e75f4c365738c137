-- What a line must know of: the versions that its client has seen, and the commits of earlier phases.
use Rattle.std.specs.Prelude.{ℕ, Bool, false, ◌&&◌, ◌||◌, max, nat_lt, count_by, is_some, List, Option, Some, None}
use Rattle.fs_types.specs.declared.answer.Answer.{Answer}
use Rattle.fs_script.specs.declared.line.Op.{Op}
use Rattle.fs_script.specs.Job.{Job, phase}
use Rattle.fs_script.specs.Pending.{Answering, over_answers}
use Rattle.fs_script.specs.Operations.{opens_path}
use Rattle.fs_script.specs.AnswerKinds.{version_of, done_at}

abbrev pub at_least : ℕ → Option ℕ → ℕ
at_least m None = m
at_least m (Some v) = max m v

-- the greatest version in the answers before line n to client r on path p, 0 where there is none
abbrev pub seen : Job → Answering → ℕ → List ℕ → ℕ → ℕ
seen = over_answers (λ op a n m. at_least m (version_of a)) 0

-- how many lines of a journal are of an earlier phase than line n
abbrev pub of_earlier_phases : Job → ℕ → List ℕ → ℕ
of_earlier_phases s n J = count_by (λ m. nat_lt (phase s m) (phase s n)) J

-- the least version that line n of client r on path p may print
abbrev pub front : Job → Answering → List ℕ → ℕ → List ℕ → ℕ → ℕ
front s A J r p n = max (seen s A r p n) (of_earlier_phases s n J)

-- an operation with this answer opened its path
abbrev pub opens : Op → Answer → Bool
opens op a = opens_path op && is_some (done_at a)

-- whether client r has opened path p before line n
abbrev pub is_open : Job → Answering → ℕ → List ℕ → ℕ → Bool
is_open = over_answers (λ op a n open_before. opens op a || open_before) false
