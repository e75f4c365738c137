-- Pending writes: what a client wrote to a path and hasn't yet committed.
use Rattle.std.specs.Prelude.{ℕ, zero, suc, ◌==◌, List, [], ◌∷◌, ◌++◌, length, Option, Some, None, if◌then◌else◌}
use Rattle.fs_types.specs.declared.answer.Answer.{Answer}
use Rattle.fs_script.specs.declared.line.OpLine.{OpLine}
use Rattle.fs_script.specs.declared.line.Op.{Op}
use Rattle.fs_script.specs.declared.line.Op.TheVariants as ops
use Rattle.fs_script.specs.Job.{Job, op_at, own_at}
use Rattle.fs_script.specs.Payload.{write_of}
use Rattle.fs_script.specs.AnswerKinds.{is_accepted, empties}

-- answers by line
abbrev pub Answering : Type 0
Answering = ℕ → Option Answer

-- the pending lines with one more at the end, if it brings bytes
abbrev pub with_write : ℕ → List ℕ → List ℕ → List ℕ
with_write n bytes q = if length bytes == 0 then q else q ++ n ∷ []

-- what is pending after line n had this answer
abbrev pub after_answer : Op → Answer → ℕ → List ℕ → List ℕ
after_answer ops.Create a n q = q
after_answer ops.Open a n q = q
after_answer (ops.Write off text) a n q = if is_accepted a then with_write n (write_of off text).bytes q else q
after_answer ops.Sync a n q = if empties a then [] else q
after_answer (ops.Read off len own) a n q = q
after_answer ops.Size a n q = q
after_answer (ops.Trunc size) a n q = if empties a then [] else q
after_answer ops.Laminate a n q = if empties a then [] else q
after_answer ops.Unlink a n q = if empties a then [] else q

-- what one line more makes of x, where step says what its operation's answer makes of it
abbrev pub one_more : {X : Type 0} → (Op → Answer → ℕ → X → X) → Option Op → Option Answer → ℕ → X → X
one_more step None a n x = x
one_more step (Some op) None n x = x
one_more step (Some op) (Some a) n x = step op a n x

-- what is pending after line n, where a client's own operation on a path may stand and may have an answer
abbrev pub pending_after : Option Op → Option Answer → ℕ → List ℕ → List ℕ
pending_after = one_more after_answer

-- what the answers before line n to client r on path p make of x, one after the other
abbrev pub over_answers : {X : Type 0} → (Op → Answer → ℕ → X → X) → X → Job → Answering → ℕ → List ℕ → ℕ → X
over_answers step x s A r p zero = x
over_answers step x s A r p (suc n) = one_more step (own_at s r p n) (A n) n (over_answers step x s A r p n)

-- the lines before line n whose writes are pending for client r on path p, in order
abbrev pub pending : Job → Answering → ℕ → List ℕ → ℕ → List ℕ
pending = over_answers after_answer []

abbrev pub pending_for : Job → Answering → ℕ → Option OpLine → List ℕ
pending_for s A n None = []
pending_for s A n (Some o) = pending s A o.rank o.path n

-- what is pending at line n, for its own client on its own path
abbrev pub pending_at : Job → Answering → ℕ → List ℕ
pending_at s A n = pending_for s A n (op_at s n)
