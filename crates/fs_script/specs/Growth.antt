-- How the answers and the journals of a job grow: by one answer at a time, and one line at a journal's end.
use Rattle.std.specs.Prelude.{◌≡◌, ◌≢◌, ℕ, ◌<◌, ◌≤◌, List, Some, None, IsSome}
use Rattle.std.specs.List.{AllByRecursion}
use Rattle.fs_types.specs.declared.answer.Answer.{Answer}
use Rattle.fs_script.specs.declared.line.OpLine.{OpLine}
use Rattle.fs_script.specs.Job.{Job, op_at, own_at, rank_at, phase}
use Rattle.fs_script.specs.Pending.{Answering, pending_at}
use Rattle.fs_script.specs.Fits.{Fits}

-- the answers agree at the lines of client r on path p before line n
abbrev pub AgreeBefore : Job → ℕ → List ℕ → Answering → Answering → ℕ → Type 0
AgreeBefore s r p A B n = (k : ℕ) → k < n → IsSome (own_at s r p k) → A k ≡ B k

-- B has the answer a to line n, and else the answers that A has
pub record AddsAnswer (A : Answering) (n : ℕ) (a : Answer) (B : Answering) : Type 0 where
  pub added : B n ≡ Some a
  pub others : (k : ℕ) → k ≢ n → B k ≡ A k

-- line n has no answer, and every line of its client that has one stands before it
pub record ComesNext (s : Job) (A : Answering) (n : ℕ) : Type 0 where
  pub fresh : A n ≡ None
  pub last : (m : ℕ) (a : Answer) → A m ≡ Some a → rank_at s m ≡ rank_at s n → m < n

-- line n is of no earlier phase than these lines
abbrev pub IsOfNoEarlierPhase : Job → ℕ → List ℕ → Type 0
IsOfNoEarlierPhase s n J = AllByRecursion (λ m. phase s m ≤ phase s n) J

-- nothing pending at any of these lines differs
abbrev pub SamePending : Job → Answering → Answering → List ℕ → Type 0
SamePending s A B J = AllByRecursion (λ m. pending_at s A m ≡ pending_at s B m) J

-- each answer on the path fits this journal
pub record AllFit (told : List ℕ) (s : Job) (A : Answering) (p : List ℕ) (J : List ℕ) : Type 0 where
  pub each : (n : ℕ) (o : OpLine) (a : Answer) → op_at s n ≡ Some o → o.path ≡ p → A n ≡ Some a → Fits told s A J n o a
