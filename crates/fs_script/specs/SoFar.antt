-- Jobs that are legal so far, while some of their lines are answered.
use Rattle.std.specs.Prelude.{◌≡◌, ◌≢◌, ℕ, ◌≤◌, List, [], ◌∷◌, ◌++◌, Some, IsSome}
use Rattle.fs_types.specs.declared.answer.Answer.{Answer}
use Rattle.fs_script.specs.declared.line.OpLine.{OpLine}
use Rattle.fs_script.specs.Job.{Job, op_at, phase}
use Rattle.fs_script.specs.Pending.{Answering}
use Rattle.fs_script.specs.Journal.{JournalsByPath, IsLegalJournal}
use Rattle.fs_script.specs.Growth.{AddsAnswer, ComesNext, AllFit}

-- each path's journal is legal, and each answer so far fits the journal of its path
pub record IsLegalSoFar (told : List ℕ) (s : Job) (A : Answering) (journals : JournalsByPath) : Type 0 where
  pub legal : (p : List ℕ) → IsLegalJournal s A p (journals p)
  pub fit : (p : List ℕ) → AllFit told s A p (journals p)

-- B adds the answer a to line n, which does o, comes next for its client, and is of no earlier phase than the lines answered
pub record IsNextAnswer (s : Job) (A : Answering) (n : ℕ) (o : OpLine) (a : Answer) (B : Answering) : Type 0 where
  pub op : op_at s n ≡ Some o
  pub adds : AddsAnswer A n a B
  pub next : ComesNext s A n
  pub phases : (m : ℕ) → IsSome (A m) → phase s m ≤ phase s n

-- the journals with line n at the end of that of path p
pub record Pushes (journals : JournalsByPath) (p : List ℕ) (n : ℕ) (after : JournalsByPath) : Type 0 where
  pub here : after p ≡ journals p ++ n ∷ []
  pub others : (q : List ℕ) → p ≢ q → after q ≡ journals q
