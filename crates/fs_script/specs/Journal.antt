-- Legal journals: each accepted committing line of a path once, in an order that its clients could have seen.
use Rattle.std.specs.Prelude.{◌≡◌, ℕ, suc, ◌<◌, ◌≤◌, Bool, true, List, Option, Some, None, if◌then◌else◌}
use Rattle.std.specs.List.{slice_get, Contains}
use Rattle.std.specs.Str.{bytes_eq}
use Rattle.fs_types.specs.declared.answer.Answer.{Answer}
use Rattle.fs_script.specs.declared.line.OpLine.{OpLine}
use Rattle.fs_script.specs.declared.line.Op.{Op}
use Rattle.fs_script.specs.Job.{Job, op_at, rank_at, phase}
use Rattle.fs_script.specs.Pending.{Answering, pending}
use Rattle.fs_script.specs.Operations.{commits}
use Rattle.fs_script.specs.AnswerKinds.{done_at}
use Rattle.fs_script.specs.Effect.{is_enabled, state}

-- the journals by path
abbrev pub JournalsByPath : Type 0
JournalsByPath = List ℕ → List ℕ

-- the version of an operation that was committed, with these lines pending and this answer
abbrev pub commit_of : Op → List ℕ → Answer → Option ℕ
commit_of op q a = if commits op q then done_at a else None

abbrev pub commit_by : Op → List ℕ → Option Answer → Option ℕ
commit_by op q None = None
commit_by op q (Some a) = commit_of op q a

abbrev pub commit_in : Job → Answering → List ℕ → ℕ → Option OpLine → Option ℕ
commit_in s A p n None = None
commit_in s A p n (Some o) = if bytes_eq o.path p then commit_by o.op (pending s A o.rank o.path n) (A n) else None

-- the version that line n printed, where it is an accepted committing line of path p
abbrev pub committed : Job → Answering → List ℕ → ℕ → Option ℕ
committed s A p n = commit_in s A p n (op_at s n)

abbrev pub enabled_in : Option OpLine → (Op → Bool) → Bool
enabled_in None test = true
enabled_in (Some o) test = test o.op

-- line n may stand at place k of the journal, whose first place is 0
pub record IsLegalEntry (s : Job) (A : Answering) (p : List ℕ) (J : List ℕ) (k n : ℕ) : Type 0 where
  -- it is an accepted committing line of the path, and its version is its place
  pub committed : committed s A p n ≡ Some (suc k)
  pub once : (i : ℕ) → slice_get J i ≡ Some n → i ≡ k
  -- what its client committed before stands before it
  pub rising : (i m : ℕ) → i < k → slice_get J i ≡ Some m → rank_at s m ≡ rank_at s n → m < n
  pub phases : (i m : ℕ) → i < k → slice_get J i ≡ Some m → phase s m ≤ phase s n
  pub enabled : enabled_in (op_at s n) (λ op. is_enabled op (state s A J k)) ≡ true

-- each entry is legal, and each accepted committing line of the path is an entry
pub record IsLegalJournal (s : Job) (A : Answering) (p : List ℕ) (J : List ℕ) : Type 0 where
  pub entries : (k n : ℕ) → slice_get J k ≡ Some n → IsLegalEntry s A p J k n
  pub whole : (n v : ℕ) → committed s A p n ≡ Some v → Contains J n
