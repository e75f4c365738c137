-- When what the core keeps for the paths of a job stands for the answers so far. What is kept for a client stands for them
-- as seen from the script's end: a line without an answer changes nothing there, so no client's place comes in.
use Rattle.std.specs.Prelude.{◌≡◌, ℕ, ◌^◌, ◌<◌, ◌≤◌, ◌+◌, true, false, nat_lt, count_by, List, length}
use Rattle.std.specs.Prelude.{slice_index, is_some, IsSome, IfSome, None, Some, slice_get}
use Rattle.std.specs.List.{AllByRecursion}
use Rattle.slot_plain.specs.Log.{Log}
use Rattle.fs_script.specs.Vocabulary.{Given, answer_at, Job, Piece, need, op_at, own_at, phase, Answering}
use Rattle.fs_script.specs.Vocabulary.{pending, marks_at, is_open, seen, past_lines, ArePaths}
use Rattle.fs_script.specs.declared.line.OpLine.{OpLine}
use Rattle.core_machine.specs.ClientPath.{ClientPath}
use Rattle.core_machine.specs.declared.task.Task.{Task}
use Rattle.core_machine.specs.Event.{known_of}
use Rattle.core_machine.specs.BookFiles.{IsFile}
use Rattle.core_machine.specs.Follows.{KnowsLookedUp, LookedUpWithin, MayBeIn}
use Rattle.core_machine.specs.Kept.{OwnedPath, PathState, file_hold, file_marks, pending_hold, pending_lines}
use Rattle.core_machine.specs.LegalSoFar.{CanRun, IsAnsweredUpTo}
use Rattle.core_machine.specs.Logs.{HoldsStand}
use Rattle.core_machine.specs.MomentKept.{moment_of}
use Rattle.core_machine.specs.PendingWrites.{ArePending}
use Rattle.core_machine.specs.Slots.{holds_of}
use Rattle.core_machine.specs.StandingLogs.{StandsForLogs}
use Rattle.core_machine.specs.Task.{IsTask, task_hold}
use Rattle.core_machine.specs.Turns.{Places, next_in}

-- a piece of a line that was answered, of client r on path p
pub record IsPieceBy (s : Job) (A : Answering) (r : ℕ) (p : List ℕ) (q : Piece) : Type 0 where
  pub own : IsSome (own_at s r p q.line)
  pub answered : IsSome (A q.line)
  pub part : q.part < need s q.line

-- of some client
pub record IsPieceOn (s : Job) (A : Answering) (p : List ℕ) (q : Piece) : Type 0 where
  pub client : ℕ
  pub by_client : IsPieceBy s A client p q

-- the owner's part: all lines of the journal were answered, the file is what they make, of pieces that were written to the
-- path, and all clients were told how many lines of it are of earlier phases than the run's, with what is known of the file then
pub record StandsForOwner (s : Job) (A : Answering) (now : ℕ) (p : List ℕ) (x : OwnedPath) : Type 0 where
  pub answered : AllByRecursion (λ m. IsSome (A m)) x.path.journal
  pub written : IfSome x.path.file IsFile
  pub marks : file_marks x.path.file ≡ marks_at s A x.path.journal (length x.path.journal)
  pub pieces : (q : Piece) → is_some (file_hold x.path.file q) ≡ true → IsPieceOn s A p q
  pub told : x.told.version ≡ count_by (λ m. nat_lt (phase s m) now) x.path.journal
  pub known : x.told.attr ≡ known_of (marks_at s A x.path.journal x.told.version)

-- client r's part of path p: whether it is open, what is pending, of pieces that the client wrote to the path and that aren't in
-- the file, and the greatest version seen with what is known of the file
pub record StandsForClient (s : Job) (A : Answering) (r : ℕ) (p : List ℕ) (x : OwnedPath) (k : ClientPath) : Type 0 where
  pub opened : k.is_open ≡ is_open s A r p (past_lines s)
  pub pending : pending_lines k ≡ pending s A r p (past_lines s)
  pub whole : ArePending s k.pending
  pub pieces : (q : Piece) → is_some (pending_hold k q) ≡ true → IsPieceBy s A r p q
  pub apart : (q : Piece) → is_some (pending_hold k q) ≡ true → file_hold x.path.file q ≡ None
  pub seen : k.noted.version ≡ seen s A r p (past_lines s)
  pub within : k.noted.version ≤ length x.path.journal
  pub known : k.noted.attr ≡ known_of (marks_at s A x.path.journal k.noted.version)

-- all that is kept for path p
pub record Stands (s : Job) (A : Answering) (now : ℕ) (p : List ℕ) (x : PathState) : Type 0 where
  pub owned : StandsForOwner s A now p x.owned
  pub sized : length x.clients ≡ s.shape.clients
  pub clients : (r : ℕ) (k : ClientPath) → slice_get x.clients r ≡ Some k → StandsForClient s A r p x.owned k

-- each hold that is kept for a path is of a slot that has its piece
pub record HoldsOfPath (s : Job) (logs : List Log) (x : PathState) : Type 0 where
  pub files : HoldsStand s logs (file_hold x.owned.path.file)
  pub pending : (r : ℕ) (k : ClientPath) → slice_get x.clients r ≡ Some k → HoldsStand s logs (pending_hold k)

-- what client r is in the midst of is whole, each of its holds is of a slot that has its piece, and its next line is one that
-- has several events
pub record StandsForTask (s : Job) (turns : Places) (logs : List Log) (r : ℕ) (t : Task) : Type 0 where
  pub task : IsTask s t
  pub pins : HoldsStand s logs (task_hold t)
  pub line : (n : ℕ) (o : OpLine) → next_in turns r ≡ Some n → op_at s n ≡ Some o → MayBeIn o.op t

-- the version that a client looked up is one of the journal of its next line's path, and the attributes are those of the file then
pub record StandsForLookUp (s : Job) (A : Answering) (x : OwnedPath) (t : Task) : Type 0 where
  pub within : LookedUpWithin t (length x.path.journal)
  pub known : KnowsLookedUp (λ v. known_of (marks_at s A x.path.journal v)) t

-- ---- all that is kept

-- the paths of the job and what is kept for each, the answers, whose turn it is, what each client is in the midst of, and the logs
pub record Holds (s : Job) (paths : List (List ℕ)) (states : List PathState) (answers : Given) (turns : Places) (tasks : List Task)
    (logs : List Log) : Type 0 where
  pub job : CanRun s
  pub same : turns.job ≡ s
  pub named : ArePaths s paths
  pub kept : length states ≡ length paths
  pub clients : length turns.places ≡ s.shape.clients
  pub tasked : length tasks ≡ s.shape.clients
  pub few : s.shape.clients < 2 ^ 32
  pub room : answers.lines ≡ length s.lines + 1
  -- each client's lines were answered up to its place, and no line of a later phase than the run's
  pub upto : (r : ℕ) → r < s.shape.clients → IsAnsweredUpTo s (answer_at answers.list) r (slice_index turns.places r)
  pub past : (m : ℕ) → IsSome (answer_at answers.list m) → phase s m ≤ turns.phase
  pub each : (i : ℕ) (p : List ℕ) (x : PathState) → slice_get paths i ≡ Some p → slice_get states i ≡ Some x
      → Stands s (answer_at answers.list) turns.phase p x
  pub path_holds : (i : ℕ) (x : PathState) → slice_get states i ≡ Some x → HoldsOfPath s logs x
  pub tasks_stand : (r : ℕ) (t : Task) → slice_get tasks r ≡ Some t → StandsForTask s turns logs r t
  pub looked_up : (r : ℕ) (t : Task) (n i : ℕ) (o : OpLine) (x : PathState) → slice_get tasks r ≡ Some t → next_in turns r ≡ Some n
      → op_at s n ≡ Some o → slice_get paths i ≡ Some o.path → slice_get states i ≡ Some x
      → StandsForLookUp s (answer_at answers.list) x.owned t
  pub logs_stand : StandsForLogs s (answer_at answers.list) (holds_of (moment_of s paths states answers turns tasks logs false)) logs
