-- Which answer a line may have, for a journal of its path: the table of answers.
use Rattle.std.specs.Prelude.{◌≡◌, ℕ, zero, suc, ◌+◌, ◌-◌, ◌≤◌, ◌<◌, nat_le, Bool, not, IsTrue, List, length, take, Option, Some, None}
use Rattle.std.specs.Prelude.{IsSome, IsNone, IfSome, ◌⊎◌, MatchBool, if◌then◌else◌}
use Rattle.std.specs.List.{slice_get, AllByRecursion, Contains}
use Rattle.md5.specs.Md5.{md5}
use Rattle.fs_types.specs.declared.answer.Answer.{Answer}
use Rattle.fs_types.specs.declared.answer.Answer.TheVariants as answers
use Rattle.fs_types.specs.declared.answer.Body.{Body}
use Rattle.fs_types.specs.declared.answer.Body.TheVariants as bodies
use Rattle.fs_types.specs.declared.limits.TheConstants.{LONGEST_FILE, HEX_LIMIT}
use Rattle.fs_types.specs.Overwrite.{shown}
use Rattle.fs_types.specs.PlainFile.{File, is_open_to_change, is_frozen}
use Rattle.fs_script.specs.declared.line.OpLine.{OpLine}
use Rattle.fs_script.specs.declared.line.Op.{Op}
use Rattle.fs_script.specs.Job.{Job, rank_at, phase}
use Rattle.fs_script.specs.Payload.{Write, bytes_of, brought, parts_of}
use Rattle.fs_script.specs.Accepted.{accepted_before}
use Rattle.fs_script.specs.Operations.{Range, asked, asks_size, needs_open, needs_file, needs_no_file, needs_unfrozen, commits, finds_file}
use Rattle.fs_script.specs.AnswerKinds.{version_of, is_badf}
use Rattle.fs_script.specs.Pending.{Answering, pending}
use Rattle.fs_script.specs.Effect.{view_of, state}
use Rattle.fs_script.specs.Front.{front, is_open}

-- a line of a client's phase or an earlier one, and no later line of that client
pub record IsNoLater (s : Job) (r n m : ℕ) : Type 0 where
  pub phase : phase s m ≤ phase s n
  pub own : rank_at s m ≡ Some r → m ≤ n

-- a version that line n may print: at least its front, at most the journal's length, and of no later line
pub record IsInReach (s : Job) (A : Answering) (J : List ℕ) (n : ℕ) (o : OpLine) (v : ℕ) : Type 0 where
  pub front : front s A J o.rank o.path n ≤ v
  pub length : v ≤ length J
  pub no_later : AllByRecursion (λ m. IsNoLater s o.rank n m) (take v J)

-- the line that made version v of a journal
abbrev pub entry : List ℕ → ℕ → Option ℕ
entry J zero = None
entry J (suc k) = slice_get J k

-- whether the bytes that a line shows are compared: nothing is spilled, or every client's device tells its bytes
abbrev pub AreTold : Job → List ℕ → Type 0
AreTold s told = (s.shape.spill ≡ 0) ⊎ ((r : ℕ) → r < s.shape.clients → Contains told r)

-- how an answer shows some bytes: as they are, or by their digest where they are more
abbrev pub body_of : List ℕ → Body
body_of bytes = if nat_le (length bytes) HEX_LIMIT then bodies.Hex bytes else bodies.Md5 (md5 bytes)

-- n and the body are those of the bytes shown
pub record Shows (compared : Type 0) (bytes : List ℕ) (n : ℕ) (body : Body) : Type 0 where
  pub count : n ≡ length bytes
  pub same : compared → body ≡ body_of bytes

-- BadF comes exactly where the path isn't open, at an operation that needs it open
abbrev pub AgreesWithOpen : Op → Bool → Answer → Type 0
AgreesWithOpen op is_open a = MatchBool (needs_open op) (is_badf a ≡ not is_open) (Unit {0})

-- what a line's answer is checked against: its number, its path's journal and file at each version, its front, and the
-- pending lines, with what the client sees of a file, alone or with these put over it; the bytes of a slot, how many slots its
-- client's log has, and how many pieces that client's earlier accepted writes have
pub record LineView : Type 0 where
  pub number : ℕ
  pub journal : List ℕ
  pub file : ℕ → File ℕ
  pub front : ℕ
  pub pending : List ℕ
  pub sees : Bool → File ℕ → File ℕ
  pub chunk : ℕ
  pub slots : ℕ
  pub accepted : ℕ

abbrev pub line_view : Job → Answering → List ℕ → ℕ → OpLine → LineView
line_view s A J n o = record {
  number = n;
  journal = J;
  file = state s A J;
  front = front s A J o.rank o.path n;
  pending = pending s A o.rank o.path n;
  sees = λ own. view_of s (bytes_of s) own (pending s A o.rank o.path n);
  chunk = s.shape.chunk;
  slots = s.shape.shmem + s.shape.spill;
  accepted = accepted_before s A o.rank n;
}

-- the file at the front may be written
abbrev pub MayWrite : LineView → Type 0
MayWrite w = IsTrue (is_open_to_change (w.file w.front))

-- a line that brings bytes is refused by what its client knows, so its version is the front
abbrev pub IsAtFront : LineView → Option Write → ℕ → Type 0
IsAtFront w None v = Unit {0}
IsAtFront w (Some x) v = v ≡ w.front

-- a write is accepted, and has so many parts
abbrev pub Accepts : LineView → Option Write → ℕ → Type 0
Accepts w None slots = ⊥
Accepts w (Some x) slots = MayWrite w × (x.at + length x.bytes ≤ LONGEST_FILE) × (slots ≡ parts_of w.chunk (length x.bytes))

-- a write would end past the longest file
abbrev pub EndsPast : LineView → Option Write → Type 0
EndsPast w None = ⊥
EndsPast w (Some x) = MayWrite w × (LONGEST_FILE < x.at + length x.bytes)

-- a write needs more slots than are free: those that are not hold pieces of its client's earlier writes
pub record NeedsMore (w : LineView) (x : Write) (needed unheld : ℕ) : Type 0 where
  pub may_write : MayWrite w
  pub end : x.at + length x.bytes ≤ LONGEST_FILE
  pub need : needed ≡ parts_of w.chunk (length x.bytes)
  pub few : unheld < needed
  pub within : unheld ≤ w.slots
  pub held : w.slots - unheld ≤ w.accepted

abbrev pub LacksSpace : LineView → Option Write → ℕ → ℕ → Type 0
LacksSpace w None need free = ⊥
LacksSpace w (Some x) need free = NeedsMore w x need free

-- this range of a file is shown, where there is a file
abbrev pub ShowsRange : Type 0 → Range → File ℕ → ℕ → Body → Type 0
ShowsRange compared x None n body = ⊥
ShowsRange compared x (Some f) n body = Shows compared (shown f.cells x.off x.len) n body

-- the range that is asked for is shown of what the client sees of the file
abbrev pub ShowsAsked : Type 0 → LineView → Option Range → File ℕ → ℕ → Body → Type 0
ShowsAsked compared w None f n body = ⊥
ShowsAsked compared w (Some x) f n body = ShowsRange compared x (w.sees x.own f) n body

-- a file is there, has so many bytes, and is frozen or not
abbrev pub IsSized : File ℕ → ℕ → Bool → Type 0
IsSized None n frozen = ⊥
IsSized (Some f) n frozen = (n ≡ length f.cells) × (frozen ≡ f.frozen)

-- the table: each answer, the operations that may have it, and where; no operation stages a file, and nothing is spilled
abbrev pub IsInTable : Type 0 → LineView → Op → Answer → Type 0
IsInTable compared w op (answers.Done v) =
    MatchBool (commits op w.pending) (entry w.journal v ≡ Some w.number) (IsTrue (finds_file op) × IsSome (w.file v))
IsInTable compared w op (answers.Wrote slots) = Accepts w (brought op) slots
IsInTable compared w op (answers.Staged v n slots) = ⊥
IsInTable compared w op (answers.Sized v n frozen) = IsTrue (asks_size op) × IsSized (w.file v) n frozen
IsInTable compared w op (answers.Shown v n body) = ShowsAsked compared w (asked op) (w.file v) n body
IsInTable compared w op answers.BadF = IsTrue (needs_open op)
IsInTable compared w op (answers.Exists v) = IsTrue (needs_no_file op) × IsSome (w.file v)
IsInTable compared w op (answers.NoEnt v) = IsTrue (needs_file op) × IsAtFront w (brought op) v × IsNone (w.file v)
IsInTable compared w op (answers.ReadOnly v) =
    IsTrue (needs_unfrozen op w.pending) × IsAtFront w (brought op) v × IsTrue (is_frozen (w.file v))
IsInTable compared w op answers.TooBig = EndsPast w (brought op)
IsInTable compared w op (answers.TooBigAt v) = ⊥
IsInTable compared w op (answers.NoSpace need free) = LacksSpace w (brought op) need free
IsInTable compared w op (answers.DevFault rank) = ⊥

-- a line's answer fits a journal of its path, with these answers of earlier lines
pub record Fits (told : List ℕ) (s : Job) (A : Answering) (J : List ℕ) (n : ℕ) (o : OpLine) (a : Answer) : Type 0 where
  pub opened : AgreesWithOpen o.op (is_open s A o.rank o.path n) a
  pub version : IfSome (version_of a) (λ v. IsInReach s A J n o v)
  pub answer : IsInTable (AreTold s told) (line_view s A J n o) o.op a
