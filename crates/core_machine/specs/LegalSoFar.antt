-- What holds at every moment of a simulated run, and which moments a run reaches.
use Rattle.std.specs.Prelude.{◌≡◌, ℕ, ◌<◌, true, List, [], ◌∷◌, length, map, Some, IsSome, is_some, nat_lt, slice_get, Contains}
use Rattle.fs_script.specs.Vocabulary.{Fits, IsRising, Job, Piece, op_at, phase, program, Answering, IsLegalSoFar, ArePaths, was_accepted}
use Rattle.fs_script.specs.declared.line.OpLine.{OpLine}
use Rattle.core_machine.specs.Doing.{Doing, Reading, nothing, reading}
use Rattle.core_machine.specs.Events.Read.{to_show}
use Rattle.core_machine.specs.Moment.{Moment, printed, answering, client_of, journal, log_of, next_line, has_begun, ready}
use Rattle.core_machine.specs.Slots.{HoldsExactly}
use Rattle.core_machine.specs.Step.{Turn, step}

-- each operation is of a client that the shape counts
abbrev pub HasClients : Job → Type 0
HasClients s = (n : ℕ) (o : OpLine) → op_at s n ≡ Some o → o.rank < s.shape.clients

-- it can be run: each operation is of a client that the shape counts, and a slot has bytes
pub record CanRun (s : Job) : Type 0 where
  pub clients : HasClients s
  pub chunk : 0 < s.shape.chunk

-- of a client's program the first lines, up to its place, have answers, and no others
abbrev pub IsAnsweredUpTo : Job → Answering → ℕ → ℕ → Type 0
IsAnsweredUpTo s A r place = (k n : ℕ) → slice_get (program s r) k ≡ Some n → is_some (A n) ≡ nat_lt k place

-- a read under way is its client's next line, whose phase has begun, and what it will show fits the journal of its path
pub record IsUnderWay (told : List ℕ) (m : Moment) (r : ℕ) (d : Reading) : Type 0 where
  pub line : ℕ
  pub op : OpLine
  pub next : next_line m r ≡ Some line
  pub is : op_at m.job line ≡ Some op
  pub begun : has_begun m line ≡ true
  pub fits : Fits told m.job (answering m) (journal m op.path) line op (to_show m.job d)

abbrev pub MayGoOn : List ℕ → Moment → ℕ → Doing → Type 0
MayGoOn told m r nothing = Unit {0}
MayGoOn told m r (reading d) = IsUnderWay told m r d

-- the moment is one of a legal run; told are the clients whose devices tell their bytes
pub record IsLegalMoment (told : List ℕ) (m : Moment) : Type 0 where
  pub job : CanRun m.job
  pub clients : length m.clients ≡ m.job.shape.clients
  pub places : (r : ℕ) → r < m.job.shape.clients → IsAnsweredUpTo m.job (printed m) r (client_of m r).place
  -- nothing but operations has an answer
  pub operations : (n : ℕ) → IsSome (printed m n) → IsSome (op_at m.job n)
  -- what is of an earlier phase than a line with an answer has an answer
  pub phases : (k n : ℕ) → IsSome (printed m k) → IsSome (op_at m.job n) → phase m.job n < phase m.job k → IsSome (printed m n)
  pub rising : IsRising m.answers
  pub paths : ArePaths m.job (map (λ j. j.0) m.journals)
  -- what was answered so far is legal
  pub legal : IsLegalSoFar told m.job (answering m) (journal m)
  -- each client that is in the midst of a line may go on
  pub under_way : (r : ℕ) → r < m.job.shape.clients → MayGoOn told m r (client_of m r).doing
  -- the logs hold what is held, and of accepted writes alone
  pub logs : length m.logs ≡ m.job.shape.clients
  pub slots : (r : ℕ) → r < m.job.shape.clients → HoldsExactly m r
  pub accepted : (r : ℕ) (x : Piece) → r < m.job.shape.clients → Contains (log_of m r) (Some x)
      → was_accepted (answering m x.line) ≡ true

-- the run that begins at m and gives the clients these turns, each ready when its turn comes, is at n in the end
abbrev pub Reaches : Moment → List Turn → Moment → Type 0
Reaches m [] n = m ≡ n
Reaches m (t ∷ turns) n = Contains (ready m) t.client × Reaches (step m t) turns n
