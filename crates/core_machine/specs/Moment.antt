-- Moments of a simulated run: how far each client has come, the answers and the journals so far, and what is in the logs.
use Rattle.std.specs.Prelude.{◌≡◌, ℕ, ◌+◌, Bool, false, ◌||◌, nat_le, List, [], ◌∷◌, ◌++◌, length, map, filter, is_some, replicate}
use Rattle.std.specs.Prelude.{Option, Some, None, slice_index_or, if◌then◌else◌, slice_get, bytes_eq}
use Rattle.std.specs.List.{range_with_len, list_all, AllByRecursion}
use Rattle.fs_script.specs.Vocabulary.{Answer, answer_at, File, Job, Mark, Piece, op_lines, phase, program, Answering, state, marks_at}
use Rattle.fs_script.specs.Vocabulary.{journal_of, ArePaths}
use Rattle.core_machine.specs.Doing.{Doing, nothing}

-- how many lines of its program a client has done, and what it is in the midst of
pub record Client : Type 0 where
  pub place : ℕ
  pub doing : Doing

-- a client before its first line
abbrev pub fresh_client : Client
fresh_client = record { place = 0; doing = nothing }

pub record Moment : Type 0 where
  pub job : Job
  -- one for each client, by rank
  pub clients : List Client
  -- the answers that were printed
  pub answers : List (ℕ × Answer)
  -- for each path that the script names, in byte order
  pub journals : List (List ℕ × List ℕ)
  -- for each client, by rank, the piece in each slot of its log; none where the slot is free
  pub logs : List (List (Option Piece))
  -- want of memory ended the run
  pub spent : Bool

-- the answers that were printed, by line: the end of a phase and the report look at these
abbrev pub printed : Moment → Answering
printed m = answer_at m.answers

-- the answers that count, by line: pending writes, fronts and states look at these. No line counts before it is printed.
abbrev pub answering : Moment → Answering
answering m = printed m

-- the journal of a path so far
abbrev pub journal : Moment → List ℕ → List ℕ
journal m p = journal_of m.journals p

-- the file of a path now
abbrev pub file_now : Moment → List ℕ → File ℕ
file_now m p = state m.job (answering m) (journal m p) (length (journal m p))

-- its marks
abbrev pub marks_now : Moment → List ℕ → File (Option Mark)
marks_now m p = marks_at m.job (answering m) (journal m p) (length (journal m p))

abbrev pub client_of : Moment → ℕ → Client
client_of m r = slice_index_or m.clients r fresh_client

-- the piece in each slot of a client's log
abbrev pub log_of : Moment → ℕ → List (Option Piece)
log_of m r = slice_index_or m.logs r []

-- the line of its program that a client does now, or does next
abbrev pub next_line : Moment → ℕ → Option ℕ
next_line m r = slice_get (program m.job r) (client_of m r).place

-- whether the phase of line n has begun: each operation was answered, or is of no earlier phase
abbrev pub has_begun : Moment → ℕ → Bool
has_begun m n = list_all (λ k. is_some (printed m k) || nat_le (phase m.job n) (phase m.job k)) (op_lines m.job)

-- whether there is such a line, and its phase has begun
abbrev pub may_come : Moment → Option ℕ → Bool
may_come m None = false
may_come m (Some n) = has_begun m n

-- the clients that have an event left in a phase that has begun, ascending; none once memory ran out
abbrev pub ready : Moment → List ℕ
ready m = if m.spent then [] else filter (λ r. may_come m (next_line m r)) (range_with_len 0 m.job.shape.clients)

-- the journals with a line at the end of one path's
abbrev pub with_entry : List ℕ → ℕ → List (List ℕ × List ℕ) → List (List ℕ × List ℕ)
with_entry p n js = map (λ j. if bytes_eq j.0 p then (j.0, j.1 ++ n ∷ []) else j) js

-- the run begins: nothing was answered, every journal is empty, and every slot is free
pub record IsFirst (s : Job) (m : Moment) : Type 0 where
  pub job : m.job ≡ s
  pub clients : m.clients ≡ replicate s.shape.clients fresh_client
  pub answers : m.answers ≡ []
  pub paths : ArePaths s (map (λ j. j.0) m.journals)
  pub journals : AllByRecursion (λ j. j.1 ≡ []) m.journals
  pub logs : m.logs ≡ replicate s.shape.clients (replicate (s.shape.shmem + s.shape.spill) None)
  pub spent : m.spent ≡ false
