-- The laws of simulated runs: what a run reports when no client has an event left is legal, each log holds at every moment exactly
-- what is held, a write is refused for want of slots exactly where too few are left, and each answer was given by an event of
-- the run.
use Rattle.std.specs.Prelude.{◌≡◌, ◌↔◌, ℕ, ◌+◌, ◌≤◌, ◌<◌, true, false, List, [], ◌∷◌, ◌++◌, length, Some, Contains}
use Rattle.fs_types.specs.declared.answer.Answer.TheVariants as answers
use Rattle.fs_script.specs.Vocabulary.{Answer, Job, IsLegal, LONGEST_FILE, Write, brought, live_or_pending, need, op_at}
use Rattle.fs_script.specs.declared.line.Op.{Op}
use Rattle.fs_script.specs.declared.line.OpLine.{OpLine}
use Rattle.core_machine.specs.Event.{PathNow}
use Rattle.core_machine.specs.Moment.{Moment, IsFirst, answering, journal, log_of, next_line, printed, ready}
use Rattle.core_machine.specs.MomentReport.{report_of}
use Rattle.core_machine.specs.Slots.{HoldsExactly, census, empty_slots, held_pieces}
use Rattle.core_machine.specs.Step.{Turn, event_at, path_now}
use Rattle.core_machine.specs.LegalSoFar.{CanRun, Reaches}

-- ---- what is reported

abbrev pub RunsAreLegal : Type 0
RunsAreLegal = (told : List ℕ) (s : Job) (m n : Moment) (turns : List Turn)
    → CanRun s → IsFirst s m → Reaches m turns n → ready n ≡ [] → IsLegal s (report_of n) told

-- ---- what is in the logs

-- at each moment of a run, in each client's log stand the client's pieces that are held, each in one slot
abbrev pub LogsHoldExactly : Type 0
LogsHoldExactly = (s : Job) (m n : Moment) (turns : List Turn) (r : ℕ)
    → CanRun s → IsFirst s m → Reaches m turns n → r < s.shape.clients → HoldsExactly n r

-- so as many of its slots are free as these pieces leave
abbrev pub FreeIsWhatIsLeft : Type 0
FreeIsWhatIsLeft = (s : Job) (m n : Moment) (turns : List Turn) (r : ℕ)
    → CanRun s → IsFirst s m → Reaches m turns n → r < s.shape.clients
    → length (held_pieces n r) + length (empty_slots (log_of n r)) ≡ s.shape.shmem + s.shape.spill

-- and in the end as many are held as the client has live and pending pieces
abbrev pub HeldIsExact : Type 0
HeldIsExact = (s : Job) (m n : Moment) (turns : List Turn) (r : ℕ)
    → CanRun s → IsFirst s m → Reaches m turns n → ready n ≡ [] → r < s.shape.clients
    → (census n r).held ≡ length (live_or_pending s (answering n) (journal n) r)

-- ---- no space

-- what line k, the operation o, sees at a moment of its path and of its client's log
abbrev pub seen_by : Moment → ℕ → OpLine → PathNow
seen_by m k o = path_now m.job (answering m) (journal m o.path) (log_of m o.rank) k o

-- an operation that sees this is a write that nothing but want of slots refuses: its path is open, the file at its client's front
-- is there and isn't frozen, and it ends within the longest file
pub record AsksForSlots (w : PathNow) (op : Op) : Type 0 where
  pub write : Write
  pub brings : brought op ≡ Some write
  pub opened : w.is_open ≡ true
  pub there : w.at_front.exists ≡ true
  pub unfrozen : w.at_front.frozen ≡ false
  pub within : write.at + length write.bytes ≤ LONGEST_FILE

-- client r's line k needs so many slots, one for each of its parts, and the client's held pieces leave so many of its log, which
-- are fewer
pub record LacksSlots (s : Job) (m : Moment) (r k needed left : ℕ) : Type 0 where
  pub parts : needed ≡ need s k
  pub leaves : length (held_pieces m r) + left ≡ s.shape.shmem + s.shape.spill
  pub few : left < needed

-- at each moment of a run the event of a line is answered NoSpace exactly where the line asks for slots and lacks them
abbrev pub NoSpaceIsExact : Type 0
NoSpaceIsExact = (s : Job) (m n : Moment) (turns : List Turn) (k : ℕ) (o : OpLine) (needed left : ℕ)
    → CanRun s → IsFirst s m → Reaches m turns n → op_at s k ≡ Some o
    → ((event_at n k o).answer ≡ Some (answers.NoSpace needed left))
    ↔ (AsksForSlots (seen_by n k o) o.op × LacksSlots s n o.rank k needed left)

-- ---- answers

-- in a run of s that begins at m, with these turns, a came as the answer to line k: at a moment of the run the line was its client's
-- next one, the next turn was the client's, and the event had this answer
pub record WasGiven (s : Job) (m : Moment) (turns : List Turn) (k : ℕ) (a : Answer) : Type 0 where
  pub before : List Turn
  pub after : List Turn
  pub then : Moment
  pub op : OpLine
  pub all : turns ≡ before ++ record { client = op.rank } ∷ after
  pub reaches : Reaches m before then
  pub waits : Contains (ready then) op.rank
  pub next : next_line then op.rank ≡ Some k
  pub is : op_at s k ≡ Some op
  pub gives : (event_at then k op).answer ≡ Some a

-- each answer that stands at a moment of a run came so
abbrev pub AnswersWereGiven : Type 0
AnswersWereGiven = (s : Job) (m n : Moment) (turns : List Turn) (k : ℕ) (a : Answer)
    → IsFirst s m → Reaches m turns n → printed n k ≡ Some a → WasGiven s m turns k a

-- and each that came so stands at the moment that the run comes to
abbrev pub GivenAnswersStand : Type 0
GivenAnswersStand = (s : Job) (m n : Moment) (turns : List Turn) (k : ℕ) (a : Answer)
    → CanRun s → IsFirst s m → Reaches m turns n → WasGiven s m turns k a → printed n k ≡ Some a
