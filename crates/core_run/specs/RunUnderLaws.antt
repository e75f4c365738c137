-- The laws of runs under picks: a job has one first moment, and one report under a list of picks; such a run is one of the
-- machine, so the machine's laws hold of its moments; and the answers of its report are those of events that the picks chose.
use Rattle.std.specs.Prelude.{◌≡◌, ◌↔◌, ℕ, List, Some}
use Rattle.fs_types.specs.declared.answer.Answer.TheVariants as answers
use Rattle.fs_script.specs.Grammar.{IsJob}
use Rattle.fs_script.specs.Vocabulary.{Answer, Job, Report, answers_of, op_at}
use Rattle.fs_script.specs.declared.line.OpLine.{OpLine}
use Rattle.core_machine.specs.LegalSoFar.{CanRun, Reaches}
use Rattle.core_machine.specs.Moment.{Moment, IsFirst, next_line}
use Rattle.core_machine.specs.RunLaws.{AsksForSlots, LacksSlots, seen_by}
use Rattle.core_machine.specs.Step.{event_at}
use Rattle.core_run.specs.PickedRun.{IsReportUnder, chosen, moment_after, turns_under}

-- two first moments of one job are one
abbrev pub OneFirstMoment : Type 0
OneFirstMoment = (s : Job) (m n : Moment) → IsFirst s m → IsFirst s n → m ≡ n

-- two reports of one job under the same picks are one
abbrev pub OneReportUnder : Type 0
OneReportUnder = (picks : List ℕ) (s : Job) (R Q : Report) → IsReportUnder picks s R → IsReportUnder picks s Q → R ≡ Q

-- the machine reaches each moment of a run under picks, by the turns that the picks choose
abbrev pub MomentsAreReached : Type 0
MomentsAreReached = (picks : List ℕ) (m : Moment) (k : ℕ) → Reaches m (turns_under picks m k) (moment_after picks m k)

-- a job within the limits can be run
abbrev pub JobsCanRun : Type 0
JobsCanRun = (s : Job) → IsJob s → CanRun s

-- line k of s had an event in its run under these picks: after so many events the pick chose the line's client of those that were
-- ready, and the line was that client's next one
pub record HadEvent (picks : List ℕ) (s : Job) (k : ℕ) : Type 0 where
  pub first : Moment
  pub begins : IsFirst s first
  pub events : ℕ
  pub then : Moment
  pub comes : then ≡ moment_after picks first events
  pub op : OpLine
  pub is : op_at s k ≡ Some op
  pub turn : chosen picks events then ≡ Some op.rank
  pub next : next_line then op.rank ≡ Some k

-- it was answered a there
pub record WasAnswered (picks : List ℕ) (s : Job) (k : ℕ) (a : Answer) : Type 0 where
  pub event : HadEvent picks s k
  pub gives : (event_at event.then k event.op).answer ≡ Some a

-- each answer in the report of a run under picks came so
abbrev pub ReportedWasAnswered : Type 0
ReportedWasAnswered = (picks : List ℕ) (s : Job) (R : Report) (k : ℕ) (a : Answer)
    → IsReportUnder picks s R → answers_of R k ≡ Some a → WasAnswered picks s k a

-- and the report has each that came so
abbrev pub AnsweredIsReported : Type 0
AnsweredIsReported = (picks : List ℕ) (s : Job) (R : Report) (k : ℕ) (a : Answer)
    → CanRun s → IsReportUnder picks s R → WasAnswered picks s k a → answers_of R k ≡ Some a

-- line k, a write, asked for slots at its event, and lacked them then
pub record WasShortOfSlots (picks : List ℕ) (s : Job) (k needed left : ℕ) : Type 0 where
  pub event : HadEvent picks s k
  pub asks : AsksForSlots (seen_by event.then k event.op) event.op.op
  pub lacks : LacksSlots s event.then event.op.rank k needed left

-- the report says that there was no space for a line exactly where it was so short of slots
abbrev pub NoSpaceIsReported : Type 0
NoSpaceIsReported = (picks : List ℕ) (s : Job) (R : Report) (k needed left : ℕ) → CanRun s → IsReportUnder picks s R
    → (answers_of R k ≡ Some (answers.NoSpace needed left)) ↔ WasShortOfSlots picks s k needed left
