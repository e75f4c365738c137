-- The run of a job under picks: whose turn each event is, the moments that the run comes to, and its report.
use Rattle.std.specs.Prelude.{◌≡◌, ℕ, zero, suc, ◌%◌, List, [], ◌∷◌, ◌++◌, length, unwrap_or, Option, Some, None}
use Rattle.std.specs.List.{slice_get}
use Rattle.fs_script.specs.Job.{Job}
use Rattle.fs_script.specs.Report.{Report}
use Rattle.core_machine.specs.Moment.{Moment, IsFirst, ready}
use Rattle.core_machine.specs.Step.{Turn, step}
use Rattle.core_machine.specs.MomentReport.{report_of}

-- the pick of event k, from 0 on: the picks go round, and where there are none it is 0
abbrev pub pick_at : List ℕ → ℕ → ℕ
pick_at picks k = unwrap_or (slice_get picks (k % length picks)) 0

-- of the clients that are ready, the one at the place of this pick modulo their number; none where none is ready
abbrev pub picked : ℕ → List ℕ → Option ℕ
picked pick clients = slice_get clients (pick % length clients)

-- the client that the pick of event k chooses of those that are ready at a moment
abbrev pub chosen : List ℕ → ℕ → Moment → Option ℕ
chosen picks k m = picked (pick_at picks k) (ready m)

-- the moment after the turn of a client; where no client has it the run stays
abbrev pub after_turn_of : Moment → Option ℕ → Moment
after_turn_of m None = m
after_turn_of m (Some r) = step m (record { client = r })

-- the moment after k events of the run that begins at m, each of the client that its pick chooses of those that are ready then
abbrev pub moment_after : List ℕ → Moment → ℕ → Moment
moment_after picks m zero = m
moment_after picks m (suc k) = let now = moment_after picks m k in after_turn_of now (chosen picks k now)

-- the turn of a client, if one has it
abbrev pub turns_of : Option ℕ → List Turn
turns_of None = []
turns_of (Some r) = record { client = r } ∷ []

-- the turns of the first k events of the run that begins at m, as the picks choose; past its end there are no more
abbrev pub turns_under : List ℕ → Moment → ℕ → List Turn
turns_under picks m zero = []
turns_under picks m (suc k) = turns_under picks m k ++ turns_of (chosen picks k (moment_after picks m k))

-- the run that begins at m comes to n under these picks, and ends there: no client is ready any more
pub record IsRunUnder (picks : List ℕ) (m n : Moment) : Type 0 where
  pub events : ℕ
  pub goes : n ≡ moment_after picks m events
  pub ended : ready n ≡ []

-- the report is that of the moment at which the job's run under these picks ends
pub record IsReportUnder (picks : List ℕ) (s : Job) (report : Report) : Type 0 where
  pub first : Moment
  pub last : Moment
  pub begins : IsFirst s first
  pub run : IsRunUnder picks first last
  pub reported : report ≡ report_of last
