-- What the program answers: which text goes with which status.
use Rattle.std.specs.Prelude.{◌≡◌, ℕ, List, Option, Some, None, Err}
use Rattle.fs_types.specs.declared.status.Status.{Status}
use Rattle.fs_types.specs.declared.status.Status.TheVariants as statuses
use Rattle.fs_script.specs.declared.fault.ScriptFault.{ScriptFault}
use Rattle.fs_script.specs.Job.{Job}
use Rattle.fs_script.specs.Grammar.{IsScript}
use Rattle.fs_script.specs.Reading.Scripts.{job_of}
use Rattle.fs_script.specs.Report.{Report, IsLegal}
use Rattle.fs_script.specs.Text.{text}
use Rattle.top_call.specs.UsageAndRefusals.{usage_line, refusal_line}
use Rattle.core_run.specs.ExactSlots.{AreExactSlots}
use Rattle.core_run.specs.Picks.{first_picks}
use Rattle.core_run.specs.PickedRun.{IsReportUnder}
use Rattle.core_run.specs.declared.picks.TheConstants.{PICK_COUNT}
use Rattle.top_call.specs.declared.words.Command.{Command}
use Rattle.top_call.specs.declared.words.Command.TheVariants.{Sim}
use Rattle.top_call.specs.CommandWords.{command_of}

-- the input is the script of a job, and what was written is the text of a report: that of the job's
-- run under the first picks of the seed, and legal for the job, whichever clients' devices tell
-- their bytes; and its lines of slots have as many held as there are live and pending pieces
pub record IsReportOf (seed : ℕ) (input written : List ℕ) : Type 0 where
  pub job : Job
  pub report : Report
  pub script : IsScript input job
  pub text : written ≡ text report
  pub legal : (told : List ℕ) → IsLegal job report told
  pub slots : AreExactSlots job report
  pub run : IsReportUnder (first_picks seed PICK_COUNT) job report

-- the input is no script, and what was written is the line of its first fault
pub record IsRefusalOf (input written : List ℕ) : Type 0 where
  pub fault : ScriptFault
  pub first : job_of input ≡ Err fault
  pub line : written ≡ refusal_line fault

-- the text of a job that was simulated by a seed and ended so
abbrev pub IsSimAnswer : ℕ → List ℕ → Status → List ℕ → Type 0
IsSimAnswer seed input statuses.Done written = IsReportOf seed input written
IsSimAnswer seed input statuses.Refused written = IsRefusalOf input written
IsSimAnswer seed input statuses.Usage written = ⊥
IsSimAnswer seed input statuses.ReadFault written = ⊥
IsSimAnswer seed input statuses.WriteFault written = ⊥
IsSimAnswer seed input statuses.Memory written = ⊥

abbrev pub IsCommandAnswer : Option Command → List ℕ → Status → List ℕ → Type 0
IsCommandAnswer None input status written = (status ≡ statuses.Usage) × (written ≡ usage_line)
IsCommandAnswer (Some (Sim seed)) input status written = IsSimAnswer seed input status written

-- the text that goes with a status, for these words and this input
abbrev pub IsAnswer : List (List ℕ) → List ℕ → Status → List ℕ → Type 0
IsAnswer words input status written = IsCommandAnswer (command_of words) input status written
