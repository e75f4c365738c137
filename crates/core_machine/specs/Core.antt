-- What a run keeps at every moment, and the moment that it stands for.
use Rattle.std.specs.Prelude.{◌≡◌, ℕ, ◌≤◌, List, [], false, length, vec_capacity}
use Rattle.core_machine.specs.declared.run.Run.{Run}
use Rattle.core_machine.specs.Gfids.{AreGfids}
use Rattle.core_machine.specs.Kept.{PathState}
use Rattle.core_machine.specs.LegalSoFar.{IsLegalMoment}
use Rattle.core_machine.specs.Moment.{Moment}
use Rattle.core_machine.specs.MomentKept.{moment_of}
use Rattle.core_machine.specs.PathStates.{AreKept, AreToldBut, states_in}
use Rattle.core_machine.specs.Turns.{IsInPhase}
use Rattle.core_machine.specs.Standing.{Holds}

-- what is kept for each path
abbrev pub states : {D : Type 0} → Run D → List PathState
states r = states_in r.script.now r.books.items r.board r.clients.items r.answers r.paths

abbrev pub moment : {D : Type 0} → Run D → Moment
moment r = moment_of r.script.now r.paths (states r) r.answers r.turns r.tasks.items r.logs.items r.spent

-- until memory runs out all that is kept holds, and stands for a moment of a legal run
pub record IsRun {D : Type 0} (r : Run D) : Type 0 where
  pub gfids : AreGfids r.script.now r.gfids
  pub kept : AreKept r.script.now r.books.items r.clients.items
  pub told : r.spent ≡ false → AreToldBut r.script.now r.changing.items r.board r.books.items
  pub phases : IsInPhase r.turns
  pub holds : r.spent ≡ false → Holds r.script.now r.paths (states r) r.answers r.turns r.tasks.items r.logs.items
  pub legal : (told : List ℕ) → r.spent ≡ false → IsLegalMoment told (moment r)
  -- a log for each client; their devices are in them, and the vector that these came in has room for them
  pub logged : length r.logs.items ≡ r.script.now.shape.clients
  pub no_device : r.devices.items ≡ []
  pub room : length r.logs.items ≤ vec_capacity r.devices
