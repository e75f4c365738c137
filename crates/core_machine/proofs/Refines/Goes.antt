-- A client that goes: it is one of the job's, and its next line is of the run's phase. An event of it leaves the run's moment one
-- of a legal run, with fewer events left.
use Rattle.fs_types.proofs.Common.{◌≡◌, ℕ, ◌<◌, Bool, true, false, List, [], Some, Contains, slice_index, slice_get, refl, sym, ap}
use Rattle.fs_types.proofs.Common.{◌∙◌, subst, arith, same_Some, length, Bor, Global, Vec, vec_capacity}
use Rattle.fs_script.specs.Vocabulary.{Given, Job, phase, program}
use Rattle.slot_plain.specs.Log.{Log}
use Rattle.core_machine.specs.Vocabulary.{PathState, Places, IsInPhase, going, next_in, ready, moment_of, Holds, Task}
use Rattle.core_machine.specs.Core.{IsRun, states}
use Rattle.core_machine.specs.Vocabulary.{AreGfids, HasClients, IsLegalMoment, Moment, events_left, moment, step}
use Rattle.core_machine.specs.PathStates.{AreKept, AreToldBut}
use Rattle.core_machine.specs.declared.run.Run.{Run}
use Rattle.core_machine.proofs.Legal.EventsLeft.{events_left-falls}
use Rattle.core_machine.proofs.Legal.LegalSteps.{step-legal}
use Rattle.core_machine.proofs.Programs.Going.{Goes-from_Contains}
use Rattle.core_machine.proofs.Programs.NextLines.{next_in-within}
use Rattle.core_machine.proofs.Refines.Ready.{ready-kept}

-- client r, whose next line is n, goes in the run's phase
pub record GoesNow (s : Job) (turns : Places) (r n : ℕ) : Type 0 where
  pub within : r < s.shape.clients
  pub next : slice_get (program s r) (slice_index turns.places r) ≡ Some n
  pub now : phase s n ≡ turns.phase

pub goes-kept : {s : Job} {paths : List (List ℕ)} {states : List PathState} {answers : Given} {turns : Places} {tasks : List Task}
    {logs : List Log} (r n : ℕ) → Holds s paths states answers turns tasks logs → Contains (going turns) r → next_in turns r ≡ Some n
    → GoesNow s turns r n
goes-kept {turns} r n held has next =
    let goes = Goes-from_Contains turns r has in
    let same = same_Some goes.0 n (sym goes.1.next ∙ next) in
    let clients = subst HasClients (sym held.same) held.job.clients in
    subst (λ j. GoesNow j turns r n) held.same
    (record { within = next_in-within turns r n clients next; next = next; now = ap (phase turns.job) (sym same) ∙ goes.1.of_phase })

-- a client that is ready goes, and has a next line; memory didn't run out
pub ready-going : (s : Job) (paths : List (List ℕ)) (states : List PathState) (answers : Given) {turns : Places} (tasks : List Task)
    (logs : List Log) (spent : Bool) (r : ℕ) → (spent ≡ false → Holds s paths states answers turns tasks logs) → IsInPhase turns
    → Contains (ready (moment_of s paths states answers turns tasks logs spent)) r → (spent ≡ false) × Contains (going turns) r
ready-going s paths states answers tasks logs true r holds phases has = absurd (let none : has.0 < 0 = has.1 in omega arith)
ready-going s paths states answers {turns} tasks logs false r holds phases has =
    (refl, subst (λ xs. Contains xs r) (ready-kept (holds refl) phases) has)

-- where a client of a run is ready, memory didn't run out
not_spent : {D : Type 0} {old : Run D} (r : ℕ) → IsRun old → Contains (ready (moment old)) r → old.spent ≡ false
not_spent {old} r run may =
    (ready-going old.script.now old.paths (states old) old.answers old.tasks.items old.logs.items old.spent r run.holds run.phases may).0

-- an event of a client that is ready leaves the moment one of a legal run, and fewer events are left
module _ {D : Type 0} {old : Run D} (r : ℕ) (run : IsRun old) (may : Contains (ready (moment old)) r) where
  pub legal-then : (m : Moment) → m ≡ step (moment old) (record { client = r }) → (told : List ℕ) → IsLegalMoment told m
  legal-then m then told = subst (IsLegalMoment told) (sym then) (step-legal (record { client = r }) (run.legal told (not_spent r run may)) may)

  pub nearer : (m : Moment) → m ≡ step (moment old) (record { client = r }) → events_left m < events_left (moment old)
  nearer m then = subst (λ (x : Moment). events_left x < events_left (moment old)) (sym then)
      (events_left-falls (record { client = r }) (run.legal [] (not_spent r run may)) may)

  -- and a run that kept its script, its devices and as many logs goes on, or is spent
  pub IsRun-on : {new : Run D} → new.script ≡ old.script → new.gfids ≡ old.gfids → new.devices ≡ old.devices → length new.logs.items ≡ length old.logs.items
      → AreKept new.script.now new.books.items new.clients.items → IsInPhase new.turns
      → (new.spent ≡ false → AreToldBut new.script.now new.changing.items new.board new.books.items)
      → (new.spent ≡ false → Holds new.script.now new.paths (states new) new.answers new.turns new.tasks.items new.logs.items)
      → (new.spent ≡ false → moment new ≡ step (moment old) (record { client = r })) → IsRun new
  IsRun-on {new} script gfids devices sized kept phases told holds then = record {
    gfids = subst (λ (X : Type 0). X) (λ i. AreGfids (sym script i).now (sym gfids i)) run.gfids;
    kept = kept;
    told = told;
    phases = phases;
    holds = holds;
    legal = λ told going. legal-then (moment new) (then going) told;
    logged = sized ∙ run.logged ∙ ap (λ (x : Bor Job). x.now.shape.clients) (sym script);
    no_device = ap (λ (v : Vec D Global). v.items) devices ∙ run.no_device;
    room = omega (arith, sized, ap (λ (v : Vec D Global). vec_capacity v) devices, run.room);
  }
