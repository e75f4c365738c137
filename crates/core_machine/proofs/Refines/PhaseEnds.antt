-- The end of a phase: all clients are told of every path, and all that is kept goes on holding in the next phase.
use Rattle.fs_types.proofs.Common.{◌≡◌, ℕ, zero, suc, ◌<◌, Bool, false, cond, List, [], ◌∷◌, length, map, Some, IsSome}
use Rattle.fs_types.proofs.Common.{nat_lt, count_by, slice_index, refl, sym, ap, ◌∙◌, subst, arith, zip, slice_get}
use Rattle.fs_types.proofs.Common.{AllByRecursion, lt-ltb, length-map, sum_by-cons, map-map, same_Some}
use Rattle.fs_script.specs.Vocabulary.{Given, answer_at, Job, phase, program, Answering}
use Rattle.core_machine.specs.Kept.{OwnedPath, owner_told}
use Rattle.slot_plain.specs.Log.{Log}
use Rattle.core_machine.specs.Vocabulary.{PathState, Task, known_of, with_told, Places, IsAnsweredUpTo}
use Rattle.core_machine.specs.Vocabulary.{clients_of, holds_of, moment_of, next_in, pieces_in, Holds}
use Rattle.core_machine.specs.Vocabulary.{HoldsOfPath, Stands, StandsForLogs, StandsForLookUp}
use Rattle.core_machine.specs.Vocabulary.{StandsForOwner}
use Rattle.fs_script.proofs.CallerLemmas.{AllByRecursion-weaker}
use Rattle.core_machine.proofs.EventsFollow.{known-file}
use Rattle.core_machine.proofs.Refines.JournalsKept.{journal_kept}

-- lines of phases before a later one are all of the lines
all-earlier : (s : Job) (now : ℕ) (J : List ℕ) → AllByRecursion (λ m. phase s m < now) J
    → length J ≡ count_by (λ m. nat_lt (phase s m) now) J
all-earlier s now [] all = refl
all-earlier s now (m ∷ J) all =
    let rest = all-earlier s now J all.1 in
    let first = ap (λ b. cond {A = ℕ} b 1 0) (lt-ltb (phase s m) now all.0) in
    omega (arith, rest, first, sum_by-cons (λ k. cond (nat_lt (phase s k) now) 1 0) m J)

-- the owner's part, where every line that was answered is of an earlier phase than the next one
StandsForOwner-told : {s : Job} {A : Answering} {now : ℕ} (next : ℕ) {p : List ℕ} {x : OwnedPath}
    → ((m : ℕ) → IsSome (A m) → phase s m < next)
    → StandsForOwner s A now p x → StandsForOwner s A next p (owner_told x)
StandsForOwner-told {s} {A} next {x = x} past stands = record {
  answered = stands.answered;
  written = stands.written;
  marks = stands.marks;
  pieces = stands.pieces;
  told = all-earlier s next x.path.journal (AllByRecursion-weaker (λ m. IsSome (A m)) (λ m. phase s m < next) x.path.journal past
      stands.answered);
  known = known-file x.path.file ∙ ap known_of stands.marks;
}

-- the moment stays
pub moment-told : (s : Job) (paths : List (List ℕ)) (states : List PathState) (answers : Given) (turns then : Places) (tasks : List Task)
    (logs : List Log) (spent : Bool) → then.places ≡ turns.places
    → moment_of s paths (map with_told states) answers then tasks logs spent ≡ moment_of s paths states answers turns tasks logs spent
moment-told s paths states answers turns then tasks logs spent places i = record {
  job = s;
  clients = clients_of (places i) tasks;
  answers = answers.list;
  journals = zip paths (map-map journal_kept with_told states i);
  logs = map pieces_in logs;
  spent = spent;
}

-- all that is kept, once all clients were told and the next phase has begun
pub Holds-told : {s : Job} {paths : List (List ℕ)} {states : List PathState} {answers : Given} {turns : Places} {tasks : List Task}
    {logs : List Log} (then : Places) → then.job ≡ turns.job → then.places ≡ turns.places → turns.phase < then.phase
    → Holds s paths states answers turns tasks logs → Holds s paths (map with_told states) answers then tasks logs
Holds-told {s} {paths} {states} {answers} {turns} {tasks} {logs} then job places later held = record {
  job = held.job;
  same = job ∙ held.same;
  named = held.named;
  kept = length-map states with_told ∙ held.kept;
  clients = ap length places ∙ held.clients;
  tasked = held.tasked;
  few = held.few;
  room = held.room;
  upto = λ r within. subst (λ ps. IsAnsweredUpTo s (answer_at answers.list) r (slice_index ps r)) (sym places) (held.upto r within);
  past = λ m given. let was = held.past m given in omega arith;
  each = λ i p x at there.
      let y = told-at states i x there in
      let stood = held.each i p y.0 at y.1 in
      subst (Stands s (answer_at answers.list) then.phase p) y.2 (record {
        owned = StandsForOwner-told then.phase (λ m given. let was = held.past m given in omega arith) stood.owned;
        sized = stood.sized;
        clients = λ r k found. let c = stood.clients r k found in
            record {
              opened = c.opened;
              pending = c.pending;
              whole = c.whole;
              pieces = c.pieces;
              apart = c.apart;
              seen = c.seen;
              within = c.within;
              known = c.known;
            };
      });
  path_holds = λ i x there.
      let y = told-at states i x there in
      let holds = held.path_holds i y.0 y.1 in
      subst (HoldsOfPath s logs) y.2 (record { files = holds.files; pending = holds.pending });
  tasks_stand = λ r t at.
      let stands = held.tasks_stand r t at in
      record { task = stands.task; pins = stands.pins; line = λ n o next op. stands.line n o (sym (next-same r) ∙ next) op };
  looked_up = λ r t n i o x at next op place there.
      let y = told-at states i x there in
      let looked = held.looked_up r t n i o y.0 at (sym (next-same r) ∙ next) op place y.1 in
      subst (λ (z : PathState). StandsForLookUp s (answer_at answers.list) z.owned t) y.2 (record { within = looked.within; known = looked.known });
  logs_stand = subst (λ m. StandsForLogs s (answer_at answers.list) (holds_of m) logs)
      (sym (moment-told s paths states answers turns then tasks logs false places)) held.logs_stand;
}
  where
    next-same : (r : ℕ) → next_in then r ≡ next_in turns r
    next-same r = λ i. slice_get (program (job i) r) (slice_index (places i) r)

    told-at : (xs : List PathState) (i : ℕ) (x : PathState) → slice_get (map with_told xs) i ≡ Some x
        → (y : PathState) × (slice_get xs i ≡ Some y) × (with_told y ≡ x)
    told-at [] i x is = absurd cc
    told-at (y ∷ ys) zero x is = (y, refl, same_Some (with_told y) x is)
    told-at (y ∷ ys) (suc i) x is = told-at ys i x is
