-- What is kept before the first event, and that the moment it stands for is the first.
use Rattle.fs_types.proofs.Common.{◌≡◌, ℕ, zero, suc, ◌+◌, ◌*◌, ◌^◌, ◌<◌, ◌≤◌, true, false, Some, None, List, [], ◌∷◌, length}
use Rattle.fs_types.proofs.Common.{slice_get, none-some, same_Some, nil_from_length, map, is_some, slice_index, All}
use Rattle.fs_types.proofs.Common.{true≢false, refl, sym, ap, subst, ◌∙◌, arith, zip, replicate, AllByRecursion, le-ltb, length-map}
use Rattle.fs_types.proofs.Common.{length-replicate, get_or-replicate, recursion_from_All, firsts-zip, slice_get_within}
use Rattle.fs_types.proofs.Common.{get_or_from_slice_get}
use Rattle.fs_script.specs.Vocabulary.{Given, answer_at, Job, Piece, Answering, ArePaths, past_lines}
use Rattle.slot_plain.specs.Log.{DeviceState, Log}
use Rattle.slot_plain.specs.Slots.{Slot, free_slot, slot_at}
use Rattle.fs_script.specs.Grammar.{IsJob, IsShape}
use Rattle.fs_script.specs.declared.shape.Shape.{Shape}
use Rattle.fs_script.proofs.CallerLemmas.{IsOpLine-from_job}
use Rattle.core_machine.specs.Logs.{fresh_log, fresh_logs}
use Rattle.core_machine.specs.PathStates.{pending_after}
use Rattle.core_machine.specs.Vocabulary.{OwnedPath, ClientPath, PathState, Task, Idle, fresh_owned, IsFreshClient, IsFreshPath}
use Rattle.core_machine.specs.Vocabulary.{CanRun, IsFirst, Places}
use Rattle.core_machine.specs.Vocabulary.{clients_of, file_hold, fresh_client, holds_of, moment_of}
use Rattle.core_machine.specs.Vocabulary.{pending_lines, piece_in, pieces_in, slot_in}
use Rattle.core_machine.specs.Vocabulary.{Holds, IsLogOf, Stands, StandsForOwner, StandsForClient, StandsForLogs, StandsForLookUp, StandsForTask}
use Rattle.core_machine.proofs.HeldPieces.{pending-none}
use Rattle.core_machine.proofs.Refines.NextAnswers.{over_answers-until}
use Rattle.core_machine.proofs.Refines.JournalsKept.{journal_kept}

-- a job within the limits can be run
pub CanRun-job : {s : Job} → IsJob s → CanRun s
CanRun-job {s} job = record {
  clients = λ n o is. (IsOpLine-from_job s n o job is).rank;
  chunk = (let least = job.shape.chunk_least in omega (arith, least));
}

-- one client has no more than all clients have
each-of_all : (clients each : ℕ) → 1 ≤ clients → each ≤ clients * each
each-of_all clients each some = grind arith

-- none of its slots is on a device
pub no_spill : {h : Shape} → IsShape h → h.spill ≡ 0
no_spill {h} is =
    let few = is.spill.slots in
    let each = each-of_all h.clients h.spill is.some_client in omega (arith, few, each)

abbrev none : Answering
none = answer_at []

-- no line is pending after no answers
pub none-pending : (s : Job) (r : ℕ) (p : List ℕ) → pending_after s none r p ≡ []
none-pending s r p = over_answers-until _ _ s r p none 0 (past_lines s) (omega arith) (λ _ _ _. refl)

no_file : (x : OwnedPath) (q : Piece) → x.path.file ≡ None → is_some (file_hold x.path.file q) ≡ true → ⊥
no_file x q none held = true≢false (sym held ∙ ap (λ f. is_some (file_hold f q)) none)

owner-fresh : (s : Job) (now : ℕ) (p : List ℕ) {x : OwnedPath} → x ≡ fresh_owned → StandsForOwner s none now p x
owner-fresh s now p fresh = subst (StandsForOwner s none now p) (sym fresh) (record {
  answered = tt;
  written = tt;
  marks = refl;
  pieces = λ q held. absurd (no_file fresh_owned q refl held);
  told = refl;
  known = refl;
})

client-fresh : (s : Job) (r : ℕ) (p : List ℕ) {x : OwnedPath} {k : ClientPath} → x ≡ fresh_owned → IsFreshClient k
    → StandsForClient s none r p x k
client-fresh s r p {x} {k} owned fresh = record {
  opened = fresh.is_open ∙ sym (over_answers-until _ _ s r p none 0 (past_lines s) (omega arith) (λ _ _ _. refl));
  pending = nil_from_length (pending_lines k) fresh.pending.lines ∙ sym (none-pending s r p);
  whole = pending-none s k.pending fresh.pending;
  pieces = λ q waits. absurd (true≢false (sym waits ∙ ap is_some (fresh.pending.holds q)));
  apart = λ q waits. absurd (true≢false (sym waits ∙ ap is_some (fresh.pending.holds q)));
  seen = ap (λ n. n.version) fresh.noted ∙ sym (over_answers-until _ _ s r p none 0 (past_lines s) (omega arith) (λ _ _ _. refl));
  within = (let start = ap (λ n. n.version) fresh.noted in omega arith);
  known = rw (ap (λ (y : OwnedPath). y.path.journal) owned, fresh.noted) refl;
}

path-fresh : (s : Job) (now : ℕ) (p : List ℕ) {x : PathState} → IsFreshPath s.shape.clients x → Stands s none now p x
path-fresh s now p {x} fresh = record {
  owned = owner-fresh s now p fresh.owned;
  sized = fresh.sized;
  clients = λ r k at. client-fresh s r p fresh.owned (subst IsFreshClient (get_or_from_slice_get x.clients r k k at)
      (fresh.clients r k (slice_get_within x.clients r k at)));
}

-- ---- fresh logs

fresh-at : (h : Shape) (r : ℕ) (ds : List DeviceState) (c : ℕ) (log : Log) → slice_get (fresh_logs h r ds) c ≡ Some log
    → (d : DeviceState) × (fresh_log h (r + c) d ≡ log)
fresh-at h r [] c log at = absurd (none-some log at)
fresh-at h r (d ∷ ds) zero log at = (d, ap (λ k. fresh_log h k d) (let e : r + 0 ≡ r = omega arith in e) ∙ same_Some (fresh_log h r d) log at)
fresh-at h r (d ∷ ds) (suc c) log at =
    let rest = fresh-at h (suc r) ds c log at in
    let e : r + suc c ≡ suc r + c = omega arith in
    (rest.0, ap (λ k. fresh_log h k rest.0) e ∙ rest.1)

pub length-fresh : (h : Shape) (r : ℕ) (ds : List DeviceState) → length (fresh_logs h r ds) ≡ length ds
length-fresh h r [] = refl
length-fresh h r (d ∷ ds) = ap suc (length-fresh h (suc r) ds)

-- their devices are those that they were given
pub devices-fresh : (h : Shape) (r : ℕ) (ds : List DeviceState) → map (λ (log : Log). log.device) (fresh_logs h r ds) ≡ ds
devices-fresh h r [] = refl
devices-fresh h r (d ∷ ds) = ap (λ rest. d ∷ rest) (devices-fresh h (suc r) ds)

-- no slot of theirs has a piece
fresh-slot : (h : Shape) (r : ℕ) (ds : List DeviceState) (c i : ℕ) → slot_in (fresh_logs h r ds) c i ≡ free_slot
fresh-slot h r [] c i = refl
fresh-slot h r (d ∷ ds) zero i = by (h.shmem + h.spill) i where
  by : (n i : ℕ) → slot_at (replicate n free_slot) i ≡ free_slot
  by zero i = refl
  by (suc n) zero = refl
  by (suc n) (suc i) = by n i
fresh-slot h r (d ∷ ds) (suc c) i = fresh-slot h (suc r) ds c i

logs-fresh : (s : Job) (A : Answering) (counts : ℕ → Piece → ℕ) (ds : List DeviceState) → length ds ≡ s.shape.clients → s.shape.spill ≡ 0
    → s.shape.shmem < 2 ^ 32 → StandsForLogs s A counts (fresh_logs s.shape 0 ds)
logs-fresh s A counts ds size none few = record {
  sized = length-fresh s.shape 0 ds ∙ size;
  each = λ c log at.
      let is = fresh-at s.shape 0 ds c log at in
      let long = length-replicate (s.shape.shmem + s.shape.spill) free_slot in
      let first : 0 + c ≡ c = omega arith in
      subst (IsLogOf s c) is.1 (record {
        rank = first;
        memory = record { shared = omega (arith, long, none); chunk = refl; few = omega (arith, long, none, few) };
        slots = long;
        calm = refl;
      });
  slots = λ c i p at. absurd (none-some p (sym (ap (λ (x : Slot). x.piece) (fresh-slot s.shape 0 ds c i)) ∙ at));
  free = λ c i at. ap (λ (x : Slot). x.count) (fresh-slot s.shape 0 ds c i);
  once = λ c i q j x y at. absurd (none-some x (sym (ap (λ (z : Slot). z.piece) (fresh-slot s.shape 0 ds c i)) ∙ at));
}

idle-at : (n r : ℕ) (t : Task) → slice_get (replicate n Idle) r ≡ Some t → t ≡ Idle
idle-at zero r t at = absurd (none-some t at)
idle-at (suc n) zero t at = sym (same_Some Idle t at)
idle-at (suc n) (suc r) t at = idle-at n r t at

-- nothing is kept yet, and that stands for no answers
pub Holds-first : {s : Job} {paths : List (List ℕ)} (states : List PathState) (answers : Given) (turns : Places) (tasks : List Task)
    (logs : List Log) (ds : List DeviceState) → CanRun s → ArePaths s paths → length states ≡ length paths
    → All (IsFreshPath s.shape.clients) states → answers.list ≡ [] → answers.lines ≡ length s.lines + 1 → turns.job ≡ s
    → turns.places ≡ replicate s.shape.clients 0 → tasks ≡ replicate s.shape.clients Idle → logs ≡ fresh_logs s.shape 0 ds
    → length ds ≡ s.shape.clients → s.shape.spill ≡ 0 → s.shape.shmem < 2 ^ 32 → s.shape.clients < 2 ^ 32
    → Holds s paths states answers turns tasks logs
Holds-first {s} {paths} states answers turns tasks logs ds job named sized fresh empty room same places idle new many none fits few = record {
  job = job;
  same = same;
  named = named;
  kept = sized;
  clients = ap length places ∙ length-replicate s.shape.clients 0;
  tasked = ap length idle ∙ length-replicate s.shape.clients Idle;
  few = few;
  room = room;
  upto = λ r within k n at.
      let start = ap (λ ps. slice_index ps r) places ∙ get_or-replicate s.shape.clients r 0 0 within in
      ap is_some (ap (λ xs. answer_at xs n) empty) ∙ sym (le-ltb k (slice_index turns.places r) (omega (arith, start)));
  past = λ m given. absurd (true≢false (sym given ∙ ap is_some (ap (λ xs. answer_at xs m) empty)));
  each = λ i p x at there. subst (λ xs. Stands s (answer_at xs) turns.phase p x) (sym empty) (path-fresh s turns.phase p (fresh-path i x there));
  path_holds = λ i x there.
      let path = fresh-path i x there in
      record {
        files = λ q h held. absurd (no_file x.owned q (ap (λ (y : OwnedPath). y.path.file) path.owned) (ap is_some held));
        pending = λ r k at q h held.
            let client = subst IsFreshClient (get_or_from_slice_get x.clients r k k at) (path.clients r k (slice_get_within x.clients r k at)) in
            absurd (true≢false (sym (ap is_some held) ∙ ap is_some (client.pending.holds q)));
      };
  tasks_stand = λ r t at.
      let is = idle-at s.shape.clients r t (ap (λ ts. slice_get ts r) (sym idle) ∙ at) in
      subst (StandsForTask s turns logs r) (sym is)
      (record { task = tt; pins = λ q h held. absurd (none-some h held); line = λ n o next op. tt });
  looked_up = λ r t n i o x at next op place there.
      let is = idle-at s.shape.clients r t (ap (λ ts. slice_get ts r) (sym idle) ∙ at) in
      subst (StandsForLookUp s (answer_at answers.list) x.owned) (sym is) (record { within = tt; known = tt });
  logs_stand = subst (StandsForLogs s (answer_at answers.list) (holds_of (moment_of s paths states answers turns tasks logs false))) (sym new)
      (logs-fresh s (answer_at answers.list) (holds_of (moment_of s paths states answers turns tasks logs false)) ds many none fits);
}
  where
    fresh-path : (i : ℕ) (x : PathState) → slice_get states i ≡ Some x → IsFreshPath s.shape.clients x
    fresh-path i x there = subst (IsFreshPath s.shape.clients) (get_or_from_slice_get states i x x there)
        (fresh i x (slice_get_within states i x there))

fresh-journals : (clients : ℕ) (ps : List (List ℕ)) (xs : List PathState) → AllByRecursion (IsFreshPath clients) xs
    → AllByRecursion (λ j. j.1 ≡ []) (zip ps (map journal_kept xs))
fresh-journals clients [] xs fresh = tt
fresh-journals clients (p ∷ ps) [] fresh = tt
fresh-journals clients (p ∷ ps) (x ∷ xs) fresh = (ap (λ (y : OwnedPath). y.path.journal) fresh.0.owned, fresh-journals clients ps xs fresh.1)

clients-first : (n : ℕ) → clients_of (replicate n 0) (replicate n Idle) ≡ replicate n fresh_client
clients-first zero = refl
clients-first (suc n) = ap (λ cs. fresh_client ∷ cs) (clients-first n)

no-pieces : (h : Shape) (r : ℕ) (ds : List DeviceState)
    → map pieces_in (fresh_logs h r ds) ≡ replicate (length ds) (replicate (h.shmem + h.spill) None)
no-pieces h r [] = refl
no-pieces h r (d ∷ ds) = λ i. by (h.shmem + h.spill) i ∷ no-pieces h (suc r) ds i where
  by : (n : ℕ) → map piece_in (replicate n free_slot) ≡ replicate n None
  by zero = refl
  by (suc n) = ap (λ ps. None ∷ ps) (by n)

-- the moment that it stands for is the first
pub IsFirst-first : {s : Job} {paths : List (List ℕ)} (states : List PathState) (answers : Given) (turns : Places) (tasks : List Task)
    (logs : List Log) (ds : List DeviceState) → ArePaths s paths → length states ≡ length paths
    → All (IsFreshPath s.shape.clients) states → answers.list ≡ [] → turns.places ≡ replicate s.shape.clients 0
    → tasks ≡ replicate s.shape.clients Idle → logs ≡ fresh_logs s.shape 0 ds → length ds ≡ s.shape.clients
    → IsFirst s (moment_of s paths states answers turns tasks logs false)
IsFirst-first {s} {paths} states answers turns tasks logs ds named sized fresh empty places idle new many = record {
  job = refl;
  clients = (λ i. clients_of (places i) (idle i)) ∙ clients-first s.shape.clients;
  answers = empty;
  paths = rw (firsts-zip paths (map journal_kept states) (length-map states journal_kept ∙ sized)) named;
  journals = fresh-journals s.shape.clients paths states (recursion_from_All (IsFreshPath s.shape.clients) states fresh);
  logs = ap (map pieces_in) new ∙ no-pieces s.shape 0 ds ∙ ap (λ n. replicate n (replicate (s.shape.shmem + s.shape.spill) None)) many;
  spent = refl;
}
