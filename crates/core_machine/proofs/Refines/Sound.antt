-- What is kept for a client that goes is sound for the event of its line.
use Rattle.fs_types.proofs.Common.{◌≡◌, ℕ, ◌-◌, ◌^◌, ◌<◌, ◌≤◌, false, cond, List, length, slice_get, Some, IsSome, is_some}
use Rattle.fs_types.proofs.Common.{All, none-some, refl, sym, ap, ◌∙◌, subst, inl, inr, arith, false_from_ne_true}
use Rattle.fs_types.proofs.Common.{or_cases, slice_index, count_by-le-length}
use Rattle.fs_types.proofs.Common.{get_or_from_slice_get, cond_both, [], ◌∷◌, suc}
use Rattle.slot_plain.specs.Log.{Log}
use Rattle.fs_script.specs.Vocabulary.{Given, answer_at, Job, Piece, op_at, program}
use Rattle.core_machine.specs.Vocabulary.{OpLine, Client, PathState, ClientPath, Task, Places, EventSound, Holds, Stands, IsInMemory, names}
use Rattle.core_machine.specs.Vocabulary.{clients_of, file_hold, holds_of, is_owned, keeps, moment_of, pending_hold, slot_in}
use Rattle.fs_script.proofs.CallerLemmas.{slice_get-some, some_of}
use Rattle.core_machine.proofs.Places.{StandsNext, unanswered}
use Rattle.core_machine.proofs.Refines.SlotsAfter.{cases_piece}
use Rattle.core_machine.proofs.Refines.Stepped.{kept_as}

-- as many clients as places, where there are as many tasks
clients-many : (places : List ℕ) (tasks : List Task) → length places ≡ length tasks → length (clients_of places tasks) ≡ length places
clients-many [] [] size = refl
clients-many [] (t ∷ ts) size = absurd (omega arith)
clients-many (p ∷ ps) [] size = absurd (omega arith)
clients-many (p ∷ ps) (t ∷ ts) size = ap suc (clients-many ps ts (omega arith))

module _ {s : Job} {paths : List (List ℕ)} {states : List PathState} {answers : Given} {turns : Places} {tasks : List Task}
    {logs : List Log} (held : Holds s paths states answers turns tasks logs) where
  -- no piece is held so often that it couldn't be held once more
  few-holds : (c : ℕ) (q : Piece) → holds_of (moment_of s paths states answers turns tasks logs false) c q < 2 ^ 64 - 1
  few-holds c q =
      let m = moment_of s paths states answers turns tasks logs false in
      let owned : cond {A = ℕ} (is_owned m c q) 1 0 ≤ 1 =
      cond_both (is_owned m c q) 1 0 (λ n. n ≤ 1) (λ _. omega arith) (λ _. omega arith) in
      let readers = count_by-le-length (λ (c : Client). names c.doing q) (clients_of turns.places tasks) in
      let many = clients-many turns.places tasks (held.clients ∙ sym held.tasked) in
      omega (arith, owned, readers, many, held.clients, held.few)

  few-in_slot : (c i : ℕ) → (slot_in logs c i).count < 2 ^ 64 - 1
  few-in_slot c i = elim (cases_piece (slot_in logs c i)) [
    | inl none ↦ omega (arith, held.logs_stand.free c i none)
    | inr some ↦ omega (arith, (held.logs_stand.slots c i some.0 some.1).count_is, few-holds c some.0.id)
  ]

  in-memory : All (IsInMemory s) logs
  in-memory k d below =
      let log = slice_get-some logs k below in
      subst (IsInMemory s) (sym (get_or_from_slice_get logs k log.0 d log.1)) (held.logs_stand.each k log.0 log.1).memory

  module _ (r n : ℕ) (o : OpLine) (place : ℕ) (x : PathState) (k : ClientPath) (t : Task) (within : r < s.shape.clients)
      (next : slice_get (program s r) (slice_index turns.places r) ≡ Some n) (is : op_at s n ≡ Some o)
      (at : slice_get paths place ≡ Some o.path) (there : slice_get states place ≡ Some x) (beside : slice_get x.clients r ≡ Some k)
      (midst : slice_get tasks r ≡ Some t) where
    stood : Stands s (answer_at answers.list) turns.phase o.path x
    stood = held.each place o.path x at there

    fresh-line : IsSome (answer_at answers.list n) → ⊥
    fresh-line given =
        let stands : StandsNext s (answer_at answers.list) r (slice_index turns.places r) n = record { upto = held.upto r within; here = next } in
        none-some _ (sym (unanswered stands) ∙ (some_of (answer_at answers.list n) given).1)

    fresh-piece : (q : Piece) → q.line ≡ n → keeps x.owned k q ≡ false
    fresh-piece q here = false_from_ne_true (keeps x.owned k q) (λ kept.
        fresh-line (subst (λ m. IsSome (answer_at answers.list m)) here
        (elim (or_cases (is_some (file_hold x.owned.path.file q)) (is_some (pending_hold k q)) kept) [
          | inl filed ↦ (stood.owned.pieces q filed).by_client.answered
          | inr waits ↦ ((stood.clients r k beside).pieces q waits).answered
        ])))

    -- all that the event may change is sound
    pub sound-for : EventSound s n o.op r (kept_as x k t logs)
    sound-for =
        let client = stood.clients r k beside in
        let task = held.tasks_stand r t midst in
        record {
          whole = record {
            sound = record { written = stood.owned.written; pending = client.whole; apart = client.apart };
            task = task.task;
            midst = task.line n o (ap (λ j. slice_get (program j r) (slice_index turns.places r)) held.same ∙ next) is;
          };
          fresh = fresh-piece;
          unfilled = λ q i p found here.
              fresh-line (subst (λ m. IsSome (answer_at answers.list m)) here (held.logs_stand.slots q i p found).answered);
          stand = record {
            files = (held.path_holds place x there).files;
            pending = (held.path_holds place x there).pending r k beside;
            pins = task.pins;
          };
          once = held.logs_stand.once;
          held = λ q i p found. (held.logs_stand.slots q i p found).held;
          free = held.logs_stand.free;
          few = few-in_slot;
          memory = in-memory;
          log = (let size = held.logs_stand.sized in omega (arith, size, within));
          rank = λ log found. (held.logs_stand.each r log found).rank;
        }
