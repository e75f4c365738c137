-- One event of a client that goes: what is kept after it stands, and the moment that it stands for is the machine's next one.
use Rattle.fs_types.proofs.Common.{◌≡◌, ℕ, zero, suc, ◌+◌, ◌<◌, ◌≤◌, Bool, true, false, List, [], ◌∷◌, length, map, set, slice_index}
use Rattle.fs_types.proofs.Common.{get_or, slice_get, if◌then◌else◌, Option, Some, None, IsSome, is_some, none-some}
use Rattle.fs_types.proofs.Common.{same_Some, refl, sym, ap, ◌∙◌, subst, inl, inr, arith, cases_eq}
use Rattle.fs_types.proofs.Common.{length-set, length-map, get_or-set_same, get_or-set_other, slice_get_within, get_or_from_slice_get, MatchBool}
use Rattle.slot_plain.specs.Log.{Log}
use Rattle.fs_script.specs.Vocabulary.{Answer, Given, answer_at, Job, Piece, phase, program, rank_in, need, journal_of, pieces_of_line, AddsAnswer}
use Rattle.fs_script.proofs.CallerLemmas.{AddsAnswer-put, some_of, journal_of-zip, slice_get-map_some}
use Rattle.fs_script.proofs.CallerLemmas.{slice_get-some, slice_get-set_same, slice_get-set_other}
use Rattle.core_machine.specs.Vocabulary.{PathState, Client, Moment, Task, PathNow, Places, OwnedPath, Holds, IsAnsweredUpTo, FillsLog}
use Rattle.core_machine.specs.Vocabulary.{FollowsBy, Stands, pending_hold, stored_part, fresh_client, client_of, next_line}
use Rattle.core_machine.specs.Vocabulary.{event_at, event_of, had_event, after_event, after_turn, step, path_now, client_at, clients_of, journals_of}
use Rattle.core_machine.specs.Vocabulary.{after_line, answers_with, doing_of, logs_with, step_at, step_line, with_entry, slot_of}
use Rattle.core_machine.specs.Vocabulary.{empty_slots, log_of, piece_in, pieces_in, pieces_of, slot_in, with_line, without_dead}
use Rattle.core_machine.proofs.Places.{upto-own, upto-other}
use Rattle.core_machine.proofs.Legal.Logs.{length-with_pieces}
use Rattle.core_machine.proofs.Refines.Owners.{grown, still-answered}
use Rattle.core_machine.proofs.Refines.SlotsAfter.{filled-stands}
use Rattle.core_machine.proofs.Refines.JournalsKept.{journal_kept, journals_of-set}
use Rattle.core_machine.proofs.Refines.LinesAnswered.{PathsAfter, paths-answered, paths-unanswered}
use Rattle.core_machine.proofs.Refines.LogsAfter.{LogsStandThen, answers_then, before_moment, moment_then, logs-then}
use Rattle.core_machine.proofs.Refines.LogsAre.{filled-row, logs-are, row-at}
use Rattle.core_machine.proofs.Refines.Now.{kept_now-is}
use Rattle.core_machine.proofs.Refines.StandThen.{path-holds-then}
use Rattle.core_machine.proofs.Refines.Stepped.{Stepped, event, given, given_then, states_then, tasks_after, turns_with}
use Rattle.core_machine.proofs.Refines.Stepped.{rank-is, is_own, stood, client_stood, stands_next, not-answered}
use Rattle.core_machine.proofs.Refines.TasksThen.{tasks-then, looked-then}

-- ---- clients

pub client-at : (places : List ℕ) (tasks : List Task) (r : ℕ) (t : Task) → length places ≡ length tasks → slice_get tasks r ≡ Some t
    → get_or (clients_of places tasks) r fresh_client ≡ client_at (slice_index places r, t)
client-at [] [] r t size at = absurd (none-some t at)
client-at [] (u ∷ us) r t size at = absurd (omega arith)
client-at (p ∷ ps) [] r t size at = absurd (omega arith)
client-at (p ∷ ps) (u ∷ us) zero t size at = ap (λ v. client_at (p, v)) (same_Some u t at)
client-at (p ∷ ps) (u ∷ us) (suc r) t size at = client-at ps us r t (omega arith) at

-- its place, also past the last client
pub client-place : (places : List ℕ) (tasks : List Task) (r : ℕ) → length places ≡ length tasks
    → (get_or (clients_of places tasks) r fresh_client).place ≡ slice_index places r
client-place [] [] r size = refl
client-place [] (u ∷ us) r size = absurd (omega arith)
client-place (p ∷ ps) [] r size = absurd (omega arith)
client-place (p ∷ ps) (u ∷ us) zero size = refl
client-place (p ∷ ps) (u ∷ us) (suc r) size = client-place ps us r (omega arith)

clients-set : (places : List ℕ) (tasks : List Task) (r place : ℕ) (t : Task)
    → clients_of (set places r place) (set tasks r t) ≡ set (clients_of places tasks) r (client_at (place, t))
clients-set [] [] r place t = refl
clients-set [] (u ∷ us) r place t = refl
clients-set (p ∷ ps) [] zero place t = refl
clients-set (p ∷ ps) [] (suc r) place t = refl
clients-set (p ∷ ps) (u ∷ us) zero place t = refl
clients-set (p ∷ ps) (u ∷ us) (suc r) place t = ap (λ cs. client_at (p, u) ∷ cs) (clients-set ps us r place t)

-- a place that is set to what it is
set-same_place : (places : List ℕ) (r : ℕ) → set places r (slice_index places r) ≡ places
set-same_place [] r = refl
set-same_place (p ∷ ps) zero = refl
set-same_place (p ∷ ps) (suc r) = ap (λ rest. p ∷ rest) (set-same_place ps r)

module _ {s : Job} {paths : List (List ℕ)} {states : List PathState} {answers : Given} {turns : Places} {tasks : List Task}
    {logs : List Log} {r : ℕ} (t : Stepped s paths states answers turns tasks logs r) (after : PathsAfter t) where
  abbrev m : Moment
  m = before_moment t after

  abbrev n' : ℕ
  n' = t.number

  sizes-same : length turns.places ≡ length tasks
  sizes-same = t.held.clients ∙ sym t.held.tasked

  client-is : client_of m r ≡ client_at (slice_index turns.places r, t.task)
  client-is = client-at turns.places tasks r t.task sizes-same t.midst

  next-is : next_line m r ≡ Some t.number
  next-is = ap (λ (c : Client). slice_get (program s r) c.place) client-is ∙ t.next

  -- ---- the event

  log-is : log_of m r ≡ pieces_of (slice_get logs r)
  log-is = by logs r where
    by : (ls : List Log) (c : ℕ) → get_or (map pieces_in ls) c [] ≡ pieces_of (slice_get ls c)
    by [] c = refl
    by (x ∷ ls) zero = refl
    by (x ∷ ls) (suc c) = by ls c

  journal-is : journal_of (journals_of paths states) t.line.path ≡ t.was.owned.path.journal
  journal-is = journal_of-zip paths (map journal_kept states) t.place t.line.path (journal_kept t.was) t.held.named.rising t.at
      (slice_get-map_some journal_kept states t.place t.was t.there)

  event-is : event_at m t.number t.line ≡ event t
  event-is =
      ap (λ (c : ℕ). event_of s (path_now s (given t) (journal_of (journals_of paths states) t.line.path) (log_of m c) t.number t.line)
      (client_of m c).doing t.line.op) (rank-is t)
      ∙ ap (λ (c : Client). event_of s (path_now s (given t) (journal_of (journals_of paths states) t.line.path) (log_of m r) t.number t.line)
      c.doing t.line.op) client-is
      ∙ ap (λ (j : List ℕ). event_of s (path_now s (given t) j (log_of m r) t.number t.line) (doing_of t.task) t.line.op) journal-is
      ∙ ap (λ (w : PathNow). event_of s w (doing_of t.task) t.line.op) (sym (kept_now-is (log_of m r) t.held.job.chunk t.now (is_own t)
      (stood t).owned (client_stood t) (ap (λ l. length (empty_slots l)) (sym log-is))))
      ∙ sym t.follows.is

  -- ---- the moment, while pieces that died still have their slots

  abbrev logs-filled : List (List (Option Piece))
  logs-filled = logs_with m r t.number (event t)

  abbrev had : Moment
  had = record (moment_then t after) { logs = logs-filled }

  clients-are : clients_of (turns_with turns r t.answer).places (tasks_after t) ≡ set m.clients r (after_turn (client_of m r) (event t))
  clients-are = by t.answer refl where
    place : ℕ
    place = slice_index turns.places r

    turn-is : after_turn (client_of m r) (event t)
        ≡ record { place = if is_some t.answer then place + 1 else place; doing = doing_of t.task_then }
    turn-is = λ i. record {
      place = if is_some (t.follows.answer i) then (client-is i).place + 1 else (client-is i).place;
      doing = t.follows.doing i;
    }

    by : (a : Option Answer) → t.answer ≡ a → clients_of (turns_with turns r a).places (tasks_after t)
        ≡ set m.clients r (after_turn (client_of m r) (event t))
    by None is =
        ap (λ ps. clients_of ps (tasks_after t)) (sym (set-same_place turns.places r)) ∙ clients-set turns.places tasks r place t.task_then
        ∙ ap (set m.clients r) (sym (turn-is ∙ ap (λ b. record { place = if is_some b then place + 1 else place; doing = doing_of t.task_then }) is))
    by (Some a) is =
        clients-set turns.places tasks r (place + 1) t.task_then
        ∙ ap (set m.clients r) (sym (turn-is ∙ ap (λ b. record { place = if is_some b then place + 1 else place; doing = doing_of t.task_then }) is))

  journal-then : (a : Option Answer) → t.answer ≡ a → journal_kept t.then ≡ grown (journal_kept t.was) t.number (event t).commits
  journal-then None is =
      let all = subst (FollowsBy s t.number t.line.op t.task (event t) t.was.owned t.client t.then.owned t.own) is t.follows.kept in
      ap (λ (x : OwnedPath). x.path.journal) all.owned ∙ ap (grown (journal_kept t.was) t.number) (sym all.commits)
  journal-then (Some a) is =
      (subst (FollowsBy s t.number t.line.op t.task (event t) t.was.owned t.client t.then.owned t.own) is t.follows.kept).journal

  journals-are : journals_of paths (states_then t)
      ≡ (if (event t).commits then with_entry t.line.path t.number m.journals else m.journals)
  journals-are = journals_of-set paths states t.line.path t.number t.place t.was t.then (event t).commits t.held.named.rising t.at t.there
      (journal-then t.answer refl)

  had-is : had_event m r t.number t.line (event t) ≡ had
  had-is = λ i. record {
    job = s;
    clients = sym clients-are i;
    answers = answers_with t.number (t.follows.answer i) answers.list;
    journals = sym journals-are i;
    logs = logs-filled;
    spent = false;
  }

  -- ---- its logs

  stood-logs : LogsStandThen t after
  stood-logs = logs-then t after

  abbrev filled : List Log
  filled = t.follows.settles.logs.filled

  abbrev Row : Bool → ℕ → List (Option Piece)
  Row b c = get_or (if b then set m.logs r (with_line s t.number (log_of m r)) else m.logs) c []

  rows : (b : Bool) → MatchBool b (FillsLog s t.number r logs filled) (filled ≡ logs) → (c i : ℕ) → c < length filled
      → get_or (Row b c) i None ≡ piece_in (slot_in filled c i)
  rows false same c i below = row-at logs c i ∙ ap (λ ls. piece_in (slot_in ls c i)) (sym same)
  rows true fill c i below = elim (cases_eq c r) [
    | inl is ↦
        let row : log_of m r ≡ pieces_in fill.was = log-is ∙ ap pieces_of fill.there in
        let inside : r < length m.logs = (let lt = slice_get_within logs r fill.was fill.there in omega (arith, lt, length-map logs pieces_in)) in
        ap (λ k. get_or (Row true k) i None) is
        ∙ ap (λ l. get_or l i None) (get_or-set_same m.logs r (with_line s t.number (log_of m r)) [] inside)
        ∙ ap (λ l. get_or (with_line s t.number l) i None) row
        ∙ filled-row t.held.logs_stand t.number r fill i
        ∙ ap (λ k. piece_in (slot_in filled k i)) (sym is)
    | inr other ↦
        ap (λ l. get_or l i None) (get_or-set_other m.logs r c (with_line s t.number (log_of m r)) [] other)
        ∙ row-at logs c i
        ∙ ap (λ o. piece_in (slot_of o i)) (sym (slice_get-set_other logs r c fill.now other))
        ∙ ap (λ ls. piece_in (slot_in ls c i)) (sym fill.changed)
  ]

  sizes : (b : Bool) → MatchBool b (FillsLog s t.number r logs filled) (filled ≡ logs) → (c : ℕ) (log : Log) → slice_get filled c ≡ Some log
      → length (Row b c) ≡ length log.slots
  sizes false same c log at =
      let there = ap (λ ls. slice_get ls c) (sym same) ∙ at in
      ap length (get_or_from_slice_get m.logs c (pieces_in log) [] (slice_get-map_some pieces_in logs c log there)) ∙ length-map log.slots piece_in
  sizes true fill c log at = elim (cases_eq c r) [
    | inl is ↦
        let inside = slice_get_within logs r fill.was fill.there in
        let within : r < length m.logs = omega (arith, inside, length-map logs pieces_in) in
        let now : fill.now ≡ log = same_Some fill.now log (sym (slice_get-set_same logs r fill.now inside)
        ∙ ap (λ ls. slice_get ls r) (sym fill.changed) ∙ ap (slice_get filled) (sym is) ∙ at) in
        let row : log_of m r ≡ pieces_in fill.was = log-is ∙ ap pieces_of fill.there in
        ap (λ k. length (Row true k)) is
        ∙ ap length (get_or-set_same m.logs r (with_line s t.number (log_of m r)) [] within)
        ∙ length-with_pieces (empty_slots (log_of m r)) (pieces_of_line s t.number) (log_of m r)
        ∙ ap length row ∙ length-map fill.was.slots piece_in ∙ sym (ap (λ f. f.slots) fill.fills.frame) ∙ ap (λ (l : Log). length l.slots) now
    | inr other ↦
        let there = sym (slice_get-set_other logs r c fill.now other) ∙ ap (λ ls. slice_get ls c) (sym fill.changed) ∙ at in
        ap length (get_or-set_other m.logs r c (with_line s t.number (log_of m r)) [] other)
        ∙ ap length (get_or_from_slice_get m.logs c (pieces_in log) [] (slice_get-map_some pieces_in logs c log there))
        ∙ length-map log.slots piece_in
  ]

  logs-then-are : (without_dead had).logs ≡ map pieces_in t.logs_then
  logs-then-are = logs-are stood-logs.filled t.follows.settles.logs.settles had
      (rows (event t).fills t.follows.settles.logs.fill) (sizes (event t).fills t.follows.settles.logs.fill) (sym stood-logs.filled.sized)
      stood-logs.change

  -- the moment that is kept is the machine's next one
  pub step-is : moment_then t after ≡ step m (record { client = r })
  step-is =
      sym (ap (step_at m r) next-is ∙ ap (step_line m r t.number) t.is ∙ ap (after_event m r t.number t.line) event-is
      ∙ ap without_dead had-is ∙ (λ i. record (moment_then t after) { logs = logs-then-are i }))

  -- ---- all that is kept

  phase-same : (a : Option Answer) → (turns_with turns r a).phase ≡ turns.phase
  phase-same None = refl
  phase-same (Some a) = refl

  job-same : (a : Option Answer) → (turns_with turns r a).job ≡ turns.job
  job-same None = refl
  job-same (Some a) = refl

  places-same : (a : Option Answer) → length (turns_with turns r a).places ≡ length turns.places
  places-same None = refl
  places-same (Some a) = length-set turns.places r (slice_index turns.places r + 1)

  given-is : (a : Option Answer) → t.answer ≡ a → given_then t ≡ answer_at (answers_with t.number a answers.list)
  given-is a is = ap (λ b. answer_at (answers_with t.number b answers.list)) is

  upto-then : (a : Option Answer) → t.answer ≡ a → (q : ℕ) → q < s.shape.clients
      → IsAnsweredUpTo s (given_then t) q (slice_index (turns_with turns r a).places q)
  upto-then None is q within =
      subst (λ A. IsAnsweredUpTo s A q (slice_index turns.places q)) (sym (given-is None is)) (t.held.upto q within)
  upto-then (Some a) is q within =
      let adds = subst (AddsAnswer (given t) t.number a) (sym (given-is (Some a) is)) (AddsAnswer-put answers.list t.number a) in
      let place = slice_index turns.places r in
      elim (cases_eq q r) [
        | inl same ↦
            let bound = t.within in
            let size = t.held.clients in
            subst (λ i. IsAnsweredUpTo s (given_then t) i (slice_index (after_line turns r).places i)) (sym same)
            (subst (IsAnsweredUpTo s (given_then t) r) (sym (get_or-set_same turns.places r (place + 1) 0 (omega (arith, bound, size))))
            (upto-own (stands_next t) (given_then t) a adds))
        | inr other ↦
            subst (IsAnsweredUpTo s (given_then t) q) (sym (get_or-set_other turns.places r q (place + 1) 0 other))
            (upto-other s q (slice_index turns.places q) t.line adds t.is (λ e. other (sym e ∙ rank-is t)) (t.held.upto q within))
      ]

  past-then : (k : ℕ) → IsSome (given_then t k) → phase s k ≤ turns.phase
  past-then k counts = elim (cases_eq k t.number) [
    | inl is ↦ (let here = ap (phase s) is ∙ t.now in omega (arith, here))
    | inr other ↦ t.held.past k (after.back k other counts)
  ]

  pub Holds-after : Holds s paths (states_then t) (answers_then t after) (turns_with turns r t.answer) (tasks_after t) t.logs_then
  Holds-after = record {
    job = t.held.job;
    same = job-same t.answer ∙ t.held.same;
    named = t.held.named;
    kept = length-set states t.place t.then ∙ t.held.kept;
    clients = places-same t.answer ∙ t.held.clients;
    tasked = length-set tasks r t.task_then ∙ t.held.tasked;
    few = t.held.few;
    room = t.held.room;
    upto = upto-then t.answer refl;
    past = λ k counts. subst (λ p. phase s k ≤ p) (sym (phase-same t.answer)) (past-then k counts);
    each = λ i p x at there.
        subst (λ now. Stands s (given_then t) now p x) (sym (phase-same t.answer)) (after.each i p x at there);
    path_holds = λ i x there.
        let p = slice_get-some paths i (let lt = slice_get_within (states_then t) i x there in
        omega (arith, lt, length-set states t.place t.then, t.held.kept)) in
        path-holds-then t after i p.0 x p.1 there;
    tasks_stand = tasks-then t after;
    looked_up = looked-then t after;
    logs_stand = stood-logs.stands;
  }

-- what the line has pending then is of its parts
module _ {s : Job} {paths : List (List ℕ)} {states : List PathState} {answers : Given} {turns : Places} {tasks : List Task}
    {logs : List Log} {r : ℕ} (t : Stepped s paths states answers turns tasks logs r) where
  parts-then : (a : Answer) → t.answer ≡ Some a → (event t).fills ≡ true → (q : Piece) → is_some (pending_hold t.own q) ≡ true
      → q.line ≡ t.number → q.part < need s t.number
  parts-then a is fills q waits here =
      let list = ap (λ b. answer_at (answers_with t.number b answers.list)) is in
      let adds = subst (AddsAnswer (given t) t.number a) (sym list) (AddsAnswer-put answers.list t.number a) in
      let after = t.follows.settles.logs in
      let fill = subst (λ b. MatchBool b (FillsLog s t.number r logs after.filled) (after.filled ≡ logs)) fills after.fill in
      let filled = filled-stands t.held.logs_stand (given_then t) t.number r (ap rank_in t.is ∙ ap Some (rank-is t)) (not-answered t)
      (λ k given_one. still-answered k adds given_one) (ap is_some adds.added) fill in
      let h = some_of (pending_hold t.own q) waits in
      let held = t.follows.settles.stand.pending q h.0 h.1 in
      let part = (filled.slots h.0.rank h.0.slot (stored_part s h.0.piece) held.1.piece).part in
      subst (λ k. q.part < need s k) here (subst (λ (x : Piece). x.part < need s x.line) held.0 part)

  pub paths-after : PathsAfter t
  paths-after = by t.answer refl where
    by : (a : Option Answer) → t.answer ≡ a → PathsAfter t
    by None is = paths-unanswered t is
    by (Some a) is = paths-answered t a is (parts-then a is)
