-- The logs after an event stand for how often each piece is held then, and what is kept is of slots that have its pieces.
use Rattle.fs_types.proofs.Common.{◌≡◌, ◌≢◌, ℕ, ◌+◌, ◌<◌, Bool, true, false, cond, ◌&&◌, ◌||◌, ◌==◌, List, length, slice_get, slice_index}
use Rattle.fs_types.proofs.Common.{Option, Some, None, IsSome, is_some, true≢false, same_Some, refl, sym, ap, ◌∙◌, subst, inl, inr, arith}
use Rattle.fs_types.proofs.Common.{cases_eq, cases_Bool, cond-true, cond-false, eqb-true, length-set, slice_get_within, false_from_ne_true, MatchBool}
use Rattle.slot_plain.specs.Log.{Log}
use Rattle.slot_plain.specs.Slots.{StoredPiece}
use Rattle.fs_script.specs.Vocabulary.{Answer, Given, Job, Piece, op_at, rank_at, rank_in, need}
use Rattle.fs_script.proofs.CallerLemmas.{place_unique, slice_get-set_same, slice_get-set_other}
use Rattle.core_machine.specs.Vocabulary.{OpLine, PathState, PlainHold, Task, Places, Moment, IsTask, FillsLog}
use Rattle.core_machine.specs.Vocabulary.{Stands, StandsForLogs, file_hold, pending_hold, task_hold, keeps}
use Rattle.core_machine.specs.Vocabulary.{holds_kept, holds_of, moment_of, slot_in, stored_part}
use Rattle.core_machine.proofs.Places.{rank-op}
use Rattle.core_machine.proofs.Refines.HoldsKept.{AllStand, FoundFor, found-for, holds-kept}
use Rattle.core_machine.proofs.Refines.LinesAnswered.{PathsAfter}
use Rattle.core_machine.proofs.Refines.Owned.{own-path}
use Rattle.core_machine.proofs.Refines.Readers.{count-none, count-set, task_count}
use Rattle.core_machine.proofs.Refines.SlotsAfter.{filled-kept, filled-stands, settled-stands}
use Rattle.core_machine.proofs.Refines.Stepped.{Stepped, event, given, given_then, list_then, states_then}
use Rattle.core_machine.proofs.Refines.Stepped.{tasks_after, turns_with, rank-is, not-answered}
use Rattle.core_machine.proofs.Refines.Stepped.{stood, client_stood}

module _ {s : Job} {paths : List (List ℕ)} {states : List PathState} {answers : Given} {turns : Places} {tasks : List Task}
    {logs : List Log} {r : ℕ} (t : Stepped s paths states answers turns tasks logs r) (after : PathsAfter t) where
  abbrev pub answers_then : Given
  answers_then = record { lines = answers.lines; list = list_then t }

  abbrev pub before_moment : Moment
  before_moment = moment_of s paths states answers turns tasks logs false

  abbrev pub moment_then : Moment
  moment_then = moment_of s paths (states_then t) answers_then (turns_with turns r t.answer) (tasks_after t) t.logs_then false

  pub all_before : AllStand s paths states answers turns.phase turns.places tasks
  all_before = record {
    named = t.held.named;
    chunk = t.held.job.chunk;
    clients = t.held.job.clients;
    kept = t.held.kept;
    each = t.held.each;
    tasked = t.held.clients ∙ sym t.held.tasked;
    tasks_whole = λ q u at. (t.held.tasks_stand q u at).task;
  }

  places-then : (a : Option Answer) → length (turns_with turns r a).places ≡ length turns.places
  places-then None = refl
  places-then (Some a) = length-set turns.places r (slice_index turns.places r + 1)

  pub whole-then : (q : ℕ) (u : Task) → slice_get (tasks_after t) q ≡ Some u → IsTask s u
  whole-then q u at = elim (cases_eq q r) [
    | inl is ↦ subst (IsTask s) (same_Some t.task_then u (sym (slice_get-set_same tasks r t.task_then (slice_get_within tasks r t.task t.midst))
        ∙ ap (slice_get (tasks_after t)) (sym is) ∙ at)) t.whole.task
    | inr other ↦ (t.held.tasks_stand q u (sym (slice_get-set_other tasks r q t.task_then other) ∙ at)).task
  ]

  pub all_then : AllStand s paths (states_then t) answers_then turns.phase (turns_with turns r t.answer).places (tasks_after t)
  all_then = record {
    named = t.held.named;
    chunk = t.held.job.chunk;
    clients = t.held.job.clients;
    kept = length-set states t.place t.then ∙ t.held.kept;
    each = after.each;
    tasked = places-then t.answer ∙ t.held.clients ∙ sym t.held.tasked ∙ sym (length-set tasks r t.task_then);
    tasks_whole = whole-then;
  }

  -- ---- how often what is kept for the line's path and client holds a piece

  abbrev pub before : Piece → ℕ
  before q = holds_kept t.was.owned t.client t.task q

  abbrev pub after_holds : Piece → ℕ
  after_holds q = holds_kept t.then.owned t.own t.task_then q

  abbrev test : Piece → Task → Bool
  test q u = is_some (task_hold u q)

  tasks-change : (q : Piece) → task_count q (tasks_after t) + cond (test q t.task) 1 0 ≡ task_count q tasks + cond (test q t.task_then) 1 0
  tasks-change q = count-set (test q) tasks r t.task t.task_then t.midst

  nothing : (a b : Bool) → (a ≡ true → ⊥) → (b ≡ true → ⊥) → cond {A = ℕ} (a || b) 1 0 ≡ 0
  nothing true b one two = absurd (one refl)
  nothing false true one two = absurd (two refl)
  nothing false false one two = refl

  -- a piece of another path is kept for neither
  module _ (q : Piece) (o : OpLine) (is : op_at s q.line ≡ Some o) where
    file-path : is_some (file_hold t.was.owned.path.file q) ≡ true → o.path ≡ t.line.path
    file-path held =
        let on = (stood t).owned.pieces q held in (own-path s on.client t.line.path q.line o is on.by_client.own).1

    pending-of : is_some (pending_hold t.client q) ≡ true → (o.rank ≡ t.line.rank) × (o.path ≡ t.line.path)
    pending-of held = own-path s t.line.rank t.line.path q.line o is ((client_stood t).pieces q held).own

    stands-then : Stands s (given_then t) turns.phase t.line.path t.then
    stands-then = after.each t.place t.line.path t.then t.at
        (slice_get-set_same states t.place t.then (slice_get_within states t.place t.was t.there))

    file-path-then : is_some (file_hold t.then.owned.path.file q) ≡ true → o.path ≡ t.line.path
    file-path-then held =
        let on = stands-then.owned.pieces q held in (own-path s on.client t.line.path q.line o is on.by_client.own).1

    own-there : slice_get t.then.clients r ≡ Some t.own
    own-there = ap (λ ks. slice_get ks r) t.changed ∙ slice_get-set_same t.was.clients r t.own (slice_get_within t.was.clients r t.client t.beside)

    pending-of-then : is_some (pending_hold t.own q) ≡ true → (o.rank ≡ t.line.rank) × (o.path ≡ t.line.path)
    pending-of-then held =
        let by_client = (stands-then.clients r t.own own-there).pieces q held in
        let own = own-path s r t.line.path q.line o is by_client.own in
        (own.0 ∙ sym (rank-is t), own.1)

    -- of the piece's own path and client as much more or less is kept as of the line's
    kept-change : (f : FoundFor paths states o) (g : FoundFor paths (states_then t) o)
        → cond (keeps g.state.owned g.client q) 1 0 + cond (keeps t.was.owned t.client q) 1 0
        ≡ cond (keeps f.state.owned f.client q) 1 0 + cond (keeps t.then.owned t.own q) 1 0
    kept-change f g = elim (cases_eq g.place t.place) [
      | inl here ↦ elim (cases_eq o.rank r) [
        | inl mine ↦ same_client here mine
        | inr other ↦ other_client here other
      ]
      | inr elsewhere ↦ other_path elsewhere
    ]
      where
        same_place : g.place ≡ f.place
        same_place = place_unique paths g.place f.place o.path t.held.named.rising g.at f.at

        state-then : g.place ≡ t.place → t.then ≡ g.state
        state-then here = same_Some t.then g.state (sym (slice_get-set_same states t.place t.then (slice_get_within states t.place t.was t.there))
            ∙ ap (slice_get (states_then t)) (sym here) ∙ g.there)

        state-was : g.place ≡ t.place → t.was ≡ f.state
        state-was here = same_Some t.was f.state (sym t.there ∙ ap (slice_get states) (sym here ∙ same_place) ∙ f.there)

        same_client : g.place ≡ t.place → o.rank ≡ r → cond (keeps g.state.owned g.client q) 1 0 + cond (keeps t.was.owned t.client q) 1 0
            ≡ cond (keeps f.state.owned f.client q) 1 0 + cond (keeps t.then.owned t.own q) 1 0
        same_client here mine =
            let own : t.own ≡ g.client = same_Some t.own g.client (sym own-there ∙ ap (slice_get t.then.clients) (sym mine)
            ∙ ap (λ (x : PathState). slice_get x.clients o.rank) (state-then here) ∙ g.beside) in
            let client : t.client ≡ f.client = same_Some t.client f.client (sym t.beside ∙ ap (slice_get t.was.clients) (sym mine)
            ∙ ap (λ (x : PathState). slice_get x.clients o.rank) (state-was here) ∙ f.beside) in
            let now : cond {A = ℕ} (keeps t.then.owned t.own q) 1 0 ≡ cond (keeps g.state.owned g.client q) 1 0 =
            (λ i. cond (keeps ((state-then here i).owned) (own i) q) 1 0) in
            let then_was : cond {A = ℕ} (keeps t.was.owned t.client q) 1 0 ≡ cond (keeps f.state.owned f.client q) 1 0 =
            (λ i. cond (keeps ((state-was here i).owned) (client i) q) 1 0) in
            omega (arith, now, then_was)

        -- two counts of a test and another one, which isn't passed with it
        with_other : (a b c : Bool) → (c ≡ true → a ≡ false) → (c ≡ true → b ≡ false)
            → cond {A = ℕ} (a || c) 1 0 + cond b 1 0 ≡ cond {A = ℕ} (b || c) 1 0 + cond a 1 0
        with_other true true c one two = refl
        with_other true false true one two = absurd (true≢false (one refl))
        with_other true false false one two = refl
        with_other false true true one two = absurd (true≢false (two refl))
        with_other false true false one two = refl
        with_other false false c one two = refl

        alone : (a b : Bool) → (b ≡ true → ⊥) → (a || b) ≡ a
        alone true b one = refl
        alone false true one = absurd (one refl)
        alone false false one = refl

        other_client : g.place ≡ t.place → o.rank ≢ r → cond (keeps g.state.owned g.client q) 1 0 + cond (keeps t.was.owned t.client q) 1 0
            ≡ cond (keeps f.state.owned f.client q) 1 0 + cond (keeps t.then.owned t.own q) 1 0
        other_client here other =
            let then = state-then here in
            let was = state-was here in
            let beside_was : slice_get t.was.clients o.rank ≡ Some f.client = ap (λ (x : PathState). slice_get x.clients o.rank) was ∙ f.beside in
            let beside_then : slice_get t.then.clients o.rank ≡ Some g.client = ap (λ (x : PathState). slice_get x.clients o.rank) then ∙ g.beside in
            let kept_one : slice_get t.then.clients o.rank ≡ Some f.client = ap (λ ks. slice_get ks o.rank) t.changed
            ∙ slice_get-set_other t.was.clients r o.rank t.own other ∙ beside_was in
            let same : f.client ≡ g.client = same_Some f.client g.client (sym kept_one ∙ beside_then) in
            let F = is_some (file_hold t.was.owned.path.file q) in
            let F' = is_some (file_hold t.then.owned.path.file q) in
            let P = is_some (pending_hold f.client q) in
            let mine : is_some (pending_hold t.client q) ≡ true → ⊥ = λ h. other ((pending-of h).0 ∙ rank-is t) in
            let mine_then : is_some (pending_hold t.own q) ≡ true → ⊥ = λ h. other ((pending-of-then h).0 ∙ rank-is t) in
            let apart : P ≡ true → F ≡ false = λ h. ap is_some (((stood t).clients o.rank f.client beside_was).apart q h) in
            let apart_then : P ≡ true → F' ≡ false = λ h. ap is_some ((stands-then.clients o.rank f.client kept_one).apart q h) in
            let g_is : cond {A = ℕ} (F' || P) 1 0 ≡ cond (keeps g.state.owned g.client q) 1 0 =
            (λ i. cond (keeps ((then i).owned) (same i) q) 1 0) in
            let f_is : cond {A = ℕ} (F || P) 1 0 ≡ cond (keeps f.state.owned f.client q) 1 0 = (λ i. cond (keeps ((was i).owned) f.client q) 1 0) in
            let was_is : cond {A = ℕ} (keeps t.was.owned t.client q) 1 0 ≡ cond F 1 0 =
            ap {B = ℕ} (λ b. cond b 1 0) (alone F (is_some (pending_hold t.client q)) mine) in
            let then_is : cond {A = ℕ} (keeps t.then.owned t.own q) 1 0 ≡ cond F' 1 0 =
            ap {B = ℕ} (λ b. cond b 1 0) (alone F' (is_some (pending_hold t.own q)) mine_then) in
            omega (arith, with_other F' F P apart_then apart, g_is, f_is, was_is, then_is)

        other_path : g.place ≢ t.place → cond (keeps g.state.owned g.client q) 1 0 + cond (keeps t.was.owned t.client q) 1 0
            ≡ cond (keeps f.state.owned f.client q) 1 0 + cond (keeps t.then.owned t.own q) 1 0
        other_path elsewhere =
            let off : o.path ≡ t.line.path → ⊥ =
            λ e. elsewhere (place_unique paths g.place t.place t.line.path t.held.named.rising (g.at ∙ ap Some e) t.at) in
            let same : f.state ≡ g.state = same_Some f.state g.state (sym f.there ∙ ap (slice_get states) (sym same_place)
            ∙ sym (slice_get-set_other states t.place g.place t.then elsewhere) ∙ g.there) in
            let client : f.client ≡ g.client = same_Some f.client g.client (sym f.beside
            ∙ ap (λ (x : PathState). slice_get x.clients o.rank) same ∙ g.beside) in
            let both : cond {A = ℕ} (keeps f.state.owned f.client q) 1 0 ≡ cond (keeps g.state.owned g.client q) 1 0 =
            (λ i. cond (keeps ((same i).owned) (client i) q) 1 0) in
            omega (
              arith,
              both,
              nothing _ _ (λ h. off (file-path h)) (λ h. off (pending-of h).1),
              nothing _ _ (λ h. off (file-path-then h)) (λ h. off (pending-of-then h).1),
            )

    -- so all that holds the piece holds it as much more or less often
    held-change : holds_of moment_then o.rank q + before q ≡ holds_of before_moment o.rank q + after_holds q
    held-change =
        let f = found-for turns logs false turns.phase all_before q.line o is in
        let g = found-for (turns_with turns r t.answer) t.logs_then false turns.phase all_then q.line o is in
        let was = holds-kept turns logs false turns.phase all_before q o is f in
        let then = holds-kept (turns_with turns r t.answer) t.logs_then false turns.phase all_then q o is g in
        omega (arith, was, then, kept-change f g, tasks-change q)

  -- ---- the line's own pieces

  -- a slot with a piece of the line would be of a line that was answered
  none-in_slots : (c i : ℕ) (p : StoredPiece) → (slot_in logs c i).piece ≡ Some p → p.id.line ≡ t.number → ⊥
  none-in_slots c i p at here =
      not-answered t (subst (λ k. IsSome (given t k)) here (t.held.logs_stand.slots c i p at).answered)

  -- so no client is in the midst of holding one
  none-held : (q : Piece) → q.line ≡ t.number → (i : ℕ) (u : Task) → slice_get tasks i ≡ Some u → test q u ≡ false
  none-held q here i u at = false_from_ne_true (test q u) (λ holds.
      let h = some-of (task_hold u q) holds in
      let stands = (t.held.tasks_stand i u at).pins q h.0 h.1 in
      none-in_slots h.0.rank h.0.slot (stored_part s h.0.piece) stands.1.piece (ap (λ (x : Piece). x.line) stands.0 ∙ here))
    where
      some-of : (o : Option PlainHold) → is_some o ≡ true → (h : PlainHold) × (o ≡ Some h)
      some-of None is = absurd (true≢false (sym is))
      some-of (Some h) is = (h, refl)

  -- a piece of the line is held by what is kept for its path and client alone
  own-held : (q : Piece) → q.line ≡ t.number → holds_of moment_then r q ≡ after_holds q
  own-held q here =
      let is = ap (op_at s) here ∙ t.is in
      let g = found-for (turns_with turns r t.answer) t.logs_then false turns.phase all_then q.line t.line is in
      let then = holds-kept (turns_with turns r t.answer) t.logs_then false turns.phase all_then q t.line is g in
      let place : g.place ≡ t.place = place_unique paths g.place t.place t.line.path t.held.named.rising g.at t.at in
      let state : t.then ≡ g.state = same_Some t.then g.state
      (sym (slice_get-set_same states t.place t.then (slice_get_within states t.place t.was t.there))
      ∙ ap (slice_get (states_then t)) (sym place) ∙ g.there) in
      let own : t.own ≡ g.client = same_Some t.own g.client (sym (own-there q t.line is) ∙ ap (slice_get t.then.clients) (sym (rank-is t))
      ∙ ap (λ (x : PathState). slice_get x.clients t.line.rank) state ∙ g.beside) in
      let kept : cond {A = ℕ} (keeps t.then.owned t.own q) 1 0 ≡ cond (keeps g.state.owned g.client q) 1 0 =
      (λ i. cond (keeps ((state i).owned) (own i) q) 1 0) in
      let none = count-none (test q) tasks (none-held q here) in
      let task : cond {A = ℕ} (test q t.task) 1 0 ≡ 0 = ap {B = ℕ} (λ b. cond b 1 0) (none-held q here r t.task t.midst) in
      ap (λ c. holds_of moment_then c q) (sym (rank-is t)) ∙ omega (arith, then, kept, none, task, tasks-change q)

  -- ---- the logs

  abbrev pub fills : Bool
  fills = (event t).fills

  abbrev pub before_with : Bool → Piece → ℕ
  before_with b q = cond (b && q.line == t.number) 1 (before q)

  pub record LogsStandThen : Type 0 where
    pub stands : StandsForLogs s (given_then t) (holds_of moment_then) t.logs_then
    -- the logs once the line's pieces are in theirs
    pub filled : StandsForLogs s (given_then t) (λ c q. cond (fills && q.line == t.number) 1 (holds_of before_moment c q))
        t.follows.settles.logs.filled
    pub change : (c : ℕ) (q : Piece) → rank_at s q.line ≡ Some c → IsSome (given_then t q.line) → q.part < need s q.line
        → holds_of moment_then c q + before_with fills q ≡ cond (fills && q.line == t.number) 1 (holds_of before_moment c q) + after_holds q
    pub kept : (c i : ℕ) (p : StoredPiece) → (slot_in logs c i).piece ≡ Some p → slot_in t.follows.settles.logs.filled c i ≡ slot_in logs c i

  -- of a piece that isn't the line's
  change_other : (c : ℕ) (q : Piece) → rank_at s q.line ≡ Some c
      → holds_of moment_then c q + before q ≡ holds_of before_moment c q + after_holds q
  change_other c q of_client =
      let o = rank-op s q.line c of_client in
      subst (λ k. holds_of moment_then k q + before q ≡ holds_of before_moment k q + after_holds q) o.2 (held-change q o.0 o.1)

  change-filled : (b : Bool) (c : ℕ) (q : Piece) → rank_at s q.line ≡ Some c
      → holds_of moment_then c q + before_with b q ≡ cond (b && q.line == t.number) 1 (holds_of before_moment c q) + after_holds q
  change-filled false c q of_client = change_other c q of_client
  change-filled true c q of_client = elim (cases_Bool (q.line == t.number)) [
    | inl is ↦
        let here = eqb-true q.line t.number is in
        let own : r ≡ c = same_Some r c (sym (ap rank_in t.is ∙ ap Some (rank-is t)) ∙ ap (rank_at s) (sym here) ∙ of_client) in
        let held = subst (λ k. holds_of moment_then k q ≡ after_holds q) own (own-held q here) in
        let one = cond-true (q.line == t.number) 1 (before q) is in
        let other = cond-true (q.line == t.number) 1 (holds_of before_moment c q) is in
        omega (arith, held, one, other)
    | inr not ↦
        let one = cond-false (q.line == t.number) 1 (before q) not in
        let other = cond-false (q.line == t.number) 1 (holds_of before_moment c q) not in
        omega (arith, change_other c q of_client, one, other)
  ]

  own_rank : rank_at s t.number ≡ Some r
  own_rank = ap rank_in t.is ∙ ap Some (rank-is t)

  filled-logs : (b : Bool) → fills ≡ b → MatchBool b (FillsLog s t.number r logs t.follows.settles.logs.filled) (t.follows.settles.logs.filled ≡ logs)
      → StandsForLogs s (given_then t) (λ c q. cond (b && q.line == t.number) 1 (holds_of before_moment c q)) t.follows.settles.logs.filled
      × ((c i : ℕ) (p : StoredPiece) → (slot_in logs c i).piece ≡ Some p → slot_in t.follows.settles.logs.filled c i ≡ slot_in logs c i)
  filled-logs true is fill = (
    filled-stands t.held.logs_stand (given_then t) t.number r own_rank (not-answered t) after.grows (after.own is) fill,
    filled-kept t.held.logs_stand (given_then t) t.number r own_rank (not-answered t) after.grows (after.own is) fill,
  )
  filled-logs false is same = (
    subst (StandsForLogs s (given_then t) (holds_of before_moment)) (sym same) (later t.held.logs_stand),
    λ c i p at. ap (λ ls. slot_in ls c i) same,
  )
    where
      later : StandsForLogs s (given t) (holds_of before_moment) logs → StandsForLogs s (given_then t) (holds_of before_moment) logs
      later old = record {
        sized = old.sized;
        each = old.each;
        slots = λ c i p at.
            let stands = old.slots c i p at in
            record {
              stored = stands.stored;
              by_client = stands.by_client;
              answered = after.grows p.id.line stands.answered;
              part = stands.part;
              held = stands.held;
              count_is = stands.count_is;
            };
        free = old.free;
        once = old.once;
      }

  pub logs-then : LogsStandThen
  logs-then =
      let filled = filled-logs fills refl t.follows.settles.logs.fill in
      let change = λ (c : ℕ) (q : Piece) (of_client : rank_at s q.line ≡ Some c). change-filled fills c q of_client in
      record {
        stands = settled-stands filled.0 (given_then t) (holds_of moment_then) t.follows.settles.logs.settles (λ k given_one. given_one)
            (λ c q of_client _ _. change c q of_client);
        filled = filled.0;
        change = λ c q of_client _ _. change c q of_client;
        kept = filled.1;
      }
