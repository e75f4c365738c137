-- What the clients are in the midst of after an event.
use Rattle.fs_types.proofs.Common.{◌≡◌, ◌≢◌, ℕ, ◌+◌, List, length, slice_index, slice_get, Option, Some, None}
use Rattle.fs_types.proofs.Common.{same_Some, refl, sym, ap, ◌∙◌, subst, inl, inr, arith, cases_eq, cond_both}
use Rattle.fs_types.proofs.Common.{nat_lt, slice_get_within, get_or-set_other, length-set}
use Rattle.fs_types.specs.declared.attr.Attr.{Attr}
use Rattle.slot_plain.specs.Log.{Log}
use Rattle.owner_book.specs.Calls.{attr}
use Rattle.fs_script.specs.Vocabulary.{Answer, File, Given, Job, Mark, op_at, program, marks_at, marks_in, range_of, runs, view_of}
use Rattle.fs_script.specs.declared.line.Op.TheVariants as ops
use Rattle.fs_script.proofs.CallerLemmas.{place_unique, slice_get-some, slice_get-set_same, slice_get-set_other}
use Rattle.core_machine.specs.Vocabulary.{Op, OpLine, PathState, OwnedPath, Task, Idle}
use Rattle.core_machine.specs.Vocabulary.{Read, Doing, nothing, reading, Event, PathNow}
use Rattle.core_machine.specs.Vocabulary.{HasAttr, Places, attr_seen, free_in, MayBeIn, StandsForLookUp, StandsForTask, doing_of, event_of}
use Rattle.core_machine.specs.Vocabulary.{kept_now, known_of, next_in, lookup_over, read_event, create_over}
use Rattle.core_machine.specs.Events.Open.{open_over}
use Rattle.core_machine.proofs.EventsFollow.{known-file}
use Rattle.core_machine.proofs.Legal.Measured.{event_of-measured, Falls}
use Rattle.core_machine.proofs.Refines.LinesAnswered.{PathsAfter, KeepsVersions}
use Rattle.core_machine.proofs.Refines.LogsAfter.{whole-then}
use Rattle.core_machine.proofs.Refines.StandThen.{pins-then}
use Rattle.core_machine.proofs.Refines.Stepped.{Stepped, event, given, given_then, states_then, tasks_after, turns_with, looked_up, next-in, stood}

-- ---- the version that an event looks up

-- a read that begins looks up the version now, and one under way goes on with the one that it has
abbrev version_seen : PathNow → Doing → ℕ
version_seen w nothing = w.version
version_seen w (reading f) = f.version

abbrev LooksUp : ℕ → Doing → Type 0
LooksUp v nothing = Unit {0}
LooksUp v (reading e) = e.version ≡ v

looks-up : (s : Job) (w : PathNow) (d : Doing) (op : Op) → LooksUp (version_seen w d) (event_of s w d op).doing
looks-up s w d ops.Create = by w.file where
  by : (f : File ℕ) → LooksUp (version_seen w d) (create_over w f).doing
  by None = tt
  by (Some f) = tt
looks-up s w d ops.Open = by w.file where
  by : (f : File ℕ) → LooksUp (version_seen w d) (open_over w f).doing
  by None = tt
  by (Some f) = tt
looks-up s w d (ops.Write off text) = grind (arith)
looks-up s w d ops.Sync = grind (arith)
looks-up s w d (ops.Read off len own) = by d where
  over : (f : File (Option Mark)) → LooksUp w.version (lookup_over w f (range_of off len own)).doing
  over None = tt
  over (Some f) = refl

  by : (e : Doing) → LooksUp (version_seen w e) (read_event s w e (range_of off len own)).doing
  by nothing = cond_both w.is_open _ _ (λ (e : Event). LooksUp w.version e.doing)
      (λ _. over (view_of s (marks_in s) own w.pending w.marks)) (λ _. tt)
  by (reading f) = cond_both (nat_lt f.fetched (length (runs f.marks))) _ _ (λ (e : Event). LooksUp f.version e.doing) (λ _. refl) (λ _. tt)
looks-up s w d ops.Size = grind (arith)
looks-up s w d (ops.Trunc n) = grind (arith)
looks-up s w d ops.Laminate = grind (arith)
looks-up s w d ops.Unlink = grind (arith)

module _ {s : Job} {paths : List (List ℕ)} {states : List PathState} {answers : Given} {turns : Places} {tasks : List Task}
    {logs : List Log} {r : ℕ} (t : Stepped s paths states answers turns tasks logs r) (after : PathsAfter t) where
  abbrev seen_now : PathNow
  seen_now = kept_now s t.was.owned t.client (free_in logs r)

  -- an answer ends the line
  idle-then : (a : Answer) → t.answer ≡ Some a → t.task_then ≡ Idle
  idle-then a is = by t.task_then (sym t.follows.doing ∙ ends) where
    falls : Falls t.line.op (doing_of t.task) (Some a) (event t).doing
    falls = subst (λ b. Falls t.line.op (doing_of t.task) b (event t).doing) (t.follows.answer ∙ is)
        (subst (λ (e : Event). Falls t.line.op (doing_of t.task) e.answer e.doing) (sym t.follows.is)
        (event_of-measured s seen_now (doing_of t.task) t.line.op).falls)

    ends : (event t).doing ≡ nothing
    ends = falls

    by : (u : Task) → doing_of u ≡ nothing → u ≡ Idle
    by Idle e = refl
    by (Read d) e = absurd cc

  task-own : (u : Task) → slice_get (tasks_after t) r ≡ Some u → u ≡ t.task_then
  task-own u at = same_Some u t.task_then (sym at ∙ slice_get-set_same tasks r t.task_then (slice_get_within tasks r t.task t.midst))

  task-other : (c : ℕ) (u : Task) → c ≢ r → slice_get (tasks_after t) c ≡ Some u → slice_get tasks c ≡ Some u
  task-other c u other at = sym (slice_get-set_other tasks r c t.task_then other) ∙ at

  -- another client's next line stays
  next-other : (a : Option Answer) (c : ℕ) → c ≢ r → next_in (turns_with turns r a) c ≡ next_in turns c
  next-other None c other = refl
  next-other (Some a) c other =
      ap (slice_get (program turns.job c)) (get_or-set_other turns.places r c (slice_index turns.places r + 1) 0 other)

  -- ---- each is whole, and may be in the midst of its line

  own-line : (a : Option Answer) → t.answer ≡ a → (n : ℕ) (o : OpLine) → next_in (turns_with turns r a) r ≡ Some n → op_at s n ≡ Some o
      → MayBeIn o.op t.task_then
  own-line (Some a) is n o at op = subst (MayBeIn o.op) (sym (idle-then a is)) tt
  own-line None is n o at op =
      let same : t.number ≡ n = same_Some t.number n (sym (next-in t) ∙ at) in
      let line : t.line ≡ o = same_Some t.line o (sym t.is ∙ ap (op_at s) same ∙ op) in
      subst (λ (l : OpLine). MayBeIn l.op t.task_then) line t.whole.midst

  pub tasks-then : (c : ℕ) (u : Task) → slice_get (tasks_after t) c ≡ Some u → StandsForTask s (turns_with turns r t.answer) t.logs_then c u
  tasks-then c u at = record {
    task = whole-then t after c u at;
    pins = pins-then t after c u at;
    line = λ n o next op. elim (cases_eq c r) [
      | inl is ↦
          let own = task-own u (ap (slice_get (tasks_after t)) (sym is) ∙ at) in
          subst (MayBeIn o.op) (sym own) (own-line t.answer refl n o (ap (next_in (turns_with turns r t.answer)) (sym is) ∙ next) op)
      | inr other ↦ (t.held.tasks_stand c u (task-other c u other at)).line n o (sym (next-other t.answer c other) ∙ next) op
    ];
  }

  -- ---- the versions that they looked up

  looks-then : (x y : OwnedPath) → KeepsVersions t x y → (u : Task) → StandsForLookUp s (given t) x u → StandsForLookUp s (given_then t) y u
  looks-then x y keeps Idle is = record { within = tt; known = tt }
  looks-then x y keeps (Read d) is =
      let within = is.within in
      record { within = omega (arith, within, keeps.longer); known = is.known ∙ ap known_of (keeps.same d.version within) }

  -- what the owner has of the file now is known of it
  known-now : attr t.was.owned.path ≡ known_of (marks_at s (given t) t.was.owned.path.journal (length t.was.owned.path.journal))
  known-now = known-file t.was.owned.path.file ∙ ap known_of (stood t).owned.marks

  -- what the client whose event it is has looked up, by what was kept
  own-looks : (u : Task) → doing_of u ≡ (event t).doing → HasAttr (attr_seen t.was.owned t.task) u → StandsForLookUp s (given t) t.was.owned u
  own-looks Idle is has = record { within = tt; known = tt }
  own-looks (Read d) is has =
      by t.task (subst (LooksUp (version_seen seen_now (doing_of t.task))) (sym is)
      (subst (λ (e : Event). LooksUp (version_seen seen_now (doing_of t.task)) e.doing) (sym t.follows.is)
      (looks-up s seen_now (doing_of t.task) t.line.op))) has (looked_up t)
    where
      known_at : ℕ → Attr
      known_at v = known_of (marks_at s (given t) t.was.owned.path.journal v)

      by : (v : Task) → d.version ≡ version_seen seen_now (doing_of v) → d.attr ≡ attr_seen t.was.owned v
          → StandsForLookUp s (given t) t.was.owned v → StandsForLookUp s (given t) t.was.owned (Read d)
      by Idle at attr_is was = record { within = omega (arith, at); known = attr_is ∙ known-now ∙ ap known_at (sym at) }
      by (Read e) at attr_is was =
          let within = was.within in
          record { within = omega (arith, within, at); known = attr_is ∙ was.known ∙ ap known_at (sym at) }

  pub looked-then : (c : ℕ) (u : Task) (n i : ℕ) (o : OpLine) (x : PathState) → slice_get (tasks_after t) c ≡ Some u
      → next_in (turns_with turns r t.answer) c ≡ Some n → op_at s n ≡ Some o → slice_get paths i ≡ Some o.path
      → slice_get (states_then t) i ≡ Some x → StandsForLookUp s (given_then t) x.owned u
  looked-then c u n i o x at next op place there = elim (cases_eq c r) [
    | inl is ↦
        let own = task-own u (ap (slice_get (tasks_after t)) (sym is) ∙ at) in
        subst (StandsForLookUp s (given_then t) x.owned) (sym own)
        (mine t.answer refl (ap (next_in (turns_with turns r t.answer)) (sym is) ∙ next))
    | inr other ↦
        let lt = slice_get_within (states_then t) i x there in
        let was = slice_get-some states i (omega (arith, lt, length-set states t.place t.then)) in
        let before = t.held.looked_up c u n i o was.0 (task-other c u other at) (sym (next-other t.answer c other) ∙ next) op place was.1 in
        looks-then was.0.owned x.owned (after.versions i was.0 x was.1 there) u before
  ]
    where
      mine : (a : Option Answer) → t.answer ≡ a → next_in (turns_with turns r a) r ≡ Some n → StandsForLookUp s (given_then t) x.owned t.task_then
      mine (Some a) is at_next = subst (StandsForLookUp s (given_then t) x.owned) (sym (idle-then a is)) (record { within = tt; known = tt })
      mine None is at_next =
          let same : t.number ≡ n = same_Some t.number n (sym (next-in t) ∙ at_next) in
          let line : t.line ≡ o = same_Some t.line o (sym t.is ∙ ap (op_at s) same ∙ op) in
          let here : i ≡ t.place = place_unique paths i t.place t.line.path t.held.named.rising
          (place ∙ ap (λ (l : OpLine). Some l.path) (sym line)) t.at in
          looks-then t.was.owned x.owned (after.versions i t.was x (ap (slice_get states) here ∙ t.there) there) t.task_then
          (own-looks t.task_then (sym t.follows.doing) t.follows.attr)
