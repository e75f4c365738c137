-- Each hold that is kept after an event is of a slot that has its piece.
use Rattle.fs_types.proofs.Common.{◌≡◌, ◌≢◌, ℕ, ◌+◌, ◌<◌, true, false, cond, nat_lt, List, slice_get, Option, Some, None, is_some}
use Rattle.fs_types.proofs.Common.{same_Some, sym, ap, ◌∙◌, subst, inl, inr, arith, cases_eq, cond-true}
use Rattle.fs_types.proofs.Common.{lt-ltb, slice_get_within, or_left, or_right, ◌⊎◌}
use Rattle.slot_plain.specs.Log.{Log}
use Rattle.slot_plain.specs.Slots.{Slot}
use Rattle.fs_script.specs.Vocabulary.{Given, Job, Piece, op_at}
use Rattle.fs_script.proofs.CallerLemmas.{place_unique, slice_get-set_same, slice_get-set_other}
use Rattle.core_machine.specs.Vocabulary.{OpLine, PathState, ClientPath, PlainHold, Task, Places, HoldsStand}
use Rattle.core_machine.specs.Vocabulary.{HoldsOfPath, IsHeldIn, file_hold, pending_hold}
use Rattle.core_machine.specs.Vocabulary.{task_hold, keeps, holds_of, stored_part}
use Rattle.core_machine.proofs.Places.{rank-op}
use Rattle.core_machine.proofs.Refines.HoldsKept.{FoundFor, found-for, holds-kept}
use Rattle.core_machine.proofs.Refines.LinesAnswered.{PathsAfter, cases_client}
use Rattle.core_machine.proofs.Refines.LogsAfter.{LogsStandThen, all_then, logs-then, moment_then}
use Rattle.core_machine.proofs.Refines.Owned.{own-path}
use Rattle.core_machine.proofs.Refines.Readers.{count-some, task_count}
use Rattle.core_machine.proofs.Refines.SlotsAfter.{settled-piece}
use Rattle.core_machine.proofs.Refines.Stepped.{Stepped, given_then, states_then, tasks_after, turns_with}

module _ {s : Job} {paths : List (List ℕ)} {states : List PathState} {answers : Given} {turns : Places} {tasks : List Task}
    {logs : List Log} {r : ℕ} (t : Stepped s paths states answers turns tasks logs r) (after : PathsAfter t) where
  then : LogsStandThen t after
  then = logs-then t after

  -- something holds the piece of a hold, where its line's client is this
  abbrev IsWanted : Piece → Type 0
  IsWanted q = (o : OpLine) → op_at s q.line ≡ Some o → 0 < holds_of (moment_then t after) o.rank q

  -- a hold of a slot that had its piece once the line's pieces were in theirs
  stands-on : (q : Piece) (h : PlainHold) → h.piece ≡ q → IsHeldIn s t.follows.settles.logs.filled h → IsWanted q → IsHeldIn s t.logs_then h
  stands-on q h same held wanted =
      let filled = then.filled.slots h.rank h.slot (stored_part s h.piece) held.piece in
      let o = rank-op s h.piece.line h.rank filled.by_client in
      let some : 0 < holds_of (moment_then t after) h.rank h.piece =
      subst (λ x. 0 < holds_of (moment_then t after) h.rank x) (sym same)
      (subst (λ c. 0 < holds_of (moment_then t after) c q) o.2 (wanted o.0 (ap (λ (x : Piece). op_at s x.line) (sym same) ∙ o.1))) in
      let piece = settled-piece then.filled (given_then t) (holds_of (moment_then t after)) t.follows.settles.logs.settles (λ k given_one. given_one)
      then.change h.rank h.slot (stored_part s h.piece) held.piece
      ∙ cond-true (nat_lt 0 (holds_of (moment_then t after) h.rank h.piece)) (Some (stored_part s h.piece)) None (lt-ltb 0 _ some) in
      record {
        count = (then.stands.slots h.rank h.slot (stored_part s h.piece) piece).held;
        piece = piece;
        bytes = held.bytes;
      }

  -- so do all holds of something
  stand-on : (hold_at : Piece → Option PlainHold) → HoldsStand s t.follows.settles.logs.filled hold_at
      → ((q : Piece) (h : PlainHold) → hold_at q ≡ Some h → IsWanted q) → HoldsStand s t.logs_then hold_at
  stand-on hold_at stand wanted q h at =
      let held = stand q h at in (held.0, stands-on q h held.0 held.1 (wanted q h at))

  -- what stood before stands once the line's pieces are in theirs
  stand-filled : (hold_at : Piece → Option PlainHold) → HoldsStand s logs hold_at → HoldsStand s t.follows.settles.logs.filled hold_at
  stand-filled hold_at stand q h at =
      let held = stand q h at in
      let same = then.kept h.rank h.slot (stored_part s h.piece) held.1.piece in (
        held.0,
        record {
          count = subst (λ (x : Slot). 0 < x.count) (sym same) held.1.count;
          piece = ap (λ (x : Slot). x.piece) same ∙ held.1.piece;
          bytes = held.1.bytes;
        },
      )

  -- ---- what holds a piece then

  module _ (q : Piece) (o : OpLine) (is : op_at s q.line ≡ Some o) where
    kept_at : FoundFor paths (states_then t) o
    kept_at = found-for (turns_with turns r t.answer) t.logs_then false turns.phase (all_then t after) q.line o is

    count-is : holds_of (moment_then t after) o.rank q
        ≡ cond (keeps kept_at.state.owned kept_at.client q) 1 0 + task_count q (tasks_after t)
    count-is = holds-kept (turns_with turns r t.answer) t.logs_then false turns.phase (all_then t after) q o is kept_at

    wanted-kept : keeps kept_at.state.owned kept_at.client q ≡ true → 0 < holds_of (moment_then t after) o.rank q
    wanted-kept kept =
        let one : cond {A = ℕ} (keeps kept_at.state.owned kept_at.client q) 1 0 ≡ 1 = ap {B = ℕ} (λ b. cond b 1 0) kept in
        omega (arith, count-is, one)

    -- found where the path and the client are
    state-is : (j : ℕ) (p : List ℕ) (x : PathState) → o.path ≡ p → slice_get paths j ≡ Some p → slice_get (states_then t) j ≡ Some x
        → x ≡ kept_at.state
    state-is j p x on at there =
        let same = place_unique paths j kept_at.place p t.held.named.rising at (kept_at.at ∙ ap Some on) in
        same_Some x kept_at.state (sym there ∙ ap (slice_get (states_then t)) same ∙ kept_at.there)

    -- a piece of the file of a path
    wanted-file : (j : ℕ) (p : List ℕ) (x : PathState) → slice_get paths j ≡ Some p → slice_get (states_then t) j ≡ Some x
        → is_some (file_hold x.owned.path.file q) ≡ true → 0 < holds_of (moment_then t after) o.rank q
    wanted-file j p x at there held =
        let on = (after.each j p x at there).owned.pieces q held in
        let path = (own-path s on.client p q.line o is on.by_client.own).1 in
        let same = state-is j p x path at there in
        wanted-kept (or_left _ _ (subst (λ (y : PathState). is_some (file_hold y.owned.path.file q) ≡ true) same held))

    -- a pending piece of a client
    wanted-pending : (j : ℕ) (p : List ℕ) (x : PathState) (c : ℕ) (k : ClientPath) → slice_get paths j ≡ Some p
        → slice_get (states_then t) j ≡ Some x → slice_get x.clients c ≡ Some k → is_some (pending_hold k q) ≡ true
        → 0 < holds_of (moment_then t after) o.rank q
    wanted-pending j p x c k at there beside held =
        let by_client = ((after.each j p x at there).clients c k beside).pieces q held in
        let own = own-path s c p q.line o is by_client.own in
        let same = state-is j p x own.1 at there in
        let client : k ≡ kept_at.client = same_Some k kept_at.client (sym beside ∙ ap (slice_get x.clients) (sym own.0)
        ∙ ap (λ (y : PathState). slice_get y.clients o.rank) same ∙ kept_at.beside) in
        wanted-kept (or_right _ _ (subst (λ (l : ClientPath). is_some (pending_hold l q) ≡ true) client held))

    -- a piece that a client is in the midst of holding
    wanted-task : (c : ℕ) (u : Task) → slice_get (tasks_after t) c ≡ Some u → is_some (task_hold u q) ≡ true
        → 0 < holds_of (moment_then t after) o.rank q
    wanted-task c u at held =
        let some = count-some (λ v. is_some (task_hold v q)) (tasks_after t) c u at held in
        omega (arith, count-is, some)

  -- ---- all that is kept

  -- of a path
  pub path-holds-then : (j : ℕ) (p : List ℕ) (x : PathState) → slice_get paths j ≡ Some p → slice_get (states_then t) j ≡ Some x
      → HoldsOfPath s t.logs_then x
  path-holds-then j p x at there = record {
    files = stand-on (file_hold x.owned.path.file) (files-filled (cases_eq j t.place))
        (λ q h held o is. wanted-file q o is j p x at there (ap is_some held));
    pending = λ c k beside.
        stand-on (pending_hold k) (pending-filled c k beside (cases_eq j t.place))
        (λ q h held o is. wanted-pending q o is j p x c k at there beside (ap is_some held));
  }
    where
      state : j ≡ t.place → t.then ≡ x
      state is = same_Some t.then x (sym (slice_get-set_same states t.place t.then (slice_get_within states t.place t.was t.there))
          ∙ ap (slice_get (states_then t)) (sym is) ∙ there)

      before : j ≢ t.place → slice_get states j ≡ Some x
      before other = sym (slice_get-set_other states t.place j t.then other) ∙ there

      files-filled : (j ≡ t.place) ⊎ (j ≢ t.place) → HoldsStand s t.follows.settles.logs.filled (file_hold x.owned.path.file)
      files-filled (inl is) =
          subst (λ (y : PathState). HoldsStand s t.follows.settles.logs.filled (file_hold y.owned.path.file)) (state is) t.follows.settles.stand.files
      files-filled (inr other) = stand-filled (file_hold x.owned.path.file) (t.held.path_holds j x (before other)).files

      pending-filled : (c : ℕ) (k : ClientPath) → slice_get x.clients c ≡ Some k → (j ≡ t.place) ⊎ (j ≢ t.place)
          → HoldsStand s t.follows.settles.logs.filled (pending_hold k)
      pending-filled c k beside (inl is) =
          elim (cases_client t c k (ap (λ (y : PathState). slice_get y.clients c) (state is) ∙ beside)) [
            | inl mine ↦
                subst (λ (l : ClientPath). HoldsStand s t.follows.settles.logs.filled (pending_hold l)) mine.1 t.follows.settles.stand.pending
            | inr other ↦ stand-filled (pending_hold k) ((t.held.path_holds t.place t.was t.there).pending c k other.1)
          ]
      pending-filled c k beside (inr other) = stand-filled (pending_hold k) ((t.held.path_holds j x (before other)).pending c k beside)

  -- and of what a client is in the midst of
  pub pins-then : (c : ℕ) (u : Task) → slice_get (tasks_after t) c ≡ Some u → HoldsStand s t.logs_then (task_hold u)
  pins-then c u at = stand-on (task_hold u) (filled (cases_eq c r)) (λ q h held o is. wanted-task q o is c u at (ap is_some held)) where
    filled : (c ≡ r) ⊎ (c ≢ r) → HoldsStand s t.follows.settles.logs.filled (task_hold u)
    filled (inl is) =
        let same = same_Some t.task_then u (sym (slice_get-set_same tasks r t.task_then (slice_get_within tasks r t.task t.midst))
        ∙ ap (slice_get (tasks_after t)) (sym is) ∙ at) in
        subst (λ (v : Task). HoldsStand s t.follows.settles.logs.filled (task_hold v)) same t.follows.settles.stand.pins
    filled (inr other) =
        stand-filled (task_hold u) (t.held.tasks_stand c u (sym (slice_get-set_other tasks r c t.task_then other) ∙ at)).pins
