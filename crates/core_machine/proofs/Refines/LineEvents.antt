-- One event of a client's next line: what is kept for its path and by the client is sound for it, and all that is kept after it
-- holds, and stands for the machine's next moment.
use Rattle.fs_types.proofs.Common.{◌≡◌, ◌≢◌, ℕ, false, List, [], ◌∷◌, ◌++◌, set, slice_get, slice_index, Option, Some, None, refl}
use Rattle.fs_types.proofs.Common.{sym, ap, ◌∙◌, subst, arith, same_Some, slice_get-get_or, bytes_eq, bytes_eq-Decides}
use Rattle.fs_types.proofs.Common.{if◌then◌else◌, inl, inr, cases_Bool, true≢false}
use Rattle.slot_plain.specs.Log.{Log}
use Rattle.fs_script.specs.Vocabulary.{Answer, Given, Job, after_answer, answer_at, commits, op_at, own_op}
use Rattle.fs_script.proofs.CallerLemmas.{AddsAnswer-put, other_bytes, over_answers-agree, program-op, same_bytes}
use Rattle.fs_script.proofs.CallerLemmas.{slice_get-map_some, slice_get-some}
use Rattle.core_machine.specs.Follows.{FollowsAt, IsSoundAt}
use Rattle.core_machine.specs.Kept.{owned_of}
use Rattle.core_machine.specs.PathStates.{AreKept, AreToldBut, own_parts, pending_after, state_of, states_in}
use Rattle.core_machine.specs.Vocabulary.{Book, FollowsBy, Holds, KeptBoard, KeptClient, OpLine, OwnedPath, PathState, Places, PlainHold, Task}
use Rattle.core_machine.specs.Vocabulary.{Event, answers_with, doing_of, free_in, kept_now, lines_then, moment_of, noted_now, own_of, path_at, step, told_in}
use Rattle.core_machine.proofs.Places.{StandsNext}
use Rattle.core_machine.proofs.Refines.Clients.{IsOwn, over_answers-own}
use Rattle.core_machine.proofs.Refines.Goes.{GoesNow}
use Rattle.core_machine.proofs.Refines.NextAnswers.{AgreeBefore-elsewhere}
use Rattle.core_machine.proofs.Refines.Sound.{sound-for}
use Rattle.core_machine.proofs.Refines.StatesOfPaths.{own-elsewhere, parts-at, parts-same, parts-set, states-set}
use Rattle.core_machine.proofs.Refines.Stepped.{Stepped, own-next, own_op-other, states_then, turns_with}
use Rattle.core_machine.proofs.Refines.Steps.{Holds-after, paths-after, step-is}
use Rattle.core_machine.proofs.Refines.Told.{told-ended, told-same}
use Rattle.core_machine.proofs.EventsFollow.{noted-kept}
use Rattle.core_machine.proofs.QuietOperations.{commits-nothing}

-- ---- the line

-- the next line of client r, which goes
pub record NextLine (s : Job) (paths : List (List ℕ)) (books : List (Book PlainHold)) (board : KeptBoard) (clients : List KeptClient)
    (answers : Given) (turns : Places) (tasks : List Task) (logs : List Log) (r : ℕ) : Type 0 where
  pub kept : AreKept s books clients
  pub held : Holds s paths (states_in s books board clients answers paths) answers turns tasks logs
  pub number : ℕ
  pub line : OpLine
  pub goes : GoesNow s turns r number
  pub is : op_at s number ≡ Some line

module _ {s : Job} {paths : List (List ℕ)} {books : List (Book PlainHold)} {board : KeptBoard} {clients : List KeptClient} {answers : Given}
    {turns : Places} {tasks : List Task} {logs : List Log} {r : ℕ} (t : NextLine s paths books board clients answers turns tasks logs r) where
  pub line-rank : t.line.rank ≡ r
  line-rank =
      let own = program-op s r (slice_index turns.places r) t.number t.goes.next in
      ap (λ (o : OpLine). o.rank) (same_Some t.line own.0 (sym t.is ∙ own.1)) ∙ own.2

  -- the place of its path
  place : (i : ℕ) × (slice_get paths i ≡ Some t.line.path)
  place =
      let named = t.held.named.each t.line.path (record { line = t.number; op = t.line; is = t.is; on = refl }) in
      (named.0, slice_get-get_or paths named.0 t.line.path named.1 ∙ ap Some named.2)

  -- the lines that are pending for a client on a path
  abbrev pub lines : ℕ → List ℕ → List ℕ
  lines = pending_after s (answer_at answers.list)

  abbrev state_was : List ℕ → PathState
  state_was = state_of (path_at books) (told_in board) lines clients

  pub sound-line : IsSoundAt t.line.path s t.number t.line.op t.line.rank books board clients tasks logs (lines r t.line.path)
  sound-line =
      let p = t.line.path in
      let within = t.goes.within in
      let c = slice_get-some clients r (let many = t.kept.ranks in omega (arith, many, within)) in
      let task = slice_get-some tasks r (let many = t.held.tasked in omega (arith, many, within)) in
      subst (λ i. IsSoundAt p s t.number t.line.op i books board clients tasks logs (lines r p)) (sym line-rank) (record {
        client = c.0;
        beside = c.1;
        task = task.0;
        midst = task.1;
        sound = sound-for t.held r t.number t.line place.0 (state_was p) (own_of c.0 p (lines r p)) task.0 within t.goes.next t.is place.1
            (slice_get-map_some state_was paths place.0 p place.1) (parts-at (λ k. lines k p) p clients r c.0 c.1) task.1;
      })

  -- ---- the lines that are pending once it had this answer, or none

  abbrev lines_with : Option Answer → ℕ → List ℕ → List ℕ
  lines_with b = pending_after s (answer_at (answers_with t.number b answers.list))

  lines-own : (b : Option Answer) → lines_with b r t.line.path ≡ lines_then t.line.op t.number (lines r t.line.path) b
  lines-own None = refl
  lines-own (Some a) =
      let stands : StandsNext s (answer_at answers.list) r (slice_index turns.places r) t.number =
      record { upto = t.held.upto r t.goes.within; here = t.goes.next } in
      let own = subst (λ i. IsOwn s (answer_at answers.list) i t.line.path t.number t.line) line-rank (own-next stands t.is) in
      over_answers-own after_answer [] (AddsAnswer-put answers.list t.number a) own

  lines-other : (b : Option Answer) (q : ℕ) (p : List ℕ) → (t.line.rank ≡ q → t.line.path ≡ p → ⊥) → lines_with b q p ≡ lines q p
  lines-other None q p other = refl
  lines-other (Some a) q p other =
      let none = ap (own_op q p) t.is ∙ own_op-other t.line q p other in
      sym (over_answers-agree after_answer [] s q p (answer_at answers.list) (answer_at (answers_with t.number (Some a) answers.list)) _
      (AgreeBefore-elsewhere s q p _ _ t.number a _ (AddsAnswer-put answers.list t.number a) none))

  -- ---- after its event, by what is kept then for its path, by the client and of the logs
  module _ {books' : List (Book PlainHold)} {clients' : List KeptClient} {tasks' : List Task} {logs' : List Log} {a : Option Answer}
      (f : FollowsAt t.line.path s t.number t.line.op t.line.rank books books' board clients clients' tasks tasks' logs logs'
      (lines r t.line.path) a) where
    follows : FollowsAt t.line.path s t.number t.line.op r books books' board clients clients' tasks tasks' logs logs' (lines r t.line.path) a
    follows = subst (λ i. FollowsAt t.line.path s t.number t.line.op i books books' board clients clients' tasks tasks' logs logs'
        (lines r t.line.path) a) line-rank f

    abbrev pub given_after : Given
    given_after = record { lines = answers.lines; list = answers_with t.number a answers.list }

    abbrev state_then : List ℕ → PathState
    state_then = state_of (path_at books') (told_in board) (lines_with a) clients'

    parts-then : (state_then t.line.path).clients
        ≡ set (state_was t.line.path).clients r (own_of follows.now t.line.path (lines_then t.line.op t.number (lines r t.line.path) a))
    parts-then =
        let p = t.line.path in
        ap (own_parts (λ k. lines_with a k p) p) follows.changed
        ∙ parts-set (λ k. lines k p) (λ k. lines_with a k p) p clients r follows.now
        (λ k other. lines-other a k p (λ e same. other (sym e ∙ line-rank)))
        ∙ ap (λ ls. set (state_was p).clients r (own_of follows.now p ls)) (lines-own a)

    abbrev stepped : Stepped s paths (states_in s books board clients answers paths) answers turns tasks logs r
    stepped = record {
      held = t.held;
      within = t.goes.within;
      number = t.number;
      line = t.line;
      next = t.goes.next;
      is = t.is;
      now = t.goes.now;
      place = place.0;
      at = place.1;
      was = state_was t.line.path;
      there = slice_get-map_some state_was paths place.0 t.line.path place.1;
      client = own_of follows.was t.line.path (lines r t.line.path);
      beside = parts-at (λ k. lines k t.line.path) t.line.path clients r follows.was follows.beside;
      task = follows.task_was;
      midst = follows.midst;
      answer = a;
      then = state_then t.line.path;
      own = own_of follows.now t.line.path (lines_then t.line.op t.number (lines r t.line.path) a);
      task_then = follows.task_now;
      logs_then = logs';
      changed = parts-then;
      follows = follows.follows;
      whole = follows.whole;
    }

    -- the books have of another path what they had
    path-other : (q : List ℕ) → q ≢ t.line.path → path_at books' q ≡ path_at books q
    path-other q other = follows.changes.changes q
        ∙ ap (λ b. if b then path_at books' t.line.path else path_at books q) (other_bytes q t.line.path other)

    state-other : (q : List ℕ) → q ≢ t.line.path → state_then q ≡ state_was q
    state-other q other =
        let same : (k : ℕ) → lines_with a k q ≡ lines k q = λ k. lines-other a k q (λ _ e. other (sym e)) in
        let parts = ap (own_parts (λ k. lines_with a k q) q) follows.changed
        ∙ (λ i. own_parts (λ k. same k i) q (set clients r follows.now))
        ∙ parts-same (λ k. lines k q) q clients r follows.was follows.now follows.beside (own-elsewhere follows.elsewhere q other (lines r q)) in
        λ i. record { owned = owned_of (path-other q other i) (told_in board q); clients = parts i }

    abbrev pub states_after : List PathState
    states_after = states_in s books' board clients' given_after paths

    states-are : states_after ≡ states_then stepped
    states-are = states-set state_was state_then paths place.0 t.line.path t.held.named.rising place.1 state-other

    pub holds-line : Holds s paths states_after given_after (turns_with turns r a) tasks' logs'
    holds-line =
        subst (λ xs. Holds s paths xs given_after (turns_with turns r a) tasks' logs') (sym states-are)
        (subst (λ us. Holds s paths (states_then stepped) given_after (turns_with turns r a) us logs') (sym follows.goes_on)
        (Holds-after stepped (paths-after stepped)))

    pub step-line : moment_of s paths states_after given_after (turns_with turns r a) tasks' logs' false
        ≡ step (moment_of s paths (states_in s books board clients answers paths) answers turns tasks logs false) (record { client = r })
    step-line =
        ap (λ xs. moment_of s paths xs given_after (turns_with turns r a) tasks' logs' false) states-are
        ∙ ap (λ us. moment_of s paths (states_then stepped) given_after (turns_with turns r a) us logs' false) follows.goes_on
        ∙ step-is stepped (paths-after stepped)

    -- where what is noted of its path stays, all clients go on knowing of the paths that they knew of
    told-kept : {changing : List ℕ} → noted_now (state_then t.line.path).owned.path ≡ noted_now (state_was t.line.path).owned.path
        → AreToldBut s changing board books → AreToldBut s changing board books'
    told-kept kept = told-same (λ q. elim (cases_Bool (bytes_eq q t.line.path)) [
      | inl here ↦
          let same = (bytes_eq-Decides q t.line.path).0 here in
          ap (λ p. noted_now (path_at books' p)) same ∙ kept ∙ ap (λ p. noted_now (path_at books p)) (sym same)
      | inr off ↦ ap noted_now (path-other q (λ e. true≢false (sym (same_bytes q t.line.path e) ∙ off)))
    ])

    -- so it is where the line goes on
    pub told-on : {changing : List ℕ} → a ≡ None → AreToldBut s changing board books → AreToldBut s changing board books'
    told-on none =
        let all = subst (FollowsBy s t.number t.line.op follows.task_was follows.follows.event (state_was t.line.path).owned
        (own_of follows.was t.line.path (lines r t.line.path)) (state_then t.line.path).owned
        (own_of follows.now t.line.path (lines_then t.line.op t.number (lines r t.line.path) a))) none follows.follows.kept in
        told-kept (ap (λ (x : OwnedPath). noted_now x.path) all.owned)

    -- and where it ends, and is of an operation that is never committed
    pub told-quiet : {changing : List ℕ} (answer : Answer) → a ≡ Some answer → commits t.line.op (0 ∷ []) ≡ false
        → AreToldBut s changing board books → AreToldBut s changing board books'
    told-quiet answer is none =
        let all = subst (FollowsBy s t.number t.line.op follows.task_was follows.follows.event (state_was t.line.path).owned
        (own_of follows.was t.line.path (lines r t.line.path)) (state_then t.line.path).owned
        (own_of follows.now t.line.path (lines_then t.line.op t.number (lines r t.line.path) a))) is follows.follows.kept in
        let quiet = ap (λ (e : Event). e.commits) follows.follows.is
        ∙ commits-nothing s (kept_now s (state_was t.line.path).owned (own_of follows.was t.line.path (lines r t.line.path)) (free_in logs r))
        (doing_of follows.task_was) t.line.op none in
        told-kept (noted-kept all quiet)

    -- any other changes its own path alone
    pub told-then : {changing : List ℕ} → AreToldBut s changing board books → AreToldBut s (changing ++ t.number ∷ []) board books'
    told-then told = told-ended t.number t.line t.is path-other told
