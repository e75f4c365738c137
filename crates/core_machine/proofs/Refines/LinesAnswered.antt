-- What is kept for the paths stands for the answers after an event: with one more answer, or with none.
use Rattle.fs_types.proofs.Common.{◌≡◌, ◌≢◌, ℕ, ◌<◌, ◌≤◌, true, false, List, length, set, slice_get, Some, None}
use Rattle.fs_types.proofs.Common.{IsSome, is_some, true≢false, same_Some, refl, sym, ap, subst, ◌∙◌, arith, inl, inr, cases_eq, or_cases}
use Rattle.fs_types.proofs.Common.{length-set, slice_get_within, get_or_from_slice_get, set-get_or, false_from_ne_true, ◌⊎◌}
use Rattle.slot_plain.specs.Log.{Log}
use Rattle.fs_script.specs.Vocabulary.{Answer, Given, answer_at, put_answer, Job, Piece, op_at, own_op, rank_in, need, marks_at, AddsAnswer}
use Rattle.core_machine.specs.Vocabulary.{PathState, ClientPath, OwnedPath, Task, Places, answers_with}
use Rattle.core_machine.specs.Vocabulary.{Follows, FollowsBy, KeepsAll, IsPieceBy, Stands}
use Rattle.core_machine.specs.Vocabulary.{StandsForOwner, StandsForClient, file_hold, pending_hold}
use Rattle.fs_script.proofs.CallerLemmas.{AddsAnswer-put, own_op-rank, slice_get-set_same, slice_get-set_other}
use Rattle.fs_script.proofs.CallerLemmas.{slice_get-some, place_unique, none_from-is_some}
use Rattle.core_machine.proofs.Places.{comes_next}
use Rattle.core_machine.proofs.Refines.Owners.{IsNewAnswer, StandsForOwner-own, StandsForOwner-other, still-answered, length-grown, marks-grown}
use Rattle.core_machine.proofs.Refines.NextAnswers.{marks-answered}
use Rattle.core_machine.proofs.Refines.Clients.{StandsForClient-own, StandsForClient-other}
use Rattle.core_machine.proofs.Refines.Stepped.{Stepped, event, given, given_then, states_then, stands_next, rank-is, is_own, stood, client_stood}
use Rattle.core_machine.proofs.Refines.Stepped.{looked_up, pends, own_op-other}

module _ {s : Job} {paths : List (List ℕ)} {states : List PathState} {answers : Given} {turns : Places} {tasks : List Task}
    {logs : List Log} {r : ℕ} (t : Stepped s paths states answers turns tasks logs r) where
  -- each version of a journal has the same file then
  pub record KeepsVersions (x y : OwnedPath) : Type 0 where
    pub longer : length x.path.journal ≤ length y.path.journal
    pub same : (v : ℕ) → v ≤ length x.path.journal → marks_at s (given t) x.path.journal v ≡ marks_at s (given_then t) y.path.journal v

  -- after the event what is kept stands for the answers then
  pub record PathsAfter : Type 0 where
    pub grows : (k : ℕ) → IsSome (given t k) → IsSome (given_then t k)
    pub back : (k : ℕ) → k ≢ t.number → IsSome (given_then t k) → IsSome (given t k)
    pub own : (event t).fills ≡ true → IsSome (given_then t t.number)
    pub each : (j : ℕ) (p : List ℕ) (x : PathState) → slice_get paths j ≡ Some p → slice_get (states_then t) j ≡ Some x
        → Stands s (given_then t) turns.phase p x
    pub versions : (j : ℕ) (x y : PathState) → slice_get states j ≡ Some x → slice_get (states_then t) j ≡ Some y
        → KeepsVersions x.owned y.owned

  -- the path of each place
  path-at : (j : ℕ) (x : PathState) → slice_get states j ≡ Some x → (p : List ℕ) × (slice_get paths j ≡ Some p)
  path-at j x at = slice_get-some paths j (let lt = slice_get_within states j x at in let size = t.held.kept in omega arith)

  -- what is kept at a place before and after
  kept-places : (P : PathState → PathState → Type 0) → P t.was t.then → ((j : ℕ) (x : PathState) → slice_get states j ≡ Some x → P x x)
      → (j : ℕ) (x y : PathState) → slice_get states j ≡ Some x → slice_get (states_then t) j ≡ Some y → P x y
  kept-places P here others j x y at found = elim (cases_eq j t.place) [
    | inl is ↦
        let was = same_Some t.was x (sym t.there ∙ ap (slice_get states) (sym is) ∙ at) in
        let there = same_Some t.then y (sym (slice_get-set_same states t.place t.then (slice_get_within states t.place t.was t.there))
        ∙ ap (slice_get (states_then t)) (sym is) ∙ found) in
        subst (λ z. P z y) was (subst (P t.was) there here)
    | inr other ↦ subst (P x) (same_Some x y (sym at ∙ sym (slice_get-set_other states t.place j t.then other) ∙ found)) (others j x at)
  ]

  -- the place that changes, and any other
  placed : (P : List ℕ → PathState → Type 0) → P t.line.path t.then
      → ((j : ℕ) (p : List ℕ) (x : PathState) → t.line.path ≢ p → slice_get paths j ≡ Some p → slice_get states j ≡ Some x → P p x)
      → (j : ℕ) (p : List ℕ) (x : PathState) → slice_get paths j ≡ Some p → slice_get (states_then t) j ≡ Some x → P p x
  placed P here others j p x at found = elim (cases_eq j t.place) [
    | inl is ↦
        let path = same_Some t.line.path p (sym t.at ∙ ap (slice_get paths) (sym is) ∙ at) in
        let there = sym (slice_get-set_same states t.place t.then (slice_get_within states t.place t.was t.there))
        ∙ ap (slice_get (states_then t)) (sym is) ∙ found in
        subst (λ q. P q x) path (subst (P t.line.path) (same_Some t.then x there) here)
    | inr other ↦
        others j p x (λ e. other (place_unique paths j t.place t.line.path t.held.named.rising (at ∙ ap Some (sym e)) t.at)) at
        (sym (slice_get-set_other states t.place j t.then other) ∙ found)
  ]

  -- the client whose line it is, and any other
  pub cases_client : (q : ℕ) (k : ClientPath) → slice_get t.then.clients q ≡ Some k
      → ((q ≡ r) × (t.own ≡ k)) ⊎ ((q ≢ r) × (slice_get t.was.clients q ≡ Some k))
  cases_client q k found = elim (cases_eq q r) [
    | inl is ↦ inl (
      is,
      same_Some t.own k (sym (slice_get-set_same t.was.clients r t.own (slice_get_within t.was.clients r t.client t.beside))
          ∙ ap (slice_get (set t.was.clients r t.own)) (sym is) ∙ ap (λ ks. slice_get ks q) (sym t.changed) ∙ found),
    )
    | inr other ↦ inr (other, sym (slice_get-set_other t.was.clients r q t.own other) ∙ ap (λ ks. slice_get ks q) (sym t.changed) ∙ found)
  ]

  -- ---- an event that answers the line

  module _ (a : Answer) (is : t.answer ≡ Some a) (parts : (event t).fills ≡ true → (q : Piece) → is_some (pending_hold t.own q) ≡ true
      → q.line ≡ t.number → q.part < need s t.number) where
    follows : Follows s t.number t.line.op t.task (event t) t.was.owned t.client t.then.owned t.own a
    follows = subst (FollowsBy s t.number t.line.op t.task (event t) t.was.owned t.client t.then.owned t.own) is t.follows.kept

    list_is : given_then t ≡ answer_at (put_answer t.number a answers.list)
    list_is = ap (λ b. answer_at (answers_with t.number b answers.list)) is

    is_answer : IsNewAnswer s (given t) turns.phase t.number t.line a (given_then t)
    is_answer = record {
      line = t.is;
      adds = subst (AddsAnswer (given t) t.number a) (sym list_is) (AddsAnswer-put answers.list t.number a);
      next = comes_next (stands_next t);
      phase = t.now;
    }

    own_pieces : (q : Piece) → is_some (pending_hold t.client q) ≡ true → IsPieceBy s (given t) t.line.rank t.line.path q
    own_pieces q waits = (client_stood t).pieces q waits

    owner-after : StandsForOwner s (given_then t) turns.phase t.line.path t.then.owned
    owner-after = StandsForOwner-own is_answer (pends t) follows t.whole.sound.written (stood t).owned own_pieces

    -- what another client has pending isn't in the file
    others_apart : (q : ℕ) (k : ClientPath) → q ≢ r → slice_get t.was.clients q ≡ Some k → (x : Piece) → is_some (pending_hold k x) ≡ true
        → file_hold t.then.owned.path.file x ≡ None
    others_apart q k other at x waits = none_from-is_some (file_hold t.then.owned.path.file x) (false_from_ne_true _ (λ there.
        let by_other = ((stood t).clients q k at).pieces x waits in
        elim (or_cases (is_some (file_hold t.was.owned.path.file x)) (is_some (pending_hold t.client x)) (follows.owned x there)) [
          | inl was ↦ true≢false (sym was ∙ ap is_some (((stood t).clients q k at).apart x waits))
          | inr mine ↦
              let by_own = (own_pieces x mine).own in
              other (same_rank x.line q (own_op-rank q t.line.path (op_at s x.line) by_other.own)
              (own_op-rank t.line.rank t.line.path (op_at s x.line) by_own))
        ]))
      where
        same_rank : (n q : ℕ) → rank_in (op_at s n) ≡ Some q → rank_in (op_at s n) ≡ Some t.line.rank → q ≡ r
        same_rank n q one two = same_Some q t.line.rank (sym one ∙ two) ∙ rank-is t

    clients-after : (q : ℕ) (k : ClientPath) → slice_get t.then.clients q ≡ Some k
        → StandsForClient s (given_then t) q t.line.path t.then.owned k
    clients-after q k found = elim (cases_client q k found) [
      | inl here ↦
          subst (λ i. StandsForClient s (given_then t) i t.line.path t.then.owned k) (rank-is t ∙ sym here.0)
          (subst (StandsForClient s (given_then t) t.line.rank t.line.path t.then.owned) here.1
          (StandsForClient-own is_answer (is_own t) follows t.whole.sound parts (stood t).owned owner-after (looked_up t).within
          (looked_up t).known (client_stood t)))
      | inr other ↦
          let none = ap (own_op q t.line.path) t.is ∙ own_op-other t.line q t.line.path (λ e same. other.0 (sym e ∙ rank-is t)) in
          StandsForClient-other {commits = (event t).commits} is_answer none (record { journal = follows.journal })
          (others_apart q k other.0 other.1) (stood t).owned ((stood t).clients q k other.1)
    ]

    stands-after : Stands s (given_then t) turns.phase t.line.path t.then
    stands-after = record {
      owned = owner-after;
      sized = ap length t.changed ∙ length-set t.was.clients r t.own ∙ (stood t).sized;
      clients = clients-after;
    }

    stands-other : (j : ℕ) (p : List ℕ) (x : PathState) → t.line.path ≢ p → slice_get paths j ≡ Some p → slice_get states j ≡ Some x
        → Stands s (given_then t) turns.phase p x
    stands-other j p x off at found =
        let stands = t.held.each j p x at found in
        record {
          owned = StandsForOwner-other is_answer stands.owned;
          sized = stands.sized;
          clients = λ q k there.
              let none = ap (own_op q p) t.is ∙ own_op-other t.line q p (λ same e. off e) in
              StandsForClient-other {commits = false} {y = x.owned} is_answer none (record { journal = refl })
              (stands.clients q k there).apart stands.owned (stands.clients q k there);
        }

    pub paths-answered : PathsAfter
    paths-answered = record {
      grows = λ k given_one. still-answered k is_answer.adds given_one;
      back = λ k other given_one. ap is_some (sym (is_answer.adds.others k other)) ∙ given_one;
      own = λ _. ap is_some is_answer.adds.added;
      each = placed (Stands s (given_then t) turns.phase) stands-after stands-other;
      versions = kept-places (λ x y. KeepsVersions x.owned y.owned)
          (record {
            longer = omega (arith, length-grown t.was.owned.path.journal t.number (event t).commits, ap length follows.journal);
            same = λ v le.
                marks-grown t.was.owned.path.journal v (event t).commits is_answer.adds is_answer.next (stood t).owned.answered le
                ∙ ap (λ (j : List ℕ). marks_at s (given_then t) j v) (sym follows.journal);
          })
          (λ j x at. record {
            longer = omega arith;
            same = λ v le.
                let p = path-at j x at in
                marks-answered s (given t) (given_then t) x.owned.path.journal t.number v a is_answer.adds is_answer.next
                (t.held.each j p.0 x p.1 at).owned.answered;
          });
    }

  -- ---- an event that doesn't

  module _ (is : t.answer ≡ None) where
    keeps_all : KeepsAll (event t) t.was.owned t.client t.then.owned t.own
    keeps_all = subst (FollowsBy s t.number t.line.op t.task (event t) t.was.owned t.client t.then.owned t.own) is t.follows.kept

    list_same : given_then t ≡ given t
    list_same = ap (λ b. answer_at (answers_with t.number b answers.list)) is

    pub same_state : t.then ≡ t.was
    same_state =
        let clients = t.changed ∙ ap (set t.was.clients r) keeps_all.client
        ∙ ap (set t.was.clients r) (sym (get_or_from_slice_get t.was.clients r t.client t.client t.beside))
        ∙ set-get_or t.was.clients r t.client in
        λ i. record { owned = keeps_all.owned i; clients = clients i }

    pub paths-unanswered : PathsAfter
    paths-unanswered = record {
      grows = λ k given_one. subst (λ A. IsSome (A k)) (sym list_same) given_one;
      back = λ k _ given_one. subst (λ A. IsSome (A k)) list_same given_one;
      own = λ fills. absurd (true≢false (sym fills ∙ keeps_all.fills));
      each = placed (Stands s (given_then t) turns.phase)
          (subst (Stands s (given_then t) turns.phase t.line.path) (sym same_state)
          (subst (λ A. Stands s A turns.phase t.line.path t.was) (sym list_same) (stood t)))
          (λ j p x _ at found. subst (λ A. Stands s A turns.phase p x) (sym list_same) (t.held.each j p x at found));
      versions = kept-places (λ x y. KeepsVersions x.owned y.owned)
          (subst (λ (y : PathState). KeepsVersions t.was.owned y.owned) (sym same_state)
          (record { longer = omega arith; same = λ v le. ap (λ A. marks_at s A t.was.owned.path.journal v) (sym list_same) }))
          (λ j x at. record { longer = omega arith; same = λ v le. ap (λ A. marks_at s A x.owned.path.journal v) (sym list_same) });
    }
