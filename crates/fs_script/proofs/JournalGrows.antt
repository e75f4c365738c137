-- A legal journal stays legal as an answer comes: unchanged where the answer commits nothing, and with the line at its end where it does.
use Rattle.fs_types.proofs.Common.{common_steps, ◌≡◌, ◌≢◌, ℕ, suc, ◌≤◌, ◌<◌, true, List, [], ◌∷◌, ◌++◌, length, Option, Some, None, IsSome}
use Rattle.fs_types.proofs.Common.{is_some, cond, ◌==◌, ◌&&◌, bytes_eq, slice_get, Contains, true≢false, eqb-true, refl, sym, ap, ◌∙◌}
use Rattle.fs_types.proofs.Common.{subst, subst₂, inl, inr, arith, cases_eq, cases_Bool, and_parts, none-some, slice_get_within}
use Rattle.fs_types.proofs.Common.{Contains-append_left, Contains-push}
use Rattle.fs_script.specs.Vocabulary.{Answer, OpLine, Job, op_at, rank_at, rank_in, own_op, phase, bytes_of, Answering, pending_for}
use Rattle.fs_script.specs.Vocabulary.{pending_at, is_enabled, state, committed, enabled_in, IsLegalEntry, IsLegalJournal, AgreeBefore}
use Rattle.fs_script.specs.Vocabulary.{AddsAnswer, ComesNext, IsOfNoEarlierPhase, SamePending}
use Rattle.fs_script.proofs.Agreement.{pending-agree, committed-agree, committed-unanswered}
use Rattle.fs_script.proofs.PlainLists.{AllByRecursion-at, slice_get-push_cases, slice_get-push_below, AllByRecursion-from_get, some_of}
use Rattle.fs_script.proofs.States.{state_in-agree, state_in-push}

-- ---- what an answer leaves as it was

-- a line of a client on a path is a line of that client
pub own_op-rank : (r : ℕ) (p : List ℕ) (o : Option OpLine) → IsSome (own_op r p o) → rank_in o ≡ Some r
own_op-rank r p None h = absurd (true≢false (sym h))
own_op-rank r p (Some o) h =
    elim (cases_Bool (o.rank == r && bytes_eq o.path p)) [
      | inl both ↦ ap Some (eqb-true o.rank r (and_parts (o.rank == r) (bytes_eq o.path p) both).0)
      | inr other ↦ absurd (true≢false (sym h ∙ ap (λ b. is_some (cond b (Some o.op) None)) other))
    ]

-- before the new line, nothing of its client changes
pub AgreeBefore-next : (s : Job) (r : ℕ) (p : List ℕ) {A B : Answering} (m : ℕ) {n : ℕ} {a : Answer} → AddsAnswer A n a B → m ≤ n
    → AgreeBefore s r p A B m
AgreeBefore-next s r p m adds le k below own = sym (adds.others k (λ e. omega arith))

-- before a line that was answered, nothing of its client changes
pub AgreeBefore-answered : {s : Job} (p : List ℕ) {A B : Answering} (m : ℕ) {n : ℕ} {a : Answer} (b : Answer) (r : ℕ) → AddsAnswer A n a B
    → ComesNext s A n → A m ≡ Some b → rank_at s m ≡ Some r → AgreeBefore s r p A B m
AgreeBefore-answered {s} p m {n} b r adds next answered of_rank k below own = grind (arith, common_steps)

-- a line that has an answer isn't the new one
answered≢next : {s : Job} {A : Answering} (m : ℕ) {n : ℕ} (b : Answer) → ComesNext s A n → A m ≡ Some b → m ≢ n
answered≢next {A} m b next answered e = none-some b (sym next.fresh ∙ (ap A (sym e) ∙ answered))

pending_for-answered : (s : Job) (A B : Answering) (m : ℕ) (o : Option OpLine)
    → ((r : ℕ) (p : List ℕ) → rank_in o ≡ Some r → AgreeBefore s r p A B m) → pending_for s A m o ≡ pending_for s B m o
pending_for-answered s A B m None h = refl
pending_for-answered s A B m (Some o) h = pending-agree s o.rank o.path A B m (h o.rank o.path refl)

-- what was pending at a line that was answered stays so
pub pending_at-answered : {s : Job} {A B : Answering} (m : ℕ) {n : ℕ} {a : Answer} (b : Answer) → AddsAnswer A n a B → ComesNext s A n
    → A m ≡ Some b → pending_at s A m ≡ pending_at s B m
pending_at-answered {s} {A} {B} m {n} {a} b adds next answered =
    pending_for-answered s A B m (op_at s m) (λ r p of_rank. AgreeBefore-answered p m b r adds next answered of_rank)

-- what was pending at a line up to the new one stays so
pub pending_at-until : (s : Job) {A B : Answering} (m : ℕ) {n : ℕ} {a : Answer} → AddsAnswer A n a B → m ≤ n
    → pending_at s A m ≡ pending_at s B m
pending_at-until s {A} {B} m {n} {a} adds upto = pending_for-answered s A B m (op_at s m)
    (λ r p of_rank. AgreeBefore-next s r p m adds upto)

pub pending_at-next : (s : Job) {A B : Answering} {n : ℕ} {a : Answer} → AddsAnswer A n a B → pending_at s A n ≡ pending_at s B n
pending_at-next s {A} {B} {n} {a} adds = pending_at-until s n adds (omega arith)

-- what a line that was answered committed stays so
pub committed-answered : {s : Job} {A B : Answering} (p : List ℕ) (m : ℕ) {n : ℕ} {a : Answer} (b : Answer) → AddsAnswer A n a B
    → ComesNext s A n → A m ≡ Some b → committed s A p m ≡ committed s B p m
committed-answered {s} {A} {B} p m {n} {a} b adds next answered =
    committed-agree s A B p m (pending_at-answered m b adds next answered) (sym (adds.others m (answered≢next m b next answered)))

-- so it is for every other line, answered or not
pub committed-other : {s : Job} {A B : Answering} (p : List ℕ) (m : ℕ) {n : ℕ} {a : Answer} → AddsAnswer A n a B → ComesNext s A n → m ≢ n
    → committed s A p m ≡ committed s B p m
committed-other {s} {A} {B} p m {n} {a} adds next other = by (A m) refl where
  by : (x : Option Answer) → A m ≡ x → committed s A p m ≡ committed s B p m
  by None e = committed-unanswered s A p m e ∙ sym (committed-unanswered s B p m (adds.others m other ∙ e))
  by (Some b) e = committed-answered p m b adds next e

-- ---- the lines of a legal journal

answered_from-commit : (s : Job) (A : Answering) (p : List ℕ) (m v : ℕ) → committed s A p m ≡ Some v → IsSome (A m)
answered_from-commit s A p m v h = grind (arith, common_steps)

-- each of them was answered
pub answered-in_journal : {s : Job} {A : Answering} {p : List ℕ} {J : List ℕ} (k m : ℕ) → IsLegalJournal s A p J → slice_get J k ≡ Some m
    → IsSome (A m)
answered-in_journal {s} {A} {p} k m legal at = answered_from-commit s A p m (suc k) (legal.entries k m at).committed

-- nothing pending at the lines of a legal journal changes
pub pending_at-in_journal : {s : Job} {A B : Answering} {p : List ℕ} {J : List ℕ} {n : ℕ} {a : Answer} → AddsAnswer A n a B
    → ComesNext s A n → IsLegalJournal s A p J → SamePending s A B J
pending_at-in_journal {s} {A} {B} {p} {J} {n} {a} adds next legal =
    AllByRecursion-from_get (λ m. pending_at s A m ≡ pending_at s B m) J (λ k m at.
    let given = some_of (A m) (answered-in_journal k m legal at) in
    pending_at-answered m given.0 adds next given.1)

-- nothing was answered, so nothing was committed
pub IsLegalJournal-none : (s : Job) (A : Answering) (p : List ℕ) → ((n : ℕ) → A n ≡ None) → IsLegalJournal s A p []
IsLegalJournal-none s A p none = grind (arith, common_steps)

-- ---- an answer that commits nothing to the path

IsLegalEntry-same : {s : Job} {A : Answering} (B : Answering) {p : List ℕ} {J : List ℕ} {k m : ℕ} → committed s A p m ≡ committed s B p m
    → state s A J k ≡ state s B J k → IsLegalEntry s A p J k m → IsLegalEntry s B p J k m
IsLegalEntry-same {s} B {m} commits states legal = grind (arith, common_steps)

pub IsLegalJournal-kept : {s : Job} {A B : Answering} {p : List ℕ} {J : List ℕ} {n : ℕ} {a : Answer} → AddsAnswer A n a B → ComesNext s A n
    → committed s B p n ≡ None → IsLegalJournal s A p J → IsLegalJournal s B p J
IsLegalJournal-kept {s} {A} {B} {p} {J} {n} {a} adds next none legal =
    let same = pending_at-in_journal adds next legal in
    record {
      entries = λ k m at.
          let given = some_of (A m) (answered-in_journal k m legal at) in
          IsLegalEntry-same B (committed-answered p m given.0 adds next given.1) (state_in-agree s (bytes_of s) A B J k same)
          (legal.entries k m at);
      whole = λ m v h. legal.whole m v (committed-other p m adds next (λ e. none-some v (sym none ∙ (ap (committed s B p) (sym e) ∙ h)))
          ∙ h);
    }

-- ---- an answer that commits its line to the path

-- an old entry in the longer journal
IsLegalEntry-longer : {s : Job} {A : Answering} {p : List ℕ} {J : List ℕ} (n : ℕ) {k m : ℕ} → k < length J → m ≢ n
    → IsLegalEntry s A p J k m → IsLegalEntry s A p (J ++ n ∷ []) k m
IsLegalEntry-longer {s} {A} {J} n {k} {m} below other legal =
    grind (arith, common_steps, slice_get-push_cases, slice_get-push_below, state_in-push)

-- the new line as an entry
IsLegalEntry-new : {s : Job} {A B : Answering} {p : List ℕ} {J : List ℕ} {n : ℕ} {a : Answer} → AddsAnswer A n a B → ComesNext s A n
    → IsLegalJournal s A p J
    → committed s B p n ≡ Some (suc (length J)) → enabled_in (op_at s n) (λ op. is_enabled op (state s A J (length J))) ≡ true
    → IsOfNoEarlierPhase s n J → IsLegalEntry s B p (J ++ n ∷ []) (length J) n
IsLegalEntry-new {s} {A} {B} {p} {J} {n} {a} adds next legal commits enabled later = record {
  committed = commits;
  once = λ i at. elim (slice_get-push_cases J n i n at) [
    | inl old ↦
        let given = some_of (A n) (answered-in_journal i n legal old) in
        absurd (none-some given.0 (sym next.fresh ∙ given.1))
    | inr new ↦ new.0
  ];
  rising = λ i m before at mine.
      let old = slice_get-push_below J n i m before at in
      let given = some_of (A m) (answered-in_journal i m legal old) in
      next.last m given.0 given.1 mine;
  phases = λ i m before at. AllByRecursion-at (λ j. phase s j ≤ phase s n) J i m later (slice_get-push_below J n i m before at);
  enabled =
      let same = state_in-agree s (bytes_of s) A B J (length J) (pending_at-in_journal adds next legal) in
      subst (λ f. enabled_in (op_at s n) (λ op. is_enabled op f) ≡ true) (same
      ∙ sym (state_in-push s (bytes_of s) B J n (length J) (omega arith))) enabled;
}

pub IsLegalJournal-commit : {s : Job} {A B : Answering} {p : List ℕ} {J : List ℕ} {n : ℕ} {a : Answer} → AddsAnswer A n a B
    → ComesNext s A n
    → committed s B p n ≡ Some (suc (length J)) → enabled_in (op_at s n) (λ op. is_enabled op (state s A J (length J))) ≡ true
    → IsOfNoEarlierPhase s n J → IsLegalJournal s A p J → IsLegalJournal s B p (J ++ n ∷ [])
IsLegalJournal-commit {s} {A} {B} {p} {J} {n} {a} adds next commits enabled later legal =
    let same = pending_at-in_journal adds next legal in
    record {
      entries = λ k m at. elim (slice_get-push_cases J n k m at) [
        | inl old ↦
            let given = some_of (A m) (answered-in_journal k m legal old) in
            let kept = IsLegalEntry-same B (committed-answered p m given.0 adds next given.1) (state_in-agree s (bytes_of s) A B J k same)
            (legal.entries k m old) in
            IsLegalEntry-longer n (slice_get_within J k m old) (answered≢next m given.0 next given.1) kept
        | inr new ↦ subst₂ (λ i j. IsLegalEntry s B p (J ++ n ∷ []) i j) (sym new.0) (sym new.1)
            (IsLegalEntry-new adds next legal commits enabled later)
      ];
      whole = λ m v h. elim (cases_eq m n) [
        | inl is ↦ subst (λ j. Contains (J ++ n ∷ []) j) (sym is) (Contains-push J n)
        | inr other ↦ Contains-append_left J (n ∷ []) m (legal.whole m v (committed-other p m adds next other ∙ h))
      ];
    }
