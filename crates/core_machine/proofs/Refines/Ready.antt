-- The clients that may go by what the core keeps are those that are ready at the moment that it stands for.
use Rattle.fs_types.proofs.Common.{common_steps, ◌≡◌, ℕ, zero, suc, ◌+◌, ◌≤◌, ◌<◌, Bool, true, false, cond, List, [], ◌∷◌, length, Option}
use Rattle.fs_types.proofs.Common.{Some, None, is_some, slice_index, true≢false, refl, sym, ap, ◌∙◌, subst, inl, inr, arith, eq-eqb, filter}
use Rattle.fs_types.proofs.Common.{slice_get, range_with_len, cases_Bool, cases_lt, false_from_ne_true, ltb-false, le-leb, or_left}
use Rattle.fs_types.proofs.Common.{or_right, ne_eqb, none-some, same_Some, slice_get-get_or, slice_get_within}
use Rattle.fs_script.specs.Vocabulary.{Given, answer_at, Job, op_at, is_of_rank, phase, program}
use Rattle.slot_plain.specs.Log.{Log}
use Rattle.core_machine.specs.Vocabulary.{OpLine, PathState, Moment, Task, has_begun, may_come, next_line, ready, Places, IsInPhase, going}
use Rattle.core_machine.specs.Vocabulary.{next_in, is_of_phase, moment_of, Holds}
use Rattle.fs_script.proofs.CallerLemmas.{phase-rises, passes, passing-rise, program-place, program-op}
use Rattle.core_machine.proofs.Legal.Phases.{has_begun-from, begun-answered}
use Rattle.core_machine.proofs.Places.{StandsNext, unanswered}
use Rattle.core_machine.proofs.Programs.Going.{line-of_phase}
use Rattle.core_machine.proofs.Programs.NextLines.{next_in-within}
use Rattle.core_machine.proofs.Refines.Steps.{client-place}

-- tests that agree at each number of a range keep the same numbers
filter-range : (p q : ℕ → Bool) (a len : ℕ) → ((n : ℕ) → a ≤ n → n < a + len → p n ≡ q n)
    → filter p (range_with_len a len) ≡ filter q (range_with_len a len)
filter-range p q a zero agree = refl
filter-range p q a (suc len) agree =
    let rest = filter-range p q (a + 1) len (λ n from to. agree n (omega arith) (omega arith)) in
    ap (λ b. cond b (a ∷ filter p (range_with_len (a + 1) len)) (filter p (range_with_len (a + 1) len)))
    (agree a (omega arith) (omega arith)) ∙ ap (λ ns. cond (q a) (a ∷ ns) ns) rest

module _ {s : Job} {paths : List (List ℕ)} {states : List PathState} {answers : Given} {places : List ℕ} {now : ℕ}
    {tasks : List Task} {logs : List Log} (held : Holds s paths states answers (record { job = s; places = places; phase = now }) tasks logs)
    (phases : IsInPhase (record { job = s; places = places; phase = now })) where
  abbrev turns : Places
  turns = record { job = s; places = places; phase = now }

  abbrev m : Moment
  m = moment_of s paths states answers turns tasks logs false

  next-is : (r : ℕ) → next_line m r ≡ next_in turns r
  next-is r = ap (slice_get (program s r)) (client-place places tasks r (held.clients ∙ sym held.tasked))

  -- a client's next line has no answer
  next-unanswered : (r n : ℕ) → r < s.shape.clients → next_in turns r ≡ Some n → answer_at answers.list n ≡ None
  next-unanswered r n within next =
      let there : StandsNext s (answer_at answers.list) r (slice_index places r) n = record { upto = held.upto r within; here = next } in
      unanswered there

  -- an operation without an answer is of no earlier phase than the run's
  none_earlier : (k : ℕ) (o : OpLine) → op_at s k ≡ Some o → is_some (answer_at answers.list k) ≡ false → now ≤ phase s k
  none_earlier k o is fresh =
      let r = o.rank in
      let within = held.job.clients k o is in
      let at = program-place s k o is in
      let past = ltb-false at.0 (slice_index places r) (sym (held.upto r within at.0 k at.1) ∙ fresh) in
      let inside = slice_get_within (program s r) at.0 k at.1 in
      let n = slice_index (program s r) (slice_index places r) in
      let next = slice_get-get_or (program s r) (slice_index places r) 0 (omega arith) in
      let first = phases.none_earlier r n next in
      elim (cases_lt (slice_index places r) at.0) [
        | inl less ↦
            let before = passing-rise (λ j. is_of_rank r (op_at s j)) 2 (length s.lines) (slice_index places r) at.0 n k less next at.1 in
            let rises = phase-rises s n k (omega arith) in omega arith
        | inr same ↦
            let here : slice_index places r ≡ at.0 = omega arith in
            let equal = same_Some n k (sym next ∙ ap (slice_get (program s r)) here ∙ at.1) in
            subst (λ j. now ≤ phase s j) equal first
      ]

  -- so a line of the run's phase has begun
  begun : (n : ℕ) → phase s n ≡ now → has_begun m n ≡ true
  begun n is = has_begun-from m n (λ k o op. elim (cases_Bool (is_some (answer_at answers.list k))) [
    | inl given ↦ or_left _ _ given
    | inr fresh ↦ let later = none_earlier k o op fresh in or_right _ _ (le-leb (phase s n) (phase s k) (omega arith))
  ])

  -- some client goes where one has a line left
  someone : (r n : ℕ) → r < s.shape.clients → next_in turns r ≡ Some n
      → (q : ℕ) × (k : ℕ) × (q < s.shape.clients) × (next_in turns q ≡ Some k) × (phase s k ≡ now)
  someone r n within next = by (going turns) refl where
    by : (xs : List ℕ) → going turns ≡ xs → (q : ℕ) × (k : ℕ) × (q < s.shape.clients) × (next_in turns q ≡ Some k) × (phase s k ≡ now)
    by [] e = absurd (none-some n (sym (phases.none_left e r within) ∙ next))
    by (q ∷ qs) e =
        let at : slice_get (going turns) 0 ≡ Some q = ap (λ xs. slice_get xs 0) e in
        let pass = (passes (λ i. is_of_phase s now (next_in turns i)) 0 s.shape.clients 0 q at).0 in
        let line = line-of_phase s now (next_in turns q) pass in
        (q, line.0, next_in-within turns q line.0 held.job.clients line.1, line.1, line.2)

  -- and a line of a later phase hasn't
  waits : (r n : ℕ) → r < s.shape.clients → next_in turns r ≡ Some n → now < phase s n → has_begun m n ≡ false
  waits r n within next later = false_from_ne_true (has_begun m n) (λ has.
      let other = someone r n within next in
      let op = program-op s other.0 (slice_index places other.0) other.1 other.3 in
      let given = begun-answered m n other.1 has (ap is_some op.1) (let there = other.4 in omega arith) in
      true≢false (sym given ∙ ap is_some (next-unanswered other.0 other.1 other.2 other.3)))

  comes-is : (r : ℕ) (x : Option ℕ) → r < s.shape.clients → next_in turns r ≡ x → may_come m x ≡ is_of_phase s now x
  comes-is r None within next = refl
  comes-is r (Some n) within next = elim (cases_lt now (phase s n)) [
    | inl later ↦ waits r n within next later ∙ sym (ne_eqb (phase s n) now (λ e. omega arith))
    | inr le ↦
        let first = phases.none_earlier r n next in
        let same : phase s n ≡ now = omega arith in
        begun n same ∙ sym (eq-eqb (phase s n) now same)
  ]

  pub ready-is : ready m ≡ going turns
  ready-is = grind (arith, common_steps, filter-range, next-is, comes-is)

pub ready-kept : {s : Job} {paths : List (List ℕ)} {states : List PathState} {answers : Given} {turns : Places} {tasks : List Task}
    {logs : List Log} → Holds s paths states answers turns tasks logs → IsInPhase turns
    → ready (moment_of s paths states answers turns tasks logs false) ≡ going turns
ready-kept {s} {paths} {states} {answers} {turns} {tasks} {logs} held phases =
    let e : record { job = s; places = turns.places; phase = turns.phase } ≡ turns =
    (λ i. record { job = (sym held.same) i; places = turns.places; phase = turns.phase }) in
    let P : Places → Type 0 = λ v. Holds s paths states answers v tasks logs → IsInPhase v
    → ready (moment_of s paths states answers v tasks logs false) ≡ going v in
    subst P e (λ h p. ready-is h p) held phases
