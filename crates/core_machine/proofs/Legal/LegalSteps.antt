-- One event keeps a moment legal: each invariant after it, by whether it brings an answer.
use Rattle.fs_types.proofs.Common.{common_steps, ◌≡◌, ◌≢◌, ℕ, ◌<◌, Bool, true, false, cond, List, length, map, Option, Some, None}
use Rattle.fs_types.proofs.Common.{IsSome}
use Rattle.fs_types.proofs.Common.{is_some, Contains, refl, sym, ap, ◌∙◌, subst, inl, inr, ◌⊎◌, arith, cases_eq, or_cases, or_left}
use Rattle.fs_types.proofs.Common.{or_right, length-map-range_with_len, ◌≤◌, true≢false, slice_get, same_Some}
use Rattle.fs_script.specs.Payload.{bytes_brought, brought_in}
use Rattle.fs_script.specs.Vocabulary.{Answer, Piece, answer_at, put_answer, op_at, phase, Answering, pending, commit_of, commit_by}
use Rattle.fs_script.specs.Vocabulary.{journal_of}
use Rattle.fs_script.specs.Vocabulary.{ArePaths, AddsAnswer, IsLegalSoFar, IsNextAnswer, Pushes, is_live, is_pending, was_accepted, need}
use Rattle.fs_script.specs.Vocabulary.{Fits, parts_of, program}
use Rattle.core_machine.specs.Vocabulary.{Doing, Reading, nothing, reading, Moment, printed, answering, client_of, journal, log_of}
use Rattle.core_machine.specs.Vocabulary.{with_entry, ready}
use Rattle.core_machine.specs.Vocabulary.{Event, Turn, event_at, still_held, had_event, step, IsAnsweredUpTo, IsUnderWay, MayGoOn}
use Rattle.core_machine.specs.Vocabulary.{IsLegalMoment, is_owned, names, empty_slots, to_show}
use Rattle.fs_types.proofs.CallerLemmas.{IsRisingFrom-put_answer}
use Rattle.fs_script.proofs.CallerLemmas.{pending-agree, AddsAnswer-put, AgreeBefore-next, IsLegalSoFar-kept, IsLegalSoFar-commit}
use Rattle.fs_script.proofs.CallerLemmas.{is_live-agree}
use Rattle.fs_script.proofs.CallerLemmas.{is_live-next, is_pending-next, is_pending-now, pending_at-in_journal, live-by_any_path}
use Rattle.fs_script.proofs.CallerLemmas.{Fits-kept_other, Fits-commit_other}
use Rattle.core_machine.proofs.Legal.Event.{now, IsLegalAnswer, IsLegalOutcome, MayShow, keeps, not_done}
use Rattle.core_machine.proofs.Legal.Events.{event_of-legal}
use Rattle.core_machine.proofs.Legal.Journals.{paths-with_entry, Pushes-with_entry}
use Rattle.core_machine.proofs.Legal.Phases.{begun-answered}
use Rattle.core_machine.proofs.Places.{upto-own, upto-other}
use Rattle.core_machine.proofs.Legal.Turns.{IsTurn, IsTurn-from_ready, step-is, stands, comes_next, no_later_phase, coming, within_clients}
use Rattle.core_machine.proofs.Legal.After.{after, clients-after, client-own, places-after, under_way-after}
use Rattle.core_machine.proofs.Legal.UnderWay.{of_another, of_no_later_phase, goes_on}
use Rattle.core_machine.proofs.Legal.Measured.{IsMeasured, event_of-measured, need_of}
use Rattle.core_machine.proofs.Legal.Slots.{IsKeeping, slots-after, accepted-after}

-- ---- what holds after any event

module _ {told : List ℕ} {m : Moment} {r : ℕ} (t : IsTurn told m r) where
  open t use {number as n, line as o, so_far, is}

  logs-after : (e : Event) → length (after t e).logs ≡ m.job.shape.clients
  logs-after e =
      let had = had_event m r n o e in
      length-map-range_with_len (λ i. map (still_held had i) (log_of had i)) 0 m.job.shape.clients

  -- what its client is in the midst of
  abbrev doing_now : Doing
  doing_now = (client_of m r).doing

  -- what the event does to slots, where its client is in the midst of that
  abbrev Measured : Event → Type 0
  Measured e = IsMeasured m.job (now (coming t)) o.op doing_now e

  room-of : (e : Event) → Measured e → e.fills ≡ true → need m.job n ≤ length (empty_slots (log_of m r))
  room-of e measured fills =
      let chunk = m.job.shape.chunk in
      let needs : need m.job n ≡ need_of chunk o.op = ap (λ x. parts_of chunk (length (bytes_brought (brought_in x)))) is in
      subst (λ q. need m.job n ≤ length (empty_slots (log_of m q))) t.rank (omega (arith, measured.room fills, needs))

  -- the read of its client names what it named before, or what is live or pending for the client
  named-of : (e : Event) → Measured e → (x : Piece) → names e.doing x ≡ true → (names doing_now x ≡ true) ⊎ (is_owned m r x ≡ true)
  named-of e measured x named = elim (or_cases _ _ (measured.named x named)) [
    | inl before ↦ inl before
    | inr borne ↦ elim (or_cases _ _ borne) [
      | inl in_file ↦
          inr (or_left _ _ (live-by_any_path m.job (answering m) (journal m) o.path x (so_far.legal.legal o.path) in_file))
      | inr waits ↦
          let is_waiting = is_pending-now is (comes_next t) so_far.job.chunk o.path x waits in
          inr (or_right _ _ (subst (λ i. is_pending m.job (answering m) i x ≡ true) t.rank is_waiting))
    ]
  ]

-- ---- an event that brings no answer

module _ {told : List ℕ} {m : Moment} {r : ℕ} (t : IsTurn told m r) (fills : Bool) (doing : Doing) where
  open t use {number as n, line as o, so_far, is}

  abbrev continues : Event
  continues = record { answer = None; commits = false; fills = fills; doing = doing }

  keeping-unanswered : Measured t continues → IsKeeping t continues
  keeping-unanswered measured = record {
    room = room-of t continues measured;
    accepted = λ fill. absurd (true≢false (sym fill ∙ measured.accepts));
    others = λ k other. refl;
    live = λ x live. or_left _ _ live;
    pending = λ q x waits. inl waits;
    named = named-of t continues measured;
  }

  goes-on : (d : Doing) → MayShow (coming t) o.op d → MayGoOn told (after t continues) r d
  goes-on nothing may = tt
  goes-on (reading d) may = record {
    line = n;
    op = o;
    next = ap (λ c. slice_get (program m.job r) c.place) (client-own t continues) ∙ t.next;
    is = is;
    begun = t.begun;
    fits = record { opened = may.opened; version = may.version; answer = may.answer };
  }

  unanswered-legal : Measured t continues → MayShow (coming t) o.op doing → IsLegalMoment told (after t continues)
  unanswered-legal measured may =
      let keeping = keeping-unanswered measured in
      record {
        job = so_far.job;
        clients = clients-after t continues;
        places = places-after t continues (printed m) (so_far.places r (within_clients t)) (λ i other within. so_far.places i within);
        operations = so_far.operations;
        phases = so_far.phases;
        rising = so_far.rising;
        paths = so_far.paths;
        legal = so_far.legal;
        under_way = under_way-after t continues (goes-on doing may)
            (λ i d other w. goes_on t i d other w continues (λ k given. given) w.fits);
        logs = logs-after t continues;
        slots = slots-after t continues keeping;
        accepted = λ q x within. accepted-after t continues keeping q within x;
      }

-- ---- an event that brings an answer

module _ {told : List ℕ} {m : Moment} {r : ℕ} (t : IsTurn told m r) (a : Answer) where
  open t use {number as n, line as o, so_far, is}

  abbrev ends : Bool → Bool → Event
  ends committed fills = record { answer = Some a; commits = committed; fills = fills; doing = nothing }

  -- the answers with this one
  abbrev B : Answering
  B = answer_at (put_answer n a m.answers)

  adds : AddsAnswer (printed m) n a B
  adds = AddsAnswer-put m.answers n a

  -- another client's place stays
  other_place : (i : ℕ) → i ≢ r → i < m.job.shape.clients → IsAnsweredUpTo m.job B i (client_of m i).place
  other_place i other within =
      let apart : o.rank ≢ i = λ e. other (sym e ∙ t.rank) in
      upto-other m.job i (client_of m i).place o adds is apart (so_far.places i within)

  operations-after : (i : ℕ) → IsSome (B i) → IsSome (op_at m.job i)
  operations-after i given = elim (cases_eq i n) [
    | inl here ↦ ap (λ j. is_some (op_at m.job j)) here ∙ ap is_some is
    | inr other ↦ so_far.operations i (ap is_some (sym (adds.others i other)) ∙ given)
  ]

  -- what had an answer has one
  still_answered : (i : ℕ) → IsSome (printed m i) → IsSome (B i)
  still_answered i given = elim (cases_eq i n) [
    | inl here ↦ ap (λ j. is_some (B j)) here ∙ ap is_some adds.added
    | inr other ↦ ap is_some (adds.others i other) ∙ given
  ]

  phases-after : (i j : ℕ) → IsSome (B i) → IsSome (op_at m.job j) → phase m.job j < phase m.job i → IsSome (B j)
  phases-after i j given there before = still_answered j (elim (cases_eq i n) [
    | inl here ↦
        begun-answered m n j t.begun there (subst (λ l. phase m.job j < phase m.job l) here before)
    | inr other ↦ so_far.phases i j (ap is_some (sym (adds.others i other)) ∙ given) there before
  ])

  -- the journals, by whether the line is committed
  abbrev journals_after : Bool → List (List ℕ × List ℕ)
  journals_after committed = cond committed (with_entry o.path n m.journals) m.journals

  paths-after : (committed : Bool) → ArePaths m.job (map (λ j. j.0) (journals_after committed))
  paths-after true = subst (ArePaths m.job) (sym (paths-with_entry o.path n m.journals)) so_far.paths
  paths-after false = so_far.paths

  next_answer : IsNextAnswer m.job (answering m) n o a B
  next_answer = record { op = is; adds = adds; next = comes_next t; phases = no_later_phase t }

  pushes : Pushes (journal m) o.path n (journal_of (with_entry o.path n m.journals))
  pushes = Pushes-with_entry o.path n m.journals (so_far.paths.each o.path (record { line = n; op = o; is = is; on = refl }))

  -- what the line commits is as its event found it
  commit-after : commit_by o.op (pending m.job B o.rank o.path n) (B n)
      ≡ commit_of o.op (now (coming t)).pending a
  commit-after = grind (arith, common_steps, AgreeBefore-next, adds, pending-agree)

  legal-after : (committed : Bool) → IsLegalAnswer (coming t) o.op a committed
      → IsLegalSoFar told m.job B (journal_of (journals_after committed))
  legal-after true k =
      IsLegalSoFar-commit next_answer so_far.legal pushes (commit-after ∙ k.commit) (k.enabled refl)
      (record { opened = k.opened; version = k.version; answer = k.answer })
  legal-after false k =
      IsLegalSoFar-kept next_answer so_far.legal (commit-after ∙ k.commit)
      (record { opened = k.opened; version = k.version; answer = k.answer })

  -- a read under way of another client goes on
  other_goes_on : (committed fills : Bool) (i : ℕ) (d : Reading) → i ≢ r → IsUnderWay told m i d
      → IsUnderWay told (after t (ends committed fills)) i d
  other_goes_on true fills i d other w =
      goes_on t i d other w (ends true fills) still_answered
      (Fits-commit_other next_answer so_far.legal w.op (of_another t i d other w) w.line _ (journal_of (with_entry o.path n m.journals))
      pushes (of_no_later_phase t i d other w) w.fits)
  other_goes_on false fills i d other w =
      goes_on t i d other w (ends false fills) still_answered
      (Fits-kept_other next_answer so_far.legal w.op (of_another t i d other w) w.line _ w.fits)

  live-before : (committed : Bool) (x : Piece) → is_live m.job B (journal_of (journals_after committed)) x ≡ true → is_owned m r x ≡ true
  live-before true x live = subst (λ i. is_owned m i x ≡ true) t.rank (is_live-next next_answer so_far.legal.legal pushes x live)
  live-before false x live =
      or_left _ _ (is_live-agree m.job (answering m) B (journal m) x (λ p. pending_at-in_journal adds (comes_next t) (so_far.legal.legal p))
      ∙ live)

  keeping-answered : (committed fills : Bool) → Measured t (ends committed fills) → IsKeeping t (ends committed fills)
  keeping-answered committed fills measured = record {
    room = room-of t (ends committed fills) measured;
    accepted = λ fill. ap was_accepted adds.added ∙ sym measured.accepts ∙ fill;
    others = adds.others;
    live = live-before committed;
    pending = λ q x waits. elim (is_pending-next next_answer so_far.job.chunk x q waits) [
      | inl before ↦ inl before
      | inr new ↦ inr (record {
        client = new.rank ∙ t.rank;
        line = new.line;
        part = new.part;
        fills = measured.accepts ∙ new.accepted;
      })
    ];
    named = named-of t (ends committed fills) measured;
  }

  answered-legal : (committed fills : Bool) → Measured t (ends committed fills) → IsLegalAnswer (coming t) o.op a committed
      → IsLegalMoment told (after t (ends committed fills))
  answered-legal committed fills measured k =
      let e = ends committed fills in
      let keeping = keeping-answered committed fills measured in
      record {
        job = so_far.job;
        clients = clients-after t e;
        places = places-after t e B (upto-own (stands t) B a adds) other_place;
        operations = operations-after;
        phases = phases-after;
        rising = IsRisingFrom-put_answer m.answers 0 n a (omega arith) so_far.rising;
        paths = paths-after committed;
        legal = legal-after committed k;
        under_way = under_way-after t e tt (other_goes_on committed fills);
        logs = logs-after t e;
        slots = slots-after t e keeping;
        accepted = λ q x within. accepted-after t e keeping q within x;
      }

-- ---- a step

after_event-legal : {told : List ℕ} {m : Moment} {r : ℕ} (t : IsTurn told m r) (answer : Option Answer) (committed fills : Bool)
    (doing : Doing) → Measured t (record { answer = answer; commits = committed; fills = fills; doing = doing })
    → IsLegalOutcome (coming t) t.line.op answer committed doing
    → IsLegalMoment told (after t (record { answer = answer; commits = committed; fills = fills; doing = doing }))
after_event-legal {told} t None committed fills doing measured legal =
    let same : Measured t (record { answer = None; commits = false; fills = fills; doing = doing }) =
    record { accepts = measured.accepts; room = measured.room; named = measured.named; falls = measured.falls } in
    subst (λ b. IsLegalMoment told (after t (record { answer = None; commits = b; fills = fills; doing = doing }))) (sym legal.0)
    (unanswered-legal t fills doing same legal.1)
after_event-legal {told} t (Some a) committed fills doing measured legal =
    let e : Doing → Event = λ d. record { answer = Some a; commits = committed; fills = fills; doing = d } in
    subst (λ d. IsLegalMoment told (after t (e d))) (sym legal.1)
    (answered-legal t a committed fills (subst (λ d. Measured t (e d)) legal.1 measured) legal.0)

-- what its client is in the midst of, the line may show
may_show : {told : List ℕ} {m : Moment} {r : ℕ} (t : IsTurn told m r) (d : Doing) → MayGoOn told m r d → MayShow (coming t) t.line.op d
may_show t nothing goes = tt
may_show {told} {m} t (reading d) goes =
    let line = same_Some goes.line t.number (sym goes.next ∙ t.next) in
    let op = same_Some goes.op t.line (sym goes.is ∙ ap (op_at m.job) line ∙ t.is) in
    let shows = to_show m.job d in
    let here = subst (λ o. Fits told m.job (answering m) (journal m o.path) goes.line o shows) op goes.fits in
    let fits = subst (λ n. Fits told m.job (answering m) (journal m t.line.path) n t.line shows) line here in
    keeps shows fits.opened fits.version fits.answer (not_done t.line.op (now (coming t)).pending shows refl)

-- the step of a client that is ready keeps a moment legal
pub step-legal : {told : List ℕ} {m : Moment} (turn : Turn) → IsLegalMoment told m
    → Contains (ready m) turn.client → IsLegalMoment told (step m turn)
step-legal {told} {m} turn so_far has =
    let t = IsTurn-from_ready turn.client so_far has in
    let e = event_at m t.number t.line in
    let doing = λ (q : ℕ). (client_of m q).doing in
    let may = may_show t (doing turn.client) (so_far.under_way turn.client (within_clients t)) in
    let own = subst (λ q. MayShow (coming t) t.line.op (doing q)) (sym t.rank) may in
    let fills = subst (λ q. IsMeasured m.job (now (coming t)) t.line.op (doing q) e) t.rank
    (event_of-measured m.job (now (coming t)) (doing t.line.rank) t.line.op) in
    subst (IsLegalMoment told) (sym (step-is t))
    (after_event-legal t e.answer e.commits e.fills e.doing fills (event_of-legal (coming t) (doing t.line.rank) t.line.op own))
