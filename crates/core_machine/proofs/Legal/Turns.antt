-- A client's turn: the line that comes next, and what is known as it comes.
use Rattle.fs_types.proofs.Common.{common_steps, ◌≡◌, ℕ, ◌≤◌, ◌<◌, true, List, Option, Some, None, IsSome, is_some, Contains, true≢false}
use Rattle.fs_types.proofs.Common.{refl, sym, ap, ◌∙◌, subst, inl, inr, arith, cases_lt, All-contains, filter_passes, same_Some}
use Rattle.fs_types.proofs.Common.{◌+◌, ◌&&◌, length, list_any, nat_lt, lt-ltb, and_from}
use Rattle.fs_types.specs.Fragments.{piece_eq}
use Rattle.fs_script.specs.Vocabulary.{Answer, Piece, op_at, phase, rank_in, ComesNext, was_accepted, accepted_before, pieces_by}
use Rattle.core_machine.specs.Vocabulary.{OpLine, Moment, printed, answering, client_of, journal, log_of, empty_slots, has_begun, may_come}
use Rattle.core_machine.specs.Vocabulary.{next_line, ready}
use Rattle.core_machine.specs.Vocabulary.{after_event, event_at, step_line, step_at, step, IsAnsweredUpTo, IsLegalMoment}
use Rattle.fs_script.proofs.CallerLemmas.{some_of, AllByRecursion-from_get, answered-in_journal, program-op, IsPartOf-from_pieces}
use Rattle.fs_script.proofs.CallerLemmas.{any_from_Contains, distinct-le-accepted}
use Rattle.core_machine.proofs.Places.{StandsNext, unanswered, before}
use Rattle.core_machine.proofs.Legal.Event.{NextLine}
use Rattle.core_machine.proofs.Legal.Logs.{Contains-at, pieces_of_log, held_and_free, slot-of_piece, IsDistinct-pieces_of_log}

-- no line counts before it is printed
printed-counted : (m : Moment) (n : ℕ) → IsSome (answering m n) → IsSome (printed m n)
printed-counted m n counts = counts

-- ---- pieces of a client's lines

-- a piece is in a slot of a log where it is one of its pieces
pub has_piece : (m : Moment) (r : ℕ) (x : Piece) → list_any (piece_eq x) (pieces_of_log (log_of m r)) ≡ true
    → Contains (log_of m r) (Some x)
has_piece m r x h = let at = slot-of_piece x (log_of m r) h in Contains-at (log_of m r) at.0 (Some x) at.1

answered-accepted : (a : Option Answer) → was_accepted a ≡ true → (b : Answer) × (a ≡ Some b)
answered-accepted None h = absurd (true≢false (sym h))
answered-accepted (Some b) h = (b, refl)

-- ---- the line that comes next

-- at a moment of a legal run it is client r's turn: this line comes next, and its phase has begun
pub record IsTurn (told : List ℕ) (m : Moment) (r : ℕ) : Type 0 where
  pub number : ℕ
  pub line : OpLine
  pub so_far : IsLegalMoment told m
  pub next : next_line m r ≡ Some number
  pub is : op_at m.job number ≡ Some line
  pub rank : line.rank ≡ r
  pub begun : has_begun m number ≡ true

ready-may_come : (m : Moment) (r : ℕ) → Contains (ready m) r → may_come m (next_line m r) ≡ true
ready-may_come m r has = grind (arith, common_steps, All-contains, filter_passes)

line-of : (m : Moment) (x : Option ℕ) → may_come m x ≡ true → (n : ℕ) × (x ≡ Some n) × (has_begun m n ≡ true)
line-of m None h = absurd (true≢false (sym h))
line-of m (Some n) h = (n, refl, h)

-- a client that is ready has a turn
pub IsTurn-from_ready : {told : List ℕ} {m : Moment} (r : ℕ) → IsLegalMoment told m → Contains (ready m) r → IsTurn told m r
IsTurn-from_ready {m} r so_far has =
    let next = line-of m (next_line m r) (ready-may_come m r has) in
    let op = program-op m.job r (client_of m r).place next.0 next.1 in
    record {
      number = next.0;
      line = op.0;
      so_far = so_far;
      next = next.1;
      is = op.1;
      rank = op.2;
      begun = next.2;
    }

module _ {told : List ℕ} {m : Moment} {r : ℕ} (t : IsTurn told m r) where
  open t use {number as n, line as o, so_far, next, is, rank}

  -- its step is the event of that line
  pub step-is : step m (record { client = r }) ≡ after_event m r n o (event_at m n o)
  step-is = ap (step_at m r) next ∙ ap (step_line m r n) is

  -- its client is one that the shape counts
  pub within_clients : r < m.job.shape.clients
  within_clients = subst (λ i. i < m.job.shape.clients) rank (so_far.job.clients n o is)

  -- of the client's program the lines before that one have answers, and no others
  pub answered_up_to : IsAnsweredUpTo m.job (printed m) r (client_of m r).place
  answered_up_to = so_far.places r within_clients

  pub stands : StandsNext m.job (printed m) r (client_of m r).place n
  stands = record { upto = answered_up_to; here = next }

  pub comes_next : ComesNext m.job (answering m) n
  comes_next = record {
    fresh = unanswered stands;
    last = λ k a counts same.
        let given = printed-counted m k (ap is_some counts) in
        let op = some_of (op_at m.job k) (so_far.operations k given) in
        let of_client = sym (ap rank_in op.1) ∙ same ∙ ap rank_in is ∙ ap Some rank in
        before stands k op.0 given op.1 (same_Some op.0.rank r of_client);
  }

  -- no line that was answered is of a later phase
  pub no_later_phase : (k : ℕ) → IsSome (answering m k) → phase m.job k ≤ phase m.job n
  no_later_phase k counts = elim (cases_lt (phase m.job n) (phase m.job k)) [
    | inl before ↦
        let given = so_far.phases k n (printed-counted m k counts) (ap is_some is) before in
        absurd (true≢false (sym given ∙ ap is_some (unanswered stands)))
    | inr other ↦ other
  ]

  -- ---- the log of its client

  -- its client is one that the shape counts
  pub of_client : o.rank < m.job.shape.clients
  of_client = so_far.job.clients n o is

  pub log_is_whole : length (pieces_of_log (log_of m o.rank)) + length (empty_slots (log_of m o.rank))
      ≡ m.job.shape.shmem + m.job.shape.spill
  log_is_whole = held_and_free 0 (log_of m o.rank) ∙ (so_far.slots o.rank of_client).sized

  -- a piece in it is of an accepted line before this one
  early : (x : Piece) → list_any (piece_eq x) (pieces_of_log (log_of m o.rank)) ≡ true
      → (was_accepted (answering m x.line) && nat_lt x.line n) ≡ true
  early x h =
      let has = has_piece m o.rank x h in
      let accepted = so_far.accepted o.rank x of_client has in
      let answered = answered-accepted (answering m x.line) accepted in
      let own = IsPartOf-from_pieces m.job o.rank x ((so_far.slots o.rank of_client).own x has) in
      let before_it = comes_next.last x.line answered.0 answered.1 (own.line ∙ sym (ap rank_in is)) in
      and_from (was_accepted (answering m x.line)) (nat_lt x.line n) accepted (lt-ltb x.line n before_it)

  pub held-le-accepted : length (pieces_of_log (log_of m o.rank)) ≤ accepted_before m.job (answering m) o.rank n
  held-le-accepted =
      let slots = so_far.slots o.rank of_client in
      distinct-le-accepted m.job (answering m) n o.rank (pieces_of_log (log_of m o.rank))
      (IsDistinct-pieces_of_log (log_of m o.rank) slots.once)
      (λ x h. any_from_Contains x (pieces_by m.job o.rank) (slots.own x (has_piece m o.rank x h))) early

  -- the line, with what is known of its path
  abbrev pub coming : NextLine
  coming =
      let J = journal m o.path in
      let legal = so_far.legal.legal o.path in
      record {
        told = told;
        job = m.job;
        counted = answering m;
        journal = J;
        number = n;
        line = o;
        is = is;
        next = comes_next;
        log = log_of m o.rank;
        later = AllByRecursion-from_get (λ k. phase m.job k ≤ phase m.job n) J (λ i k at.
            no_later_phase k (answered-in_journal i k legal at));
        legal = legal;
        fit = so_far.legal.fit o.path;
        chunk = so_far.job.chunk;
        within = omega (arith, log_is_whole);
        held = omega (arith, log_is_whole, held-le-accepted);
      }
