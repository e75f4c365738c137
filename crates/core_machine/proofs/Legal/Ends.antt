-- The end of a run: where no client is ready and memory didn't run out, each operation has an
-- answer, and the report is legal.
use Rattle.fs_types.proofs.Common.{common_steps, ◌≡◌, ℕ, zero, suc, ◌+◌, ◌≤◌, ◌<◌, true, false, List, [], length, map, Some, None, IsSome}
use Rattle.fs_types.proofs.Common.{is_some, slice_get, slice_index, Contains, ltb-false, le-ltb, le-leb, true≢false, refl, sym, ap, ◌∙◌}
use Rattle.fs_types.proofs.Common.{subst, inl, inr, arith, or_left, or_right, cases_Bool, cases_lt, false_from_ne_true, All-map}
use Rattle.fs_types.proofs.Common.{recursion_from_All, slice_get-get_or, slice_get_within, map-map}
use Rattle.fs_types.proofs.Common.{Bool, nat_lt, filter_agree, range_with_len, length-range_with_len, get_or-range_with_len, get_or}
use Rattle.std.proofs.lemmas.List.{map-id}
use Rattle.std.proofs.lemmas.List.Elements.{All-from_get_or}
use Rattle.std.proofs.lemmas.List.Sums.{sum_by-le}
use Rattle.fs_script.specs.Vocabulary.{Piece, AreCounted, SlotsAreCounted, live_or_pending, pieces_by, FileState, Job, op_at, op_lines}
use Rattle.fs_script.specs.Vocabulary.{is_of_rank, program, Answering, file_state_of, IsLegal}
use Rattle.core_machine.specs.Vocabulary.{Doing, Client, nothing, reading, fresh_client, names, readers_of, holds_of, is_owned, census}
use Rattle.core_machine.specs.Vocabulary.{log_of, MayGoOn}
use Rattle.core_machine.specs.Vocabulary.{OpLine, Moment, printed, answering, journal, client_of, file_now, has_begun, may_come, next_line}
use Rattle.core_machine.specs.Vocabulary.{ready, report_of}
use Rattle.core_machine.specs.Vocabulary.{IsAnsweredUpTo, IsLegalMoment}
use Rattle.fs_script.proofs.CallerLemmas.{rises_past, lines-passing, IsLegal-finished, phase-rises, some_of, op_at-within, passing-rise}
use Rattle.fs_script.proofs.CallerLemmas.{program-place, program-op}
use Rattle.fs_script.proofs.CallerLemmas.{length-live_or_pending, Contains-passing}
use Rattle.core_machine.proofs.Legal.Phases.{lets_begin, has_begun-from}
use Rattle.core_machine.proofs.Legal.Logs.{one_if, held_and_free, count-pieces_of_log}
use Rattle.core_machine.proofs.Legal.Census.{held-count}

-- the place of a client whose lines before the one at i have answers, but not that one
place-is : (s : Job) (A : Answering) (r place i n : ℕ) → IsAnsweredUpTo s A r place
    → slice_get (program s r) i ≡ Some n → is_some (A n) ≡ false
    → ((k : ℕ) (o : OpLine) → k < n → op_at s k ≡ Some o → IsSome (A k)) → place ≡ i
place-is s A r place i n upto at fresh earlier =
    let from = ltb-false i place (sym (upto i n at) ∙ fresh) in
    let within = slice_get_within (program s r) i n at in
    let rises = passing-rise (λ j. is_of_rank r (op_at s j)) 2 (length s.lines) place i in
    elim (cases_lt place i) [
      | inl less ↦
          let k = slice_index (program s r) place in
          let there = slice_get-get_or (program s r) place 0 (omega arith) in
          let op = program-op s r place k there in
          let given = earlier k op.0 (rises k n less there at) op.1 in
          absurd (true≢false (sym given ∙ upto place k there ∙ le-ltb place place (omega arith)))
      | inr other ↦ omega arith
    ]

no_operation : (s : Job) (n : ℕ) → 2 + length s.lines ≤ n → is_some (op_at s n) ≡ false
no_operation s n past = grind (arith, common_steps, false_from_ne_true, some_of, op_at-within)

module _ {told : List ℕ} {m : Moment} (so_far : IsLegalMoment told m)
    (none : ready m ≡ []) (going : m.spent ≡ false) where
  -- a client whose next line's phase has begun would be ready
  none_comes : (r n : ℕ) → r < m.job.shape.clients → next_line m r ≡ Some n → has_begun m n ≡ true → ⊥
  none_comes r n within next begun =
      let comes = λ (i : ℕ). may_come m (next_line m i) in
      let passes = ap (may_come m) next ∙ begun in
      let has = Contains-passing comes 0 m.job.shape.clients r passes (omega arith) (omega arith) in
      let found : Contains [] r = subst (λ xs. Contains xs r) (rw going at none) has in
      omega (arith, found.1)

  -- an operation has an answer where each before it has one, since its client isn't ready
  answered-next : (n : ℕ) (o : OpLine) → op_at m.job n ≡ Some o
      → ((k : ℕ) (l : OpLine) → k < n → op_at m.job k ≡ Some l → IsSome (printed m k)) → IsSome (printed m n)
  answered-next n o is earlier = elim (cases_Bool (is_some (printed m n))) [
    | inl given ↦ given
    | inr fresh ↦
        let r = o.rank in
        let within = so_far.job.clients n o is in
        let at = program-place m.job n o is in
        let upto = so_far.places r within in
        let place = (client_of m r).place in
        let here = place-is m.job (printed m) r place at.0 n upto at.1 fresh earlier in
        let next = ap (slice_get (program m.job r)) here ∙ at.1 in
        absurd (none_comes r n within next (has_begun-from m n begun))
  ]
    where
      begun : (k : ℕ) (l : OpLine) → op_at m.job k ≡ Some l → lets_begin m n k ≡ true
      begun k l op = elim (cases_lt k n) [
        | inl before ↦ or_left _ _ (earlier k l before op)
        | inr after ↦ or_right _ _ (le-leb _ _ (phase-rises m.job n k after))
      ]

  -- so each below a line has one
  answered-below : (below n : ℕ) (o : OpLine) → n < below → op_at m.job n ≡ Some o → IsSome (printed m n)
  answered-below zero n o lt is = absurd (omega arith)
  answered-below (suc below) n o lt is = answered-next n o is (λ k l before op. answered-below below k l (omega arith) op)

  unanswered : (n : ℕ) → is_some (op_at m.job n) ≡ false → printed m n ≡ None
  unanswered n not_one = grind (arith, common_steps)

  -- each operation has an answer, and nothing else
  answers-at_end : (n : ℕ) → is_some (printed m n) ≡ is_some (op_at m.job n)
  answers-at_end n = grind (arith, common_steps, some_of, answered-below, unanswered)

  lines-at_end : map (λ a. a.0) m.answers ≡ op_lines m.job
  lines-at_end =
      let from_one = rises_past m.answers 0 so_far.rising (unanswered 0 refl) in
      let from_two = rises_past m.answers 1 from_one (unanswered 1 refl) in
      lines-passing (λ n. is_some (op_at m.job n)) (length m.job.lines) 2 m.answers from_two
      (λ n _. answers-at_end n) (no_operation m.job)

  -- ---- slots

  -- no client is in the midst of a line
  idle : (r : ℕ) → r < m.job.shape.clients → (d : Doing) → MayGoOn told m r d → (x : Piece) → names d x ≡ false
  idle r within nothing goes x = refl
  idle r within (reading d) goes x = absurd (none_comes r goes.line within goes.next goes.begun)

  -- so no read under way names a piece
  none_reads : (x : Piece) → readers_of m x ≡ 0
  none_reads x =
      let count : Client → ℕ = λ c. one_if (names c.doing x) in
      let each = All-from_get_or (λ c. count c ≤ 0) m.clients fresh_client (λ i below.
      let within : i < m.job.shape.clients = omega (arith, so_far.clients) in
      let not_named = idle i within (client_of m i).doing (so_far.under_way i within) x in
      let none : one_if (names (client_of m i).doing x) ≡ 0 = ap one_if not_named in
      omega arith) in
      omega (arith, sum_by-le count 0 m.clients each)

  -- and what is held is live or pending
  is_held : (r : ℕ) (x : Piece) → nat_lt 0 (holds_of m r x) ≡ is_owned m r x
  is_held r x =
      ap (λ k. nat_lt 0 (one_if (is_owned m r x) + k)) (none_reads x) ∙ by (is_owned m r x)
    where
      by : (b : Bool) → nat_lt 0 (one_if b + 0) ≡ b
      by true = refl
      by false = refl

  pub held-exact : (r : ℕ) → r < m.job.shape.clients
      → (census m r).held ≡ length (live_or_pending m.job (answering m) (journal m) r)
  held-exact r within =
      count-pieces_of_log (log_of m r) ∙ held-count (so_far.slots r within)
      ∙ ap length (filter_agree (λ x. nat_lt 0 (holds_of m r x)) (is_owned m r) (is_held r) (pieces_by m.job r))

  counted : (r : ℕ) → r < m.job.shape.clients → AreCounted m.job (report_of m) (census m r)
  counted r within =
      let exact = held-exact r within in
      let log = log_of m r in
      record {
        whole = omega (arith, count-pieces_of_log log, held_and_free 0 log, (so_far.slots r within).sized);
        least = omega (arith, exact);
        most = omega (arith, exact, length-live_or_pending m.job so_far.job.chunk (answering m) (journal m) r);
        faults = refl;
      }

  slots-counted : SlotsAreCounted m.job (report_of m)
  slots-counted =
      let clients = range_with_len 0 m.job.shape.clients in
      let each = All-from_get_or (λ r. AreCounted m.job (report_of m) (census m r)) clients 0 (λ i below.
      let size = length-range_with_len 0 m.job.shape.clients in
      let is = get_or-range_with_len 0 m.job.shape.clients i 0 (omega arith) in
      counted (get_or clients i 0) (omega arith)) in
      recursion_from_All (AreCounted m.job (report_of m)) _ (All-map (AreCounted m.job (report_of m)) (census m) clients each)

  pub report-legal : IsLegal m.job (report_of m) told
  report-legal =
      let state_at : List ℕ → FileState = λ p. file_state_of (file_now m p) in
      let file_at : List ℕ × List ℕ → List ℕ × FileState = λ j. (j.0, state_at j.0) in
      let IsState = λ (f : List ℕ × FileState). f.1 ≡ state_at f.0 in
      let states = All-map IsState file_at m.journals (λ k d within. refl) in
      let clients = range_with_len 0 m.job.shape.clients in
      IsLegal-finished (record {
        answers = lines-at_end;
        journals = so_far.paths;
        files = map-map (λ f. f.0) file_at m.journals;
        slots = map-map (λ l. l.rank) (census m) clients ∙ map-id clients;
      }) (recursion_from_All IsState _ states) slots-counted so_far.legal
