-- The first moment of a run is legal: nothing was answered, and nothing is in any slot.
use Rattle.fs_types.proofs.Common.{◌≡◌, ℕ, ◌+◌, ◌<◌, List, [], ◌∷◌, length, bytes_eq, Some, None, Option, Contains, refl, sym, ap}
use Rattle.fs_types.proofs.Common.{◌∙◌, subst, arith, AllByRecursion, cond_both, length-replicate, get_or-replicate, replicate, slice_get}
use Rattle.fs_types.proofs.Common.{none-some}
use Rattle.fs_types.proofs.Common.{true≢false, slice_get_within, get_or_from_slice_get, cases_Bool, inl, inr, IsSome, is_some}
use Rattle.fs_types.proofs.Common.{slice_index_or, nat_lt, All, All-replicate, ◌≤◌, le-ltb}
use Rattle.std.proofs.lemmas.List.Sums.{sum_by-le}
use Rattle.fs_script.specs.Vocabulary.{Piece, IsRising, answer_at, journal_of, was_accepted}
use Rattle.core_machine.specs.Vocabulary.{Client, Moment, answering, printed, journal, client_of, fresh_client, log_of, names, readers_of}
use Rattle.core_machine.specs.Vocabulary.{holds_of, is_owned}
use Rattle.core_machine.specs.Vocabulary.{IsFirst, CanRun, IsLegalMoment, MayGoOn}
use Rattle.fs_script.proofs.CallerLemmas.{IsLegalSoFar-none, IsPart-either}
use Rattle.core_machine.proofs.Legal.Logs.{one_if, place-of}

module _ {m : Moment} (can : CanRun m.job) (first : IsFirst m.job m) where
  abbrev slots : ℕ
  slots = m.job.shape.shmem + m.job.shape.spill

  unanswered : (n : ℕ) → printed m n ≡ None
  unanswered n = ap (λ xs. answer_at xs n) first.answers

  empty-journals : (js : List (List ℕ × List ℕ)) (p : List ℕ) → AllByRecursion (λ j. j.1 ≡ []) js → journal_of js p ≡ []
  empty-journals [] p all = refl
  empty-journals (j ∷ js) p all = cond_both (bytes_eq j.0 p) _ _ (λ J. J ≡ []) (λ _. all.0) (λ _. empty-journals js p all.1)

  none-answered : (n : ℕ) → IsSome (printed m n) → ⊥
  none-answered n given = true≢false (sym given ∙ ap is_some (unanswered n))

  -- each client is before its first line, and its log is empty
  at_first : (r : ℕ) → r < m.job.shape.clients → client_of m r ≡ fresh_client
  at_first r within =
      ap (λ cs. slice_index_or cs r fresh_client) first.clients
      ∙ get_or-replicate m.job.shape.clients r fresh_client fresh_client within

  empty_log : (r : ℕ) → r < m.job.shape.clients → log_of m r ≡ replicate slots None
  empty_log r within =
      ap (λ ls. slice_index_or ls r []) first.logs
      ∙ get_or-replicate m.job.shape.clients r (replicate slots None) [] within

  none_in : (r k : ℕ) (x : Piece) → r < m.job.shape.clients → slice_get (log_of m r) k ≡ Some (Some x) → ⊥
  none_in r k x within at =
      let there = ap (λ log. slice_get log k) (sym (empty_log r within)) ∙ at in
      let below = slice_get_within (replicate slots None) k (Some x) there in
      let is = get_or_from_slice_get (replicate slots None) k (Some x) None there in
      none-some x (sym (get_or-replicate slots k None None (omega (arith, length-replicate {A = Option Piece}))) ∙ is)

  none_reads : (x : Piece) → readers_of m x ≡ 0
  none_reads x =
      let count = λ (c : Client). one_if (names c.doing x) in
      let NoneNamed = λ (c : Client). count c ≤ 0 in
      let each : All NoneNamed m.clients =
      subst (All NoneNamed) (sym first.clients) (All-replicate NoneNamed m.job.shape.clients fresh_client (omega arith)) in
      omega (arith, sum_by-le count 0 m.clients each)

  none_held : (r : ℕ) (x : Piece) → 0 < holds_of m r x → ⊥
  none_held r x held = elim (cases_Bool (is_owned m r x)) [
    | inl owned ↦
        let part = IsPart-either m.job can.chunk (answering m) (journal m) r x owned in
        true≢false (sym part.line ∙ ap was_accepted (unanswered x.line))
    | inr other ↦ let none : one_if (is_owned m r x) ≡ 0 = ap one_if other in omega (arith, none_reads x)
  ]

  pub first-legal : (told : List ℕ) → IsLegalMoment told m
  first-legal told = record {
    job = can;
    clients = ap length first.clients ∙ length-replicate m.job.shape.clients fresh_client;
    places = λ r within k n at.
        ap is_some (unanswered n) ∙ sym (le-ltb k 0 (omega arith)) ∙ ap (λ (c : Client). nat_lt k c.place) (sym (at_first r within));
    operations = λ n given. absurd (none-answered n given);
    phases = λ k n given is before. absurd (none-answered k given);
    rising = subst IsRising (sym first.answers) tt;
    paths = first.paths;
    legal = IsLegalSoFar-none told m.job (answering m) (journal m) unanswered (λ p. empty-journals m.journals p first.journals);
    under_way = λ r within. subst (λ c. MayGoOn told m r c.doing) (sym (at_first r within)) tt;
    logs = ap length first.logs ∙ length-replicate m.job.shape.clients (replicate slots None);
    slots = λ r within. record {
      sized = ap length (empty_log r within) ∙ length-replicate slots None;
      held = λ x has. absurd (none_there r x within has);
      own = λ x has. absurd (none_there r x within has);
      once = λ i j x at there. absurd (none_in r i x within at);
      each = λ x has held. absurd (none_held r x held);
    };
    accepted = λ r x within has. absurd (none_there r x within has);
  }
    where
      none_there : (r : ℕ) (x : Piece) → r < m.job.shape.clients → Contains (log_of m r) (Some x) → ⊥
      none_there r x within has = let at = place-of (log_of m r) (Some x) has in none_in r at.0 x within at.1
