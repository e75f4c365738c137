-- Phases: when that of a line has begun, and that no line with an answer is of a later one.
use Rattle.fs_types.proofs.Common.{◌≡◌, ℕ, ◌<◌, Bool, true, length, Some, IsSome, is_some, leb, true≢false, sym, ◌∙◌}
use Rattle.fs_types.proofs.Common.{inl, inr, ◌||◌, range_with_len, or_cases, lt-leb, All-contains, All-weaker, filter_passes}
use Rattle.fs_types.proofs.Common.{AllPass-from_list_all, list_all-from_AllPass}
use Rattle.fs_script.specs.Vocabulary.{op_at, op_lines, phase}
use Rattle.core_machine.specs.Vocabulary.{OpLine, Moment, printed, has_begun}
use Rattle.fs_script.proofs.CallerLemmas.{some_of, op_at-within, Contains-passing}

-- line k lets the phase of line n begin: it was answered, or is of no earlier phase
abbrev pub lets_begin : Moment → ℕ → ℕ → Bool
lets_begin m n k = is_some (printed m k) || leb (phase m.job n) (phase m.job k)

-- where that is so of each operation, the phase of line n has begun
pub has_begun-from : (m : Moment) (n : ℕ) → ((k : ℕ) (o : OpLine) → op_at m.job k ≡ Some o → lets_begin m n k ≡ true) → has_begun m n ≡ true
has_begun-from m n each =
    list_all-from_AllPass (lets_begin m n) (op_lines m.job)
    (All-weaker (λ k. IsSome (op_at m.job k)) (λ k. lets_begin m n k ≡ true)
    (λ k is. let op = some_of (op_at m.job k) is in each k op.0 op.1) (op_lines m.job)
    (filter_passes (λ k. is_some (op_at m.job k)) (range_with_len 2 (length m.job.lines))))

-- in a phase that has begun, that is so of each operation
pub begun-each : (m : Moment) (n k : ℕ) → has_begun m n ≡ true → IsSome (op_at m.job k) → lets_begin m n k ≡ true
begun-each m n k begun is =
    let op = some_of (op_at m.job k) is in
    let within = op_at-within m.job k op.0 op.1 in
    let has = Contains-passing (λ i. is_some (op_at m.job i)) 2 (length m.job.lines) k is within.0 within.1 in
    All-contains (λ i. lets_begin m n i ≡ true) (op_lines m.job) k (AllPass-from_list_all (lets_begin m n) (op_lines m.job) begun) has

-- so each of an earlier phase has an answer
pub begun-answered : (m : Moment) (n k : ℕ) → has_begun m n ≡ true → IsSome (op_at m.job k)
    → phase m.job k < phase m.job n → IsSome (printed m k)
begun-answered m n k begun is before =
    elim (or_cases (is_some (printed m k)) (leb (phase m.job n) (phase m.job k)) (begun-each m n k begun is)) [
      | inl given ↦ given
      | inr later ↦ absurd (true≢false (sym later ∙ lt-leb (phase m.job n) (phase m.job k) before))
    ]
