-- The places after a client's next line was answered: the lines that come next, and who goes.
use Rattle.fs_types.proofs.Common.{common_steps, ◌≡◌, ℕ, ◌+◌, ◌<◌, ◌≤◌, Bool, true, false, List, [], ◌∷◌, cond, not, length, filter, Some}
use Rattle.fs_types.proofs.Common.{slice_get, slice_index, refl, sym, ap, ◌∙◌, inl, inr, arith, ◌==◌, ◌&&◌, range_with_len, and_right}
use Rattle.fs_types.proofs.Common.{cases_eq, eq-eqb, ne_eqb, get_or-set_same, get_or-set_other, filter_agree}
use Rattle.fs_script.specs.Vocabulary.{phase, program}
use Rattle.core_machine.specs.Vocabulary.{Places, next_in, is_of_phase, going, after_line, IsInPhase}
use Rattle.fs_script.proofs.CallerLemmas.{phase-rises, passing-rise}
use Rattle.core_machine.proofs.Programs.Going.{goes_in, Goes, goes_in-true}

next_in-other : (v : Places) (r q : ℕ) → (q ≡ r → ⊥) → next_in (after_line v r) q ≡ next_in v q
next_in-other v r q other = ap (slice_get (program v.job q)) (get_or-set_other v.places r q (slice_index v.places r + 1) 0 other)

pub next_in-own : (v : Places) (r : ℕ) → r < length v.places
    → next_in (after_line v r) r ≡ slice_get (program v.job r) (slice_index v.places r + 1)
next_in-own v r within = ap (slice_get (program v.job r)) (get_or-set_same v.places r (slice_index v.places r + 1) 0 within)

and-true : (b : Bool) → (b && true) ≡ b
and-true true = refl
and-true false = refl

-- what passes both tests
filter-filter : (p q both : ℕ → Bool) → ((x : ℕ) → both x ≡ (q x && p x)) → (xs : List ℕ) → filter both xs ≡ filter q (filter p xs)
filter-filter p q both is [] = refl
filter-filter p q both is (x ∷ xs) =
    let ys = filter p xs in
    rw (is x, filter-filter p q both is xs)
    (elim (p x) as (λ b. cond (q x && b) (x ∷ filter q ys) (filter q ys) ≡ filter q (cond b (x ∷ ys) ys)) [
      | true ↦ ap (λ b. cond b (x ∷ filter q ys) (filter q ys)) (and-true (q x))
      | false ↦ ap (λ b. cond b (x ∷ filter q ys) (filter q ys)) (and_right (q x) false refl)
    ])

module _ (v : Places) (r n : ℕ) (within : r < length v.places) (goes : Goes v r n) where
  -- no next line is of an earlier phase
  pub none_earlier-advanced : IsInPhase v → (q m : ℕ) → next_in (after_line v r) q ≡ Some m → v.phase ≤ phase v.job m
  none_earlier-advanced in_phase q m next = grind (arith, common_steps, next_in-own, passing-rise, length, phase-rises, next_in-other)

  -- where its next line is of the same phase, the same clients go
  pub going-stays : goes_in (after_line v r) r ≡ true → going (after_line v r) ≡ going v
  going-stays of = filter_agree (goes_in (after_line v r)) (goes_in v)
      (λ q. elim (cases_eq q r) [
        | inl is ↦ ap (goes_in (after_line v r)) is ∙ of ∙ sym (ap (goes_in v) is ∙ goes_in-true goes)
        | inr other ↦ ap (is_of_phase v.job v.phase) (next_in-other v r q other)
      ]) (range_with_len 0 v.job.shape.clients)

  -- where it has none in this phase, the others go
  pub going-leaves : goes_in (after_line v r) r ≡ false → going (after_line v r) ≡ filter (λ q. not (q == r)) (going v)
  going-leaves of = filter-filter (goes_in v) (λ q. not (q == r)) (goes_in (after_line v r))
      (λ q. elim (cases_eq q r) [
        | inl is ↦ rw (eq-eqb q r is) (ap (goes_in (after_line v r)) is ∙ of)
        | inr other ↦ rw (ne_eqb q r other) (ap (is_of_phase v.job v.phase) (next_in-other v r q other))
      ]) (range_with_len 0 v.job.shape.clients)
