-- Which clients go, and when the run is in a phase.
use Rattle.fs_types.proofs.Common.{common_steps, ◌≡◌, ℕ, ◌+◌, ◌<◌, ◌≤◌, Bool, true, false, cond, List, [], ◌∷◌, ◌++◌, suc, zero-add, Option}
use Rattle.fs_types.proofs.Common.{Some, None, slice_get, Contains, true≢false, eqb-true, refl, sym, ap, ◌∙◌, arith, filter, range_with_len}
use Rattle.fs_types.proofs.Common.{eq-eqb, append-nil, filter-append, none-some, slice_get-get_or}
use Rattle.fs_script.specs.Vocabulary.{Job, phase}
use Rattle.core_machine.specs.Vocabulary.{Places, next_in, is_of_phase, going, IsInPhase}
use Rattle.fs_script.proofs.CallerLemmas.{range-push, passes, passing-place}

-- whether client r goes
abbrev pub goes_in : Places → ℕ → Bool
goes_in v r = is_of_phase v.job v.phase (next_in v r)

-- client r goes: its next line is line n, which is of the run's phase
pub record Goes (v : Places) (r n : ℕ) : Type 0 where
  pub next : next_in v r ≡ Some n
  pub of_phase : phase v.job n ≡ v.phase

-- a line of a phase is one
pub line-of_phase : (s : Job) (k : ℕ) (x : Option ℕ) → is_of_phase s k x ≡ true → (n : ℕ) × (x ≡ Some n) × (phase s n ≡ k)
line-of_phase s k None of = absurd (true≢false (sym of))
line-of_phase s k (Some n) of = (n, refl, eqb-true (phase s n) k of)

-- a client that is ready goes
pub Goes-from_Contains : (v : Places) (r : ℕ) → Contains (going v) r → (n : ℕ) × Goes v r n
Goes-from_Contains v r has = grind (arith, common_steps, slice_get-get_or, going, passes, line-of_phase)

pub goes_in-true : {v : Places} {r n : ℕ} → Goes v r n → goes_in v r ≡ true
goes_in-true {v} {n} goes = ap (is_of_phase v.job v.phase) goes.next ∙ eq-eqb (phase v.job n) v.phase goes.of_phase

-- where no client is ready none goes
pub none-goes : {v : Places} {r n : ℕ} → going v ≡ [] → r < v.job.shape.clients → Goes v r n → ⊥
none-goes {v} {r} {n} empty within goes =
    let place = passing-place (goes_in v) 0 v.job.shape.clients r (goes_in-true goes) (omega arith) (omega arith) in
    none-some r (sym (ap (λ (rs : List ℕ). slice_get rs place.0) empty) ∙ place.1)

-- the run is in a phase where some client goes and no next line is of an earlier one
pub IsInPhase-from_some : (v : Places) → ((r n : ℕ) → next_in v r ≡ Some n → v.phase ≤ phase v.job n) → (going v ≡ [] → ⊥) → IsInPhase v
IsInPhase-from_some v none_earlier some = record { none_earlier = none_earlier; none_left = λ empty. absurd (some empty) }

-- ---- the clients one by one

module _ (test : ℕ → Bool) (n : ℕ) where
  clients-more : filter test (range_with_len 0 (n + 1)) ≡ filter test (range_with_len 0 n) ++ cond (test n) (n ∷ []) []
  clients-more =
      let longer : n + 1 ≡ suc n = omega arith in
      let range = ap (range_with_len 0) longer ∙ sym (range-push 0 n) ∙ ap (λ m. range_with_len 0 n ++ m ∷ []) (zero-add n) in
      ap (filter test) range ∙ filter-append test (range_with_len 0 n) (n ∷ [])

  pub clients-push : test n ≡ true → filter test (range_with_len 0 (n + 1)) ≡ filter test (range_with_len 0 n) ++ n ∷ []
  clients-push passes = clients-more ∙ ap (λ b. filter test (range_with_len 0 n) ++ cond b (n ∷ []) []) passes

  pub clients-skip : test n ≡ false → filter test (range_with_len 0 (n + 1)) ≡ filter test (range_with_len 0 n)
  clients-skip fails = grind (arith, common_steps, clients-more, append-nil)
