-- The journals with a line at the end of one path's: that path's journal has it, and every other
-- stays.
use Rattle.fs_types.proofs.Common.{common_steps, ◌≡◌, ◌≢◌, ℕ, false, List, [], ◌∷◌, ◌++◌, map, bytes_eq, Contains, true≢false, refl, sym}
use Rattle.fs_types.proofs.Common.{ap, ◌∙◌, subst, inl, inr, arith, cases_Bool, Contains-tail, bytes_eq-Decides}
use Rattle.fs_script.specs.Vocabulary.{journal_of, Pushes}
use Rattle.core_machine.specs.Vocabulary.{with_entry}
use Rattle.fs_script.proofs.CallerLemmas.{same_bytes, other_bytes}

-- the paths stay
pub paths-with_entry : (p : List ℕ) (n : ℕ) (js : List (List ℕ × List ℕ)) → map (λ j. j.0) (with_entry p n js) ≡ map (λ j. j.0) js
paths-with_entry p n [] = refl
paths-with_entry p n (j ∷ js) =
    let rest = ap (λ ps. j.0 ∷ ps) (paths-with_entry p n js) in
    elim (cases_Bool (bytes_eq j.0 p)) [ inl e ↦ simp e rest | inr e ↦ simp e rest ]

-- the path has a journal, which gets the line
journal_of-with_entry : (p : List ℕ) (n : ℕ) (js : List (List ℕ × List ℕ))
    → Contains (map (λ j. j.0) js) p → journal_of (with_entry p n js) p ≡ journal_of js p ++ n ∷ []
journal_of-with_entry p n [] has = absurd (omega arith)
journal_of-with_entry p n (j ∷ js) has = elim (cases_Bool (bytes_eq j.0 p)) [
  | inl e ↦ simp e
  | inr e ↦
      let another : j.0 ≢ p = λ same. true≢false (sym (same_bytes j.0 p same) ∙ e) in
      let rest = Contains-tail j.0 (map (λ i. i.0) js) p another has in
      simp e (journal_of-with_entry p n js rest)
]

-- the journal of another path stays
journal_of-with_entry_other : (p q : List ℕ) (n : ℕ) (js : List (List ℕ × List ℕ))
    → bytes_eq p q ≡ false → journal_of (with_entry p n js) q ≡ journal_of js q
journal_of-with_entry_other p q n [] other = refl
journal_of-with_entry_other p q n (j ∷ js) other = elim (cases_Bool (bytes_eq j.0 p)) [
  | inl e ↦
      let first = sym ((bytes_eq-Decides j.0 p).0 e) in
      let another = subst (λ x. bytes_eq x q ≡ false) first other in
      simp (e, another) (journal_of-with_entry_other p q n js other)
  | inr e ↦ simp (e, journal_of-with_entry_other p q n js other)
]

-- so the line comes to the end of its own path's journal
pub Pushes-with_entry : (p : List ℕ) (n : ℕ) (js : List (List ℕ × List ℕ))
    → Contains (map (λ j. j.0) js) p → Pushes (journal_of js) p n (journal_of (with_entry p n js))
Pushes-with_entry p n js has = grind (arith, common_steps, journal_of-with_entry, journal_of-with_entry_other, other_bytes)
