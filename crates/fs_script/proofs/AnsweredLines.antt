-- The lines of rising answers, one answer for each number of a range that passes a test.
use Rattle.fs_types.proofs.Common.{◌≡◌, ℕ, zero, suc, ◌+◌, ◌≤◌, Bool, true, false, List, [], ◌∷◌, map, None, is_some, true≢false, refl, sym}
use Rattle.fs_types.proofs.Common.{ap, ◌∙◌, subst, inl, inr, arith, filter, range_with_len, cond_both, cases_eq, none-some}
use Rattle.fs_script.specs.Vocabulary.{Answer, answer_at, IsRisingFrom}
use Rattle.fs_types.proofs.CallerLemmas.{answer_at-same, answer_at-other, answer_at-rising_below, IsRisingFrom-lower}
use Rattle.fs_script.proofs.PlainLists.{none_from-is_some}

-- without an answer to its first number, a list rises from the next one
pub rises_past : (xs : List (ℕ × Answer)) (k : ℕ) → IsRisingFrom k xs → answer_at xs k ≡ None → IsRisingFrom (k + 1) xs
rises_past [] k h e = tt
rises_past ((i, a) ∷ xs) k h e =
    elim (cases_eq i k) [
      | inl is ↦ absurd (none-some a (sym e ∙ answer_at-same i k a xs (sym is)))
      | inr other ↦ (let from = h.0 in omega arith, h.1)
    ]

-- the lines of answers whose first number passes, where those of the rest are known
with_passing : (P : ℕ → Bool) (a : ℕ) (rest : List ℕ) (xs : List (ℕ × Answer)) → IsRisingFrom a xs
    → ((n : ℕ) → a ≤ n → is_some (answer_at xs n) ≡ P n) → P a ≡ true
    → ((ys : List (ℕ × Answer)) → IsRisingFrom (a + 1) ys → ((n : ℕ) → a + 1 ≤ n → is_some (answer_at ys n) ≡ P n)
    → map (λ x. x.0) ys ≡ rest) → map (λ x. x.0) xs ≡ a ∷ rest
with_passing P a rest [] rising same e go = absurd (true≢false (sym e ∙ sym (same a (omega arith))))
with_passing P a rest ((i, b) ∷ xs) rising same e go =
    elim (cases_eq i a) [
      | inl is ↦
          let next : suc i ≡ a + 1 = omega arith in
          ap (λ k. k ∷ map (λ x. x.0) xs) is ∙ ap (λ ks. a ∷ ks) (go xs (subst (λ k. IsRisingFrom k xs) next rising.1)
          (λ n from. ap is_some (sym (answer_at-other i n b xs (λ h. omega arith))) ∙ same n (omega arith)))
      | inr other ↦
          let from = rising.0 in
          let none = answer_at-other i a b xs (λ h. omega arith) ∙ answer_at-rising_below xs (suc i) a rising.1 (omega arith) in
          absurd (true≢false (sym e ∙ sym (same a (omega arith)) ∙ ap is_some none))
    ]

-- answers that rise, one for each number of a range that passes: their lines are those numbers
pub lines-passing : (P : ℕ → Bool) (len a : ℕ) (xs : List (ℕ × Answer)) → IsRisingFrom a xs
    → ((n : ℕ) → a ≤ n → is_some (answer_at xs n) ≡ P n) → ((n : ℕ) → a + len ≤ n → P n ≡ false)
    → map (λ x. x.0) xs ≡ filter P (range_with_len a len)
lines-passing P zero a [] rising same past = refl
lines-passing P zero a ((i, b) ∷ xs) rising same past =
    let from = rising.0 in
    absurd (true≢false (sym (ap is_some (answer_at-same i i b xs refl)) ∙ same i from ∙ past i (omega arith)))
lines-passing P (suc len) a xs rising same past =
    let rest = filter P (range_with_len (a + 1) len) in
    cond_both (P a) (a ∷ rest) rest (λ ns. map (λ x. x.0) xs ≡ ns)
    (λ e. with_passing P a rest xs rising same e (λ ys h k. lines-passing P len (a + 1) ys h k (λ n from. past n (omega arith))))
    (λ e. lines-passing P len (a + 1) xs (rises_past xs a rising (none_from-is_some (answer_at xs a) (same a (omega arith) ∙ e)))
    (λ n from. same n (omega arith)) (λ n from. past n (omega arith)))

-- the other way: answers whose lines are those numbers rise
pub rising-passing : (P : ℕ → Bool) (len a : ℕ) (xs : List (ℕ × Answer)) → map (λ x. x.0) xs ≡ filter P (range_with_len a len)
    → IsRisingFrom a xs
rising-passing P len a [] same = tt
rising-passing P zero a (x ∷ xs) same = cc
rising-passing P (suc len) a (x ∷ xs) same =
    let rest = filter P (range_with_len (a + 1) len) in
    cond_both (P a) (a ∷ rest) rest (λ ns. x.0 ∷ map (λ y. y.0) xs ≡ ns → IsRisingFrom a (x ∷ xs))
    (λ _ e. first e (rising-passing P len (a + 1) xs (cc)))
    (λ _ e. IsRisingFrom-lower (x ∷ xs) a (a + 1) (omega arith) (rising-passing P len (a + 1) (x ∷ xs) e)) same
  where
    first : {ns : List ℕ} → x.0 ∷ map (λ (y : ℕ × Answer). y.0) xs ≡ a ∷ ns → IsRisingFrom (a + 1) xs → IsRisingFrom a (x ∷ xs)
    first e above =
        let is : x.0 ≡ a = cc in
        let next : a + 1 ≡ suc x.0 = omega arith in
        (omega arith, subst (λ k. IsRisingFrom k xs) next above)
