-- Paths in byte order, their places, and what stands beside each.
use Rattle.fs_types.proofs.Common.{◌≡◌, ℕ, zero, suc, true, false, List, [], ◌∷◌, Some, refl, sym, ap, subst, ◌∙◌, arith, true≢false, zip}
use Rattle.fs_types.proofs.Common.{AllByRecursion, Contains, slice_get, bytes_eq, nat_cmp, is_lt, slice_cmp, tied_itself}
use Rattle.fs_types.proofs.Common.{nat_list_cmp_total, false_from_ne_true, cond-true, cond-false, Contains-append_right, same_Some}
use Rattle.fs_types.proofs.Common.{bytes_eq-Decides, None, length, ◌≤◌, cond, ltb, get_or, Option, Bool, IfSome, position, ltb-false}
use Rattle.fs_types.proofs.Common.{IfNone, position-Some, fails_before_first, slice_get-get_or, position_or_len}
use Rattle.fs_script.specs.Vocabulary.{AreRising, journal_of}

-- a path that is below each of a list is not among them
pub not_among : (p : List ℕ) (ps : List (List ℕ)) (k : ℕ) → AllByRecursion (λ q. is_lt (slice_cmp nat_cmp p q) ≡ true) ps
    → slice_get ps k ≡ Some p → ⊥
not_among p [] k below at = absurd cc
not_among p (q ∷ qs) zero below at = true≢false (sym (subst (λ r. is_lt (slice_cmp nat_cmp p r) ≡ true) (same_Some q p at) below.0)
    ∙ ap is_lt (tied_itself nat_list_cmp_total p))
not_among p (q ∷ qs) (suc k) below at = not_among p qs k below.1 at

-- a path stands at one place
pub place_unique : (ps : List (List ℕ)) (i j : ℕ) (p : List ℕ) → AreRising ps → slice_get ps i ≡ Some p → slice_get ps j ≡ Some p → i ≡ j
place_unique [] i j p rising here there = absurd cc
place_unique (q ∷ qs) zero zero p rising here there = refl
place_unique (q ∷ qs) zero (suc j) p rising here there = absurd (not_among q qs j rising.0 (there ∙ sym here))
place_unique (q ∷ qs) (suc i) zero p rising here there = absurd (not_among q qs i rising.0 (here ∙ sym there))
place_unique (q ∷ qs) (suc i) (suc j) p rising here there = ap suc (place_unique qs i j p rising.1 here there)

-- the test finds bytes the same
pub same_bytes : (p q : List ℕ) → p ≡ q → bytes_eq p q ≡ true
same_bytes p q e = (bytes_eq-Decides p q).1 e

-- and tells others apart
pub other_bytes : (p q : List ℕ) → (p ≡ q → ⊥) → bytes_eq p q ≡ false
other_bytes p q differ = false_from_ne_true (bytes_eq p q) (λ e. differ ((bytes_eq-Decides p q).0 e))

-- where the first path is another, the journal is among the rest
pub journal_of-later : (j : List ℕ × List ℕ) (js : List (List ℕ × List ℕ)) (p : List ℕ) → bytes_eq j.0 p ≡ false
    → journal_of (j ∷ js) p ≡ journal_of js p
journal_of-later j js p e = cond-false (bytes_eq j.0 p) j.1 (journal_of js p) e

-- the journal of the path at a place is the one at that place
pub journal_of-zip : (ps js : List (List ℕ)) (i : ℕ) (p j : List ℕ) → AreRising ps → slice_get ps i ≡ Some p → slice_get js i ≡ Some j
    → journal_of (zip ps js) p ≡ j
journal_of-zip [] js i p j rising at beside = absurd cc
journal_of-zip (q ∷ qs) [] i p j rising at beside = absurd cc
journal_of-zip (q ∷ qs) (k ∷ ks) zero p j rising at beside =
    cond-true (bytes_eq q p) k (journal_of (zip qs ks) p) (same_bytes q p (same_Some q p at)) ∙ same_Some k j beside
journal_of-zip (q ∷ qs) (k ∷ ks) (suc i) p j rising at beside =
    journal_of-later (q, k) (zip qs ks) p (other_bytes q p (λ e. not_among q qs i rising.0 (at ∙ ap Some (sym e))))
    ∙ journal_of-zip qs ks i p j rising.1 at beside

-- a path that is not among them has no journal
pub journal_of-absent : (ps js : List (List ℕ)) (p : List ℕ) → (Contains ps p → ⊥) → journal_of (zip ps js) p ≡ []
journal_of-absent [] js p absent = refl
journal_of-absent (q ∷ qs) [] p absent = refl
journal_of-absent (q ∷ qs) (k ∷ ks) p absent =
    journal_of-later (q, k) (zip qs ks) p (other_bytes q p (λ e. absent (0, omega arith, e)))
    ∙ journal_of-absent qs ks p (λ there. absent (Contains-append_right (q ∷ []) qs p there))

-- ---- the first place at which a path stands

-- the path stands at its place
pub slice_get-position : (ps : List (List ℕ)) (p : List ℕ) → IfSome (position (λ q. bytes_eq q p) ps) (λ i. slice_get ps i ≡ Some p)
slice_get-position ps p = by (position (λ q. bytes_eq q p) ps) refl
  where
    by : (r : Option ℕ) → position (λ q. bytes_eq q p) ps ≡ r → IfSome r (λ i. slice_get ps i ≡ Some p)
    by None e = tt
    by (Some i) e =
        let at = position-Some (λ q. bytes_eq q p) ps i p e in
        slice_get-get_or ps i p at.0 ∙ ap Some ((bytes_eq-Decides (get_or ps i p) p).0 at.1)

-- a path without a place is not among them
pub absent-from_position : (ps : List (List ℕ)) (p : List ℕ) → IfNone (position (λ q. bytes_eq q p) ps) (Contains ps p → ⊥)
absent-from_position ps p = by (ltb (position_or_len (λ q. bytes_eq q p) ps) (length ps)) refl
  where
    by : (b : Bool) → ltb (position_or_len (λ q. bytes_eq q p) ps) (length ps) ≡ b
        → IfNone (cond b (Some (position_or_len (λ q. bytes_eq q p) ps)) None) (Contains ps p → ⊥)
    by true e = tt
    by false e = λ there.
        let past : length ps ≤ position_or_len (λ q. bytes_eq q p) ps = ltb-false _ _ e in
        true≢false (sym ((bytes_eq-Decides (get_or ps there.0 p) p).1 there.2)
        ∙ fails_before_first (λ q. bytes_eq q p) ps there.0 p (omega (arith, past, there.1)))
