-- Plain lists.
use Rattle.fs_types.proofs.Common.{◌≡◌, ℕ, zero, suc, ◌-◌, ◌<◌, List, [], ◌∷◌, ◌⊎◌, inl, inr, length, take, get_or, slice_get, Some}
use Rattle.fs_types.proofs.Common.{Contains}
use Rattle.fs_types.proofs.Common.{refl, sym, ap, ◌∙◌, arith, cases_eq, Contains-append_right, length-take, get_or-take, slice_get-get_or}
use Rattle.fs_types.proofs.Common.{slice_get_within, get_or_from_slice_get}

-- each of the first elements is as in the whole
pub slice_get-take : {X : Type 0} (count : ℕ) (xs : List X) (i : ℕ) → i < count → slice_get (take count xs) i ≡ slice_get xs i
slice_get-take zero xs i below = absurd (omega arith)
slice_get-take (suc count) [] i below = refl
slice_get-take (suc count) (x ∷ xs) zero below = refl
slice_get-take (suc count) (x ∷ xs) (suc i) below = slice_get-take count xs i (omega arith)

-- a number is in a list, or isn't
pub contains_or_not : (xs : List ℕ) (i : ℕ) → Contains xs i ⊎ (Contains xs i → ⊥)
contains_or_not [] i = inr (λ h. omega (arith, h.1))
contains_or_not (x ∷ xs) i = elim (cases_eq x i) [
  | inl same ↦ inl (0, omega arith, same)
  | inr other ↦ elim (contains_or_not xs i) [
    | inl there ↦ inl (Contains-append_right (x ∷ []) xs i there)
    | inr not ↦ inr (λ h. elim (cases_eq h.0 0) [
      | inl first ↦ other (ap (λ k. get_or (x ∷ xs) k i) (sym first) ∙ h.2)
      | inr later ↦
          let k : h.0 ≡ suc (h.0 - 1) = omega (arith, later) in
          not (h.0 - 1, omega (arith, h.1, later), ap (λ j. get_or (x ∷ xs) j i) (sym k) ∙ h.2)
    ])
  ]
]

-- a place of a list's first elements
pub taken_place : (k : ℕ) (xs : List ℕ) (i : ℕ) → Contains (take k xs) i → (p : ℕ) × (p < k) × (slice_get xs p ≡ Some i)
taken_place k xs i there =
    let p = there.0 in
    let h = there.1 in
    let below : p < k = omega (arith, h, length-take k xs) in
    let inside : p < length xs = omega (arith, h, length-take k xs) in
    (p, below, slice_get-get_or xs p i inside ∙ ap Some (sym (get_or-take k xs p i below) ∙ there.2))

pub place_taken : (k : ℕ) (xs : List ℕ) (p i : ℕ) → p < k → slice_get xs p ≡ Some i → Contains (take k xs) i
place_taken k xs p i below at =
    let inside = slice_get_within xs p i at in
    (p, omega (arith, inside, below, length-take k xs), get_or-take k xs p i below ∙ get_or_from_slice_get xs p i i at)
