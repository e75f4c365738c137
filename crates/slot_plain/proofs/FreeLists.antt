-- Free places of a list of flags: after a place is taken, put back or added.
use Rattle.std.proofs.Common.{◌≡◌, ℕ, suc, zero, ◌+◌, ◌≤◌, ◌<◌, Bool, true, false, List, [], ◌∷◌, ◌++◌, Some, length, set, slice_get}
use Rattle.std.proofs.Common.{get_or, arith, ◌∙◌, ap, refl}
use Rattle.std.proofs.lemmas.Bool.{true≢false}
use Rattle.slot_plain.specs.FreePlaces.{free_from}

-- the lowest free place is the first, and the others are those that are free once it is taken
pub free_from-lowest : (n : ℕ) (flags : List Bool) (i : ℕ) → slice_get flags i ≡ Some true
    → ((k : ℕ) → k < i → get_or flags k false ≡ false) → free_from n flags ≡ (n + i) ∷ free_from n (set flags i false)
free_from-lowest n [] i is below = cc
free_from-lowest n (true ∷ rest) zero is below = ap (λ m. m ∷ free_from (suc n) rest) (omega arith)
free_from-lowest n (true ∷ rest) (suc i) is below = absurd (true≢false (below 0 (omega arith)))
free_from-lowest n (false ∷ rest) zero is below = cc
free_from-lowest n (false ∷ rest) (suc i) is below =
    free_from-lowest (suc n) rest i is (λ k lt. below (suc k) (omega arith))
    ∙ ap (λ m. m ∷ free_from (suc n) (set rest i false)) (omega arith)

-- one more place is free once one is put back
pub length-free_from-set : (n : ℕ) (flags : List Bool) (i : ℕ) → slice_get flags i ≡ Some false
    → length (free_from n (set flags i true)) ≡ length (free_from n flags) + 1
length-free_from-set n [] i is = cc
length-free_from-set n (true ∷ rest) zero is = cc
length-free_from-set n (true ∷ rest) (suc i) is = let h = length-free_from-set (suc n) rest i is in omega (arith, h)
length-free_from-set n (false ∷ rest) zero is = omega arith
length-free_from-set n (false ∷ rest) (suc i) is = length-free_from-set (suc n) rest i is

-- what is free of lists one after another
pub free_from-append : (n m : ℕ) (xs ys : List Bool) → n + length xs ≡ m → free_from n (xs ++ ys) ≡ free_from n xs ++ free_from m ys
free_from-append n m [] ys is = ap (λ k. free_from k ys) (omega arith)
free_from-append n m (true ∷ xs) ys is = ap (λ rest. n ∷ rest) (free_from-append (suc n) m xs ys (omega arith))
free_from-append n m (false ∷ xs) ys is = free_from-append (suc n) m xs ys (omega arith)

-- where some place is free, one is
pub free_place : (n : ℕ) (flags : List Bool) → 0 < length (free_from n flags) → (i : ℕ) × (slice_get flags i ≡ Some true)
free_place n [] some = absurd (omega arith)
free_place n (true ∷ rest) some = (0, refl)
free_place n (false ∷ rest) some = let found = free_place (suc n) rest some in (suc found.0, found.1)

-- no more places are free than there are
pub length-free_from-le : (n : ℕ) (flags : List Bool) → length (free_from n flags) ≤ length flags
length-free_from-le n [] = omega arith
length-free_from-le n (true ∷ rest) = let h = length-free_from-le (suc n) rest in omega (arith, h)
length-free_from-le n (false ∷ rest) = let h = length-free_from-le (suc n) rest in omega (arith, h)
