-- Texts that are cut at a byte: each part is of bytes above it.
use Rattle.fs_types.proofs.Common.{common_steps, ◌≡◌, ℕ, ◌+◌, ◌^◌, ◌/◌, ◌%◌, ◌<◌, ◌≤◌, ◌==◌, true, false, ◌&&◌, List, [], ◌∷◌, ◌++◌, Some}
use Rattle.fs_types.proofs.Common.{slice_index, refl, ◌∙◌, arith, All, nat_lt, list_all, slice_split, decimal, and_from, eq-eqb, nat_tests}
use Rattle.fs_types.proofs.Common.{decimal_by_steps, All-weaker, list_all-append, AllPass-from_list_all, list_all-from_AllPass}
use Rattle.fs_types.proofs.Common.{slice_split_at, slice_split_none}
use Rattle.hex.specs.Hex.{encode_lower, encode_with, hex_digit_value, lower_digits}
use Rattle.fs_script.specs.Vocabulary.{IsVisible, IsPath, AreBytes}
use Rattle.hex.proofs.HexLemmas.{IsDigits-lower_digits}
use Rattle.fs_types.proofs.CallerLemmas.{path_is_visible}

-- each byte is above c
abbrev pub AreAbove : ℕ → List ℕ → Type 0
AreAbove c xs = list_all (nat_lt c) xs ≡ true

-- the parts of a text between its bytes c
abbrev pub cut_at : ℕ → List ℕ → List (List ℕ)
cut_at c xs = slice_split (λ b. b == c) xs

-- ---- the parts

-- a byte above another one is not that one
not_at : (c b : ℕ) → nat_lt c b ≡ true → (b == c) ≡ false
not_at c b h = grind (arith, nat_tests)

-- so a text above a byte has none of it
none_at : (c : ℕ) (xs : List ℕ) → AreAbove c xs → All (λ b. (b == c) ≡ false) xs
none_at c xs h = All-weaker (λ b. nat_lt c b ≡ true) (λ b. (b == c) ≡ false) (not_at c) xs (AllPass-from_list_all (nat_lt c) xs h)

-- the first part ends at the first byte c
pub cut_at-first : (c : ℕ) (xs ys : List ℕ) → AreAbove c xs → cut_at c (xs ++ c ∷ ys) ≡ xs ∷ cut_at c ys
cut_at-first c xs ys h = slice_split_at (λ b. b == c) xs c ys (none_at c xs h) (eq-eqb c c refl)

-- with no byte c there is one part
pub cut_at-none : (c : ℕ) (xs : List ℕ) → AreAbove c xs → cut_at c xs ≡ xs ∷ []
cut_at-none c xs h = slice_split_none (λ b. b == c) xs (none_at c xs h)

-- ---- which texts are above a byte

-- two texts above a byte, joined
pub AreAbove-append : (c : ℕ) (xs ys : List ℕ) → AreAbove c xs → AreAbove c ys → AreAbove c (xs ++ ys)
AreAbove-append c xs ys h k = list_all-append (nat_lt c) xs ys ∙ and_from (list_all (nat_lt c) xs) (list_all (nat_lt c) ys) h k

-- a byte above another one is above each lower one
above_lower : (c d b : ℕ) → c ≤ d → nat_lt d b ≡ true → nat_lt c b ≡ true
above_lower c d b le h = grind (arith, nat_tests)

-- and so is a text
pub AreAbove-lower : (c d : ℕ) (xs : List ℕ) → c ≤ d → AreAbove d xs → AreAbove c xs
AreAbove-lower c d xs le h = grind (arith, common_steps, list_all-from_AllPass, All-weaker, above_lower, AllPass-from_list_all)

-- a digit is above the space
digit_above : (d : ℕ) → nat_lt 32 (48 + d) ≡ true
digit_above d = grind (arith, nat_tests)

-- and so is a text of one digit
one_digit_above : (d : ℕ) → AreAbove 32 ((48 + d) ∷ [])
one_digit_above d = and_from (nat_lt 32 (48 + d)) true (digit_above d) refl

-- the digits of a number are above the space
pub AreAbove-decimal : (n : ℕ) → n < 2 ^ 64 → AreAbove 32 (decimal n)
AreAbove-decimal n small =
    decimal_by_steps (λ m ds. AreAbove 32 ds) (λ m low. one_digit_above m)
    (λ m ds high above. AreAbove-append 32 ds ((48 + m % 10) ∷ []) above (one_digit_above (m % 10))) n small

-- what reads as a hex digit is above the space
hex_digit_above : (c v : ℕ) → hex_digit_value c ≡ Some v → nat_lt 32 c ≡ true
hex_digit_above c v h = grind (arith, nat_tests)

-- and so is each place of the table of them
lower_digit_above : (d : ℕ) → d < 16 → nat_lt 32 (slice_index lower_digits d) ≡ true
lower_digit_above d h = hex_digit_above (slice_index lower_digits d) d (IsDigits-lower_digits d h)

-- and so is hex text
pub AreAbove-encode_lower : (bytes : List ℕ) → AreBytes bytes → AreAbove 32 (encode_lower bytes)
unfolding encode_with
AreAbove-encode_lower [] h = refl
AreAbove-encode_lower (b ∷ bytes) h =
    let high = slice_index lower_digits (b / 16) in
    let low = slice_index lower_digits (b % 16) in
    let small : b < 256 = h.0 in
    and_from (nat_lt 32 high) (nat_lt 32 low && list_all (nat_lt 32) (encode_lower bytes)) (lower_digit_above (b / 16) (omega arith))
    (and_from (nat_lt 32 low) (list_all (nat_lt 32) (encode_lower bytes)) (lower_digit_above (b % 16) (omega arith))
    (AreAbove-encode_lower bytes h.1))

-- a visible byte is above the space
visible_above : (b : ℕ) → IsVisible b → nat_lt 32 b ≡ true
visible_above b h = grind (arith, nat_tests)

-- and a path
pub AreAbove-path : (path : List ℕ) → IsPath path → AreAbove 32 path
AreAbove-path path h = list_all-from_AllPass (nat_lt 32) path
    (All-weaker IsVisible (λ b. nat_lt 32 b ≡ true) visible_above path (path_is_visible path h))
