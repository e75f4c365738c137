-- What stands at each place of a list after overwriting, cutting and showing it, and how long it is.
use Rattle.fs_types.proofs.Common.{◌≡◌, ℕ, zero, suc, ◌+◌, ◌-◌, ◌<◌, ◌≤◌, max, min, cond, ltb, leb, List, [], ◌∷◌, ◌++◌, length, take, drop}
use Rattle.fs_types.proofs.Common.{replicate, get_or, refl, ap, ◌∙◌, arith, inl, inr, All, ◌&&◌, cases_lt, nat_tests, length-append}
use Rattle.fs_types.proofs.Common.{length-take, length-take-le, length-drop, length-replicate, get_or_append_left, get_or-append_right}
use Rattle.fs_types.proofs.Common.{get_or-take, get_or-drop, get_or_past, All-append, All-take, All-drop, All-replicate}
use Rattle.fs_types.specs.Overwrite.{extended, put, cut, shown}

-- a place of blanks is a blank, also past their end
get_or-blanks : {X : Type 0} (blank : X) (n k : ℕ) → get_or (replicate n blank) k blank ≡ blank
get_or-blanks blank zero k = refl
get_or-blanks blank (suc n) zero = refl
get_or-blanks blank (suc n) (suc k) = get_or-blanks blank n k

get_or-append_blanks : {X : Type 0} (blank : X) (xs : List X) (n k : ℕ) → get_or (xs ++ replicate n blank) k blank ≡ get_or xs k blank
get_or-append_blanks blank [] n k = get_or-blanks blank n k
get_or-append_blanks blank (x ∷ xs) n zero = refl
get_or-append_blanks blank (x ∷ xs) n (suc k) = get_or-append_blanks blank xs n k

-- blanks after a list change no place
pub get_or-extended : {X : Type 0} (blank : X) (xs : List X) (n k : ℕ) → get_or (extended blank xs n) k blank ≡ get_or xs k blank
get_or-extended blank xs n k = get_or-append_blanks blank xs (n - length xs) k

pub length-extended : {X : Type 0} (blank : X) (xs : List X) (n : ℕ) → length (extended blank xs n) ≡ max (length xs) n
length-extended blank xs n = length-append xs (replicate (n - length xs) blank)
    ∙ ap (λ m. length xs + m) (length-replicate (n - length xs) blank) ∙ omega arith

length-front : {X : Type 0} (blank : X) (xs : List X) (off : ℕ) → length (take off (extended blank xs off)) ≡ off
length-front blank xs off = length-take-le off (extended blank xs off) (omega (arith, length-extended blank xs off))

length-two : {X : Type 0} (blank : X) (xs : List X) (off : ℕ) (ys : List X)
    → length (take off (extended blank xs off) ++ ys) ≡ off + length ys
length-two blank xs off ys = length-append (take off (extended blank xs off)) ys ∙ ap (λ n. n + length ys) (length-front blank xs off)

-- putting something makes a list at least as long as its end
pub length-put : {X : Type 0} (blank : X) (xs : List X) (off : ℕ) (ys : List X) → 0 < length ys
    → length (put blank xs off ys) ≡ max (length xs) (off + length ys)
length-put blank xs off [] some = absurd (omega arith)
length-put blank xs off (y ∷ ys) some =
    length-append (take off (extended blank xs off) ++ (y ∷ ys)) (drop (off + length (y ∷ ys)) xs)
    ∙ omega (arith, length-two blank xs off (y ∷ ys), length-drop (off + length (y ∷ ys)) xs)

pub put-nothing : {X : Type 0} (blank : X) (xs : List X) (off : ℕ) → put blank xs off [] ≡ xs
put-nothing blank xs off = refl

-- before what is put a list stays
pub get_or-put_before : {X : Type 0} (blank : X) (xs : List X) (off : ℕ) (ys : List X) (k : ℕ) → k < off
    → get_or (put blank xs off ys) k blank ≡ get_or xs k blank
get_or-put_before blank xs off [] k lt = refl
get_or-put_before blank xs off (y ∷ ys) k lt =
    get_or_append_left (take off (extended blank xs off) ++ (y ∷ ys)) (drop (off + length (y ∷ ys)) xs) blank k
    (omega (arith, length-two blank xs off (y ∷ ys)))
    ∙ get_or_append_left (take off (extended blank xs off)) (y ∷ ys) blank k (omega (arith, length-front blank xs off))
    ∙ get_or-take off (extended blank xs off) k blank lt ∙ get_or-extended blank xs off k

-- where something is put it stands
pub get_or-put_within : {X : Type 0} (blank : X) (xs : List X) (off : ℕ) (ys : List X) (k : ℕ) → off ≤ k → k < off + length ys
    → get_or (put blank xs off ys) k blank ≡ get_or ys (k - off) blank
get_or-put_within blank xs off [] k le lt = absurd (omega arith)
get_or-put_within blank xs off (y ∷ ys) k le lt =
    get_or_append_left (take off (extended blank xs off) ++ (y ∷ ys)) (drop (off + length (y ∷ ys)) xs) blank k
    (omega (arith, length-two blank xs off (y ∷ ys)))
    ∙ get_or-append_right (take off (extended blank xs off)) (y ∷ ys) off k blank (length-front blank xs off) le

-- behind what is put a list stays
pub get_or-put_behind : {X : Type 0} (blank : X) (xs : List X) (off : ℕ) (ys : List X) (k : ℕ) → off + length ys ≤ k
    → get_or (put blank xs off ys) k blank ≡ get_or xs k blank
get_or-put_behind blank xs off [] k le = refl
get_or-put_behind blank xs off (y ∷ ys) k le =
    get_or-append_right (take off (extended blank xs off) ++ (y ∷ ys)) (drop (off + length (y ∷ ys)) xs) (off + length (y ∷ ys)) k blank
    (length-two blank xs off (y ∷ ys)) le
    ∙ get_or-drop (off + length (y ∷ ys)) xs (k - (off + length (y ∷ ys))) blank ∙ ap (λ i. get_or xs i blank) (omega arith)

-- what stands at place k after a put
pub get_or-put : {X : Type 0} (blank : X) (xs : List X) (off : ℕ) (ys : List X) (k : ℕ)
    → get_or (put blank xs off ys) k blank ≡ cond (leb off k && ltb k (off + length ys)) (get_or ys (k - off) blank) (get_or xs k blank)
get_or-put blank xs off ys k =
    elim (cases_lt k off) [
      | inl lt ↦ get_or-put_before blank xs off ys k lt ∙ grind (arith, nat_tests)
      | inr le ↦ elim (cases_lt k (off + length ys)) [
        | inl lt ↦ get_or-put_within blank xs off ys k le lt ∙ grind (arith, nat_tests)
        | inr past ↦ get_or-put_behind blank xs off ys k past ∙ grind (arith, nat_tests)
      ]
    ]

-- what holds of the blank, and at each place of a list, holds at each place after a cut
pub All-cut : {X : Type 0} (P : X → Type 0) (blank : X) (xs : List X) (n : ℕ) → P blank → All P xs → All P (cut blank xs n)
All-cut P blank xs n of_blank of_xs =
    All-take P n (extended blank xs n)
    (All-append P xs (replicate (n - length xs) blank) of_xs (All-replicate P (n - length xs) blank of_blank))

-- what holds of the blank, and at each place of two lists, holds at each place after a put
pub All-put : {X : Type 0} (P : X → Type 0) (blank : X) (xs : List X) (off : ℕ) (ys : List X)
    → P blank → All P xs → All P ys → All P (put blank xs off ys)
All-put P blank xs off [] of_blank of_xs of_ys = of_xs
All-put P blank xs off (y ∷ ys) of_blank of_xs of_ys =
    let front = All-cut P blank xs off of_blank of_xs in
    let rest = All-drop P (off + length (y ∷ ys)) xs of_xs in
    All-append P (take off (extended blank xs off) ++ (y ∷ ys)) (drop (off + length (y ∷ ys)) xs)
    (All-append P (take off (extended blank xs off)) (y ∷ ys) front of_ys) rest

-- a list and an end that are within a bound are so after a put
pub length-put-le : {X : Type 0} (blank : X) (xs : List X) (off : ℕ) (ys : List X) (n : ℕ)
    → length xs ≤ n → off + length ys ≤ n → length (put blank xs off ys) ≤ n
length-put-le blank xs off [] n list_within end_within = list_within
length-put-le blank xs off (y ∷ ys) n list_within end_within = omega (arith, length-put blank xs off (y ∷ ys) (omega arith))

pub length-cut : {X : Type 0} (blank : X) (xs : List X) (n : ℕ) → length (cut blank xs n) ≡ n
length-cut blank xs n = length-front blank xs n

-- what stands at place k after a cut
pub get_or-cut : {X : Type 0} (blank : X) (xs : List X) (n k : ℕ) → k < n → get_or (cut blank xs n) k blank ≡ get_or xs k blank
get_or-cut blank xs n k lt = get_or-take n (extended blank xs n) k blank lt ∙ get_or-extended blank xs n k

-- and at any place, also past the end of the cut
pub get_or-cut_anywhere : {X : Type 0} (blank : X) (xs : List X) (n k : ℕ)
    → get_or (cut blank xs n) k blank ≡ cond (ltb k n) (get_or xs k blank) blank
get_or-cut_anywhere blank xs n k =
    elim (cases_lt k n) [
      | inl lt ↦ get_or-cut blank xs n k lt ∙ grind (arith, nat_tests)
      | inr past ↦ get_or_past (cut blank xs n) k blank (omega (arith, length-cut blank xs n)) ∙ grind (arith, nat_tests)
    ]

pub length-shown : {X : Type 0} (xs : List X) (off len : ℕ) → length (shown xs off len) ≡ min len (length xs - off)
length-shown xs off len = length-take len (drop off xs) ∙ ap (min len) (length-drop off xs)

-- what stands at place k of what is shown
pub get_or-shown : {X : Type 0} (xs : List X) (off len k : ℕ) (d : X) → k < len → get_or (shown xs off len) k d ≡ get_or xs (off + k) d
get_or-shown xs off len k d lt = get_or-take len (drop off xs) k d lt ∙ get_or-drop off xs k d
