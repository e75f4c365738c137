-- Bytes that are kept by blocks, and what stands at each place once some are put over them.
use Rattle.std.proofs.Common.{◌≡◌, ℕ, zero, suc, ◌+◌, ◌-◌, ◌/◌, ◌%◌, ◌<◌, ◌≤◌, max, nat_le, Bool, true, false, cond, None, refl, sym, ap, ◌∙◌, inl, inr, arith}
use Rattle.std.proofs.Common.{List, [], ◌∷◌, ◌++◌, length, take, drop, replicate, filter, get_or, All, nat_cmp}
use Rattle.std.specs.Map.{lookup}
use Rattle.std.specs.BTreeMap.{is_at}
use Rattle.std.specs.Cmp.{unsigned_tied}
use Rattle.std.proofs.lemmas.Bool.{cases_lt, eqb-true}
use Rattle.std.proofs.lemmas.Bool.Decides.{nat_tests}
use Rattle.std.proofs.lemmas.List.{get_or-replicate, get_or_past, length-replicate, length-take-le}
use Rattle.std.proofs.lemmas.List.{get_or_append_left, get_or-append_right, get_or-take, get_or-drop}
use Rattle.std.proofs.lemmas.List.FromFn.{length-map-range_with_len, get_or-map-range_with_len, fill_by_all}
use Rattle.std.proofs.lemmas.Map.Entries.{lookup-filter-keys}
use borrow.Rule.Slice.PartMut.{put_mid}
use Rattle.fs_types.specs.Overwrite.{put, cut}
use Rattle.fs_types.proofs.CallerLemmas.{length-put, get_or-put, length-cut, get_or-cut}
use Rattle.fs_plain.specs.declared.limits.TheConstants.{BLOCK}
use Rattle.fs_plain.specs.Blocks.{is_blank, byte_in, byte_at, byte_put, first_bytes, AreZerosFrom, PutsBytes, KeepsBytesBefore}

-- zeros are zeros, also past their end
pub zeros : (n k : ℕ) → get_or {A = ℕ} (replicate n 0) k 0 ≡ 0
zeros n k = elim (cases_lt k n) [
  | inl lt ↦ get_or-replicate n k 0 0 lt
  | inr le ↦ get_or_past (replicate n 0) k 0 (omega (arith, length-replicate {A = ℕ} n 0))
]

-- a blank block has no other byte
pub blank : (bytes : List ℕ) (k : ℕ) → is_blank bytes ≡ true → get_or bytes k 0 ≡ 0
blank [] k h = refl
blank (b ∷ bytes) zero h = grind (arith, nat_tests)
blank (b ∷ bytes) (suc k) h = blank bytes k (grind (arith, nat_tests))

-- a part of a list that is written over
pub put_mid-byte : (xs ys : List ℕ) (at n k : ℕ) → length ys ≡ n → at + n ≤ length xs
    → get_or (put_mid at n xs ys) k 0 ≡ byte_put at ys k (get_or xs k 0)
put_mid-byte xs ys at n k is within =
    let front = length-take-le at xs (omega arith) in
    let rest = drop n (drop at xs) in
    elim (cases_lt k at) [
      | inl lt ↦ get_or_append_left (take at xs) (ys ++ rest) 0 k (omega arith) ∙ get_or-take at xs k 0 lt ∙ grind (arith, nat_tests)
      | inr le ↦ get_or-append_right (take at xs) (ys ++ rest) at k 0 front le ∙ elim (cases_lt k (at + n)) [
        | inl lt ↦ get_or_append_left ys rest 0 (k - at) (omega arith) ∙ grind (arith, nat_tests)
        | inr past ↦
            let place : at + (n + (k - at - n)) ≡ k = omega arith in
            get_or-append_right ys rest n (k - at) 0 is (omega arith)
            ∙ get_or-drop n (drop at xs) (k - at - n) 0 ∙ get_or-drop at xs (n + (k - at - n)) 0
            ∙ ap (λ i. get_or xs i 0) place ∙ grind (arith, nat_tests)
      ]
    ]

-- where the blocks after one are gone, their bytes are zeros
pub byte_at-filter : (m : List (ℕ × List ℕ)) (last k : ℕ)
    → byte_at (filter (λ e. nat_le e.0 last) m) k ≡ cond (nat_le (k / BLOCK) last) (byte_at m k) 0
byte_at-filter m last k =
    ap (λ b. byte_in b (k % BLOCK))
    (lookup-filter-keys (is_at (nat_cmp (k / BLOCK))) (λ j. nat_le j last) (nat_le (k / BLOCK) last)
    (λ j here. ap (λ i. nat_le i last) (sym (eqb-true (k / BLOCK) j (sym (unsigned_tied (k / BLOCK) j) ∙ here)))) m)
    ∙ by (nat_le (k / BLOCK) last)
  where
    by : (b : Bool) → byte_in (cond b (lookup (is_at (nat_cmp (k / BLOCK))) m) None) (k % BLOCK) ≡ cond b (byte_at m k) 0
    by true = refl
    by false = refl

-- zeros put from place n to the end of its block, and no block after it: what came before place n is left
pub keeps_before : (n : ℕ) (blanks : List ℕ) (old put left : ℕ → ℕ) → length blanks ≡ BLOCK - n % BLOCK
    → All (λ b. b ≡ 0) blanks → PutsBytes n blanks old put
    → ((k : ℕ) → left k ≡ cond (nat_le (k / BLOCK) (n / BLOCK)) (put k) 0) → KeepsBytesBefore n old left
keeps_before n blanks old put left long blank puts leaves k =
    let of_put = puts k in
    let of_left = leaves k in
    let of_blanks = blank (k - n) 0 in
    elim (cases_lt k n) [
      | inl lt ↦ let within : k / BLOCK ≤ n / BLOCK = omega arith in grind (arith, nat_tests)
      | inr le ↦ elim (cases_lt (n / BLOCK) (k / BLOCK)) [
        | inl after ↦ grind (arith, nat_tests)
        | inr here ↦ let within : k < n + length blanks = omega arith in grind (arith, nat_tests)
      ]
    ]

module _ (m : List (ℕ × List ℕ)) (n : ℕ) where
  pub length-first_bytes : length (first_bytes m n) ≡ n
  length-first_bytes = length-map-range_with_len (byte_at m) 0 n

  pub first_bytes-at : (k : ℕ) → k < n → get_or (first_bytes m n) k 0 ≡ byte_at m k
  first_bytes-at k lt = get_or-map-range_with_len (byte_at m) 0 n k k 0 lt (omega arith)

  -- also past their end, where zeros follow
  first_bytes-everywhere : (k : ℕ) → AreZerosFrom m n → get_or (first_bytes m n) k 0 ≡ byte_at m k
  first_bytes-everywhere k rest = elim (cases_lt k n) [
    | inl lt ↦ first_bytes-at k lt
    | inr le ↦ get_or_past (first_bytes m n) k 0 (omega (arith, length-first_bytes)) ∙ sym (rest k le)
  ]

  -- blocks that have these bytes put over them are those of the list that has them put over it
  pub first_bytes-put : (m' : List (ℕ × List ℕ)) (at : ℕ) (bytes : List ℕ) → 0 < length bytes → AreZerosFrom m n
      → PutsBytes at bytes (byte_at m) (byte_at m')
      → first_bytes m' (max n (at + length bytes)) ≡ put 0 (first_bytes m n) at bytes
  first_bytes-put m' at bytes some rest put_there =
      let xs = first_bytes m n in
      let len = length-put 0 xs at bytes some ∙ ap (λ x. max x (at + length bytes)) length-first_bytes in
      sym (fill_by_all (byte_at m') (put 0 xs at bytes) (max n (at + length bytes)) 0 len (λ k below.
      get_or-put 0 xs at bytes k
      ∙ ap (λ (b : ℕ). byte_put at bytes k b) (first_bytes-everywhere k rest)
      ∙ sym (put_there k)))

  -- blocks that keep what they had before place k, and zeros from there on, are those of the list that is cut there
  pub first_bytes-cut : (m' : List (ℕ × List ℕ)) (k : ℕ) → AreZerosFrom m n → KeepsBytesBefore k (byte_at m) (byte_at m')
      → first_bytes m' k ≡ cut 0 (first_bytes m n) k
  first_bytes-cut m' k rest keeps =
      let xs = first_bytes m n in
      sym (fill_by_all (byte_at m') (cut 0 xs k) k 0 (length-cut 0 xs k) (λ i below.
      get_or-cut 0 xs k i below ∙ first_bytes-everywhere i rest ∙ sym (keeps i ∙ grind (arith, nat_tests))))

  -- where there are no more bytes than that, the same blocks do
  pub first_bytes-extended : (k : ℕ) → n ≤ k → AreZerosFrom m n → first_bytes m k ≡ cut 0 (first_bytes m n) k
  first_bytes-extended k le rest = first_bytes-cut m k rest (λ i. elim (cases_lt i k) [
    | inl lt ↦ grind (arith, nat_tests)
    | inr past ↦ rest i (omega arith) ∙ grind (arith, nat_tests)
  ])

-- what a function's attribute cites: of a part that is written over, of reading a list, and of putting bytes over it
pub ruleset part_laws = (put_mid-byte)

pub ruleset list_laws = (length-first_bytes, first_bytes-at)

pub ruleset put_laws = (first_bytes-put)

pub ruleset cut_laws = (first_bytes-cut, first_bytes-extended)
