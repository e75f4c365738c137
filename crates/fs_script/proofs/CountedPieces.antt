-- How many pieces a list has that holds each once: no more than the lines that they are of have.
use Rattle.fs_types.proofs.Common.{◌≡◌, ℕ, ◌≤◌, Bool, true, false, ◌&&◌, nat_lt, List, [], ◌∷◌, map, filter, flat_map, length, cond}
use Rattle.fs_types.proofs.Common.{range_with_len, list_any, sum_by, sum_by-cons, refl, sym, ap, ◌∙◌, arith, cond_both, cond-false}
use Rattle.fs_types.proofs.Common.{true≢false}
use Rattle.fs_types.proofs.Common.{filter-append, length-append, count_by-le-length, length-map-range_with_len, false_from_ne_true}
use Rattle.fs_types.proofs.Common.{IsDistinct}
use Rattle.fs_types.proofs.Common.{and_right, ◌+◌}
use Rattle.std.proofs.Math.Bool.{and-true}
use Rattle.std.proofs.lemmas.List.Sums.{length-filter}
use Rattle.std.proofs.lemmas.Map.Made.{length-le_from_is_member}
use Rattle.std.proofs.lemmas.Map.Views.{any-filter_same}
use Rattle.fs_types.specs.Fragments.{piece_eq}
use Rattle.fs_types.specs.Pieces.{Piece}
use Rattle.fs_script.specs.Accepted.{need, was_accepted, accepted_pieces, accepted_before}
use Rattle.fs_script.specs.Job.{Job, program}
use Rattle.fs_script.specs.Live.{pieces_of_line, pieces_by}
use Rattle.fs_script.specs.Pending.{Answering}
use Rattle.fs_script.proofs.PiecesOnce.{piece_at, same_piece, piece_eq_equiv}

-- ---- pieces that pass a test

-- a test that no part of a line passes keeps none of them
filter-none : (test : Piece → Bool) (n : ℕ) (ps : List ℕ) → ((p : ℕ) → test (piece_at n p) ≡ false)
    → length (filter test (map (piece_at n) ps)) ≡ 0
filter-none test n [] none = refl
filter-none test n (p ∷ ps) none =
    let rest = filter test (map (piece_at n) ps) in
    ap length (cond-false (test (piece_at n p)) (piece_at n p ∷ rest) rest (none p)) ∙ filter-none test n ps none

-- where each that passes is of a line that counts, they are no more than the pieces of those lines
module _ (s : Job) (counts : ℕ → Bool) (test : Piece → Bool) (of_line : (x : Piece) → test x ≡ true → counts x.line ≡ true) where
  abbrev pieces : ℕ → ℕ
  pieces n = cond (counts n) (need s n) 0

  of_line-le : (n : ℕ) → length (filter test (pieces_of_line s n)) ≤ pieces n
  of_line-le n = cond_both (counts n) (need s n) 0 (λ m. length (filter test (pieces_of_line s n)) ≤ m)
      (λ _. omega (
        arith,
        length-filter test (pieces_of_line s n),
        count_by-le-length test (pieces_of_line s n),
        length-map-range_with_len (piece_at n) 0 (need s n),
      ))
      (λ other. omega (
        arith,
        filter-none test n (range_with_len 0 (need s n)) (λ p.
            false_from_ne_true (test (piece_at n p)) (λ h. true≢false (sym (of_line (piece_at n p) h) ∙ other))),
      ))

  pub passing-le : (ns : List ℕ) → length (filter test (flat_map (pieces_of_line s) ns)) ≤ sum_by pieces ns
  passing-le [] = omega arith
  passing-le (n ∷ ns) =
      let mine = pieces_of_line s n in
      let others = flat_map (pieces_of_line s) ns in
      let both = ap length (filter-append test mine others) ∙ length-append (filter test mine) (filter test others) in
      omega (arith, both, sum_by-cons pieces n ns, of_line-le n, passing-le ns)

-- ---- pieces of accepted lines before a line

module _ (s : Job) (A : Answering) (n : ℕ) where
  -- a line before this one was accepted
  abbrev before : ℕ → Bool
  before k = was_accepted (A k) && nat_lt k n

  -- so their pieces are counted in the lines before this one
  sum-before : (ks : List ℕ) → sum_by (λ k. cond (before k) (need s k) 0) ks ≡ accepted_pieces s A (filter (λ k. nat_lt k n) ks)
  sum-before [] = refl
  sum-before (k ∷ ks) =
      let f = λ (j : ℕ). cond (before j) (need s j) 0 in
      let g = λ (j : ℕ). cond (was_accepted (A j)) (need s j) 0 in
      let rest = filter (λ j. nat_lt j n) ks in
      let here = λ (b : Bool). cond (was_accepted (A k) && b) (need s k) 0 in
      cond_both (nat_lt k n) (k ∷ rest) rest (λ js. sum_by f (k ∷ ks) ≡ sum_by g js)
      (λ early.
      let same : f k ≡ g k = ap here early ∙ ap (λ b. cond b (need s k) 0) (and-true (was_accepted (A k))) in
      sum_by-cons f k ks ∙ ap (λ m. m + sum_by f ks) same ∙ ap (λ m. g k + m) (sum-before ks) ∙ sym (sum_by-cons g k rest))
      (λ late.
      let none : f k ≡ 0 = ap (λ b. cond b (need s k) 0) (and_right (was_accepted (A k)) (nat_lt k n) late) in
      omega (arith, sum_by-cons f k ks, none, sum-before ks))

  -- distinct pieces of a client's accepted lines before this one
  pub distinct-le-accepted : (r : ℕ) (xs : List Piece) → IsDistinct piece_eq xs
      → ((x : Piece) → list_any (piece_eq x) xs ≡ true → list_any (piece_eq x) (pieces_by s r) ≡ true)
      → ((x : Piece) → list_any (piece_eq x) xs ≡ true → before x.line ≡ true) → length xs ≤ accepted_before s A r n
  distinct-le-accepted r xs once own early =
      let test = λ (x : Piece). before x.line in
      let among : (x : Piece) → list_any (piece_eq x) xs ≡ true → list_any (piece_eq x) (filter test (pieces_by s r)) ≡ true = λ x h.
      any-filter_same (piece_eq x) test true (λ y same. ap test (sym (same_piece x y same)) ∙ early x h) (pieces_by s r) ∙ own x h in
      omega (
        arith,
        length-le_from_is_member piece_eq_equiv xs (filter test (pieces_by s r)) once among,
        passing-le s before test (λ x h. h) (program s r),
        sum-before (program s r),
      )
