-- Lists of pieces: each piece once, and which pieces are in them.
use Rattle.fs_types.proofs.Common.{◌≡◌, ℕ, zero, suc, ◌+◌, ◌<◌, ◌≤◌, Bool, true, false, not, ◌&&◌, ◌||◌, ◌==◌, List, [], ◌∷◌, ◌++◌, map}
use Rattle.fs_types.proofs.Common.{filter, filter_map, flat_map, range_with_len, list_any, slice_get, Option, Some, None, option_map}
use Rattle.fs_types.proofs.Common.{refl, sym, ap, ◌∙◌, inl, inr, arith, AllByRecursion, IsDistinct, eqb-true, ne_eqb, and_parts}
use Rattle.fs_types.proofs.Common.{cases_Bool, cond_both, All-from_recursion, recursion_from_All, All-filter, filter_passes}
use Rattle.fs_types.proofs.Common.{length, slice_get_within, get_or_from_slice_get, length-map-range_with_len, get_or-map-range_with_len}
use Rattle.std.specs.Cmp.{IsEquivalence}
use Rattle.std.proofs.lemmas.Bool.{not-true, not_from_false}
use Rattle.std.proofs.lemmas.Cmp.{nat_eq_equiv}
use Rattle.std.proofs.lemmas.List.Folds.{list_any-append, list_any_at}
use Rattle.std.proofs.lemmas.Map.Keys.{IsDistinct-head, IsDistinct-tail, IsDistinct-cons, IsDistinct-from_apart}
use Rattle.std.proofs.lemmas.Map.Views.{any-filter_same}
use Rattle.fs_types.specs.Fragments.{piece_eq}
use Rattle.fs_types.specs.Marks.{Mark}
use Rattle.fs_types.specs.Pieces.{Piece}
use Rattle.fs_script.specs.Job.{Job, op_at, is_of_rank, program}
use Rattle.fs_script.specs.Accepted.{need}
use Rattle.fs_script.specs.Live.{each_once, piece_of, bears, pieces_borne, pieces_of_line, pieces_by}
use Rattle.fs_script.proofs.PlainLists.{AllByRecursion-weaker}

-- ---- two names of pieces

pub same_piece : (x y : Piece) → piece_eq x y ≡ true → x ≡ y
same_piece x y h =
    let parts = and_parts (x.line == y.line) (x.part == y.part) h in
    λ i. record { line = eqb-true x.line y.line parts.0 i; part = eqb-true x.part y.part parts.1 i }

pub piece_eq_equiv : IsEquivalence piece_eq
piece_eq_equiv = record {
  refl = λ x. ap (λ b. b && (x.part == x.part)) (nat_eq_equiv.refl x.line) ∙ nat_eq_equiv.refl x.part;
  symm = λ x y i. nat_eq_equiv.symm x.line y.line i && nat_eq_equiv.symm x.part y.part i;
  congr = λ x y z h. ap (λ w. piece_eq w z) (same_piece x y h);
}

-- ---- lists in which each element is once

module _ {K : Type 0} (eq : K → K → Bool) where
  IsDistinct-nil : IsDistinct eq []
  IsDistinct-nil = IsDistinct-from_apart eq [] (λ i j d before below. absurd (omega arith))

  AllByRecursion-filter : (P : K → Type 0) (test : K → Bool) (xs : List K) → AllByRecursion P xs → AllByRecursion P (filter test xs)
  AllByRecursion-filter P test xs all = recursion_from_All P (filter test xs) (All-filter test P xs (All-from_recursion P xs all))

  pub IsDistinct-filter : (test : K → Bool) (xs : List K) → IsDistinct eq xs → IsDistinct eq (filter test xs)
  IsDistinct-filter test [] once = IsDistinct-nil
  IsDistinct-filter test (x ∷ xs) once =
      let rest = IsDistinct-filter test xs (IsDistinct-tail eq x xs once) in
      cond_both (test x) (x ∷ filter test xs) (filter test xs) (IsDistinct eq)
      (λ _. IsDistinct-cons eq x (filter test xs)
      (AllByRecursion-filter (λ y. eq x y ≡ false) test xs (IsDistinct-head eq x xs once)) rest)
      (λ _. rest)

  AllByRecursion-append : (P : K → Type 0) (xs ys : List K) → AllByRecursion P xs → AllByRecursion P ys → AllByRecursion P (xs ++ ys)
  AllByRecursion-append P [] ys of_xs of_ys = of_ys
  AllByRecursion-append P (x ∷ xs) ys of_xs of_ys = (of_xs.0, AllByRecursion-append P xs ys of_xs.1 of_ys)

  -- of two lists that have no element in common
  IsDistinct-append : (xs ys : List K) → IsDistinct eq xs → IsDistinct eq ys
      → AllByRecursion (λ x. AllByRecursion (λ y. eq x y ≡ false) ys) xs → IsDistinct eq (xs ++ ys)
  IsDistinct-append [] ys of_xs of_ys apart = of_ys
  IsDistinct-append (x ∷ xs) ys of_xs of_ys apart = IsDistinct-cons eq x (xs ++ ys)
      (AllByRecursion-append (λ y. eq x y ≡ false) xs ys (IsDistinct-head eq x xs of_xs) apart.0)
      (IsDistinct-append xs ys (IsDistinct-tail eq x xs of_xs) of_ys apart.1)

  pub IsDistinct-each_once : (xs : List K) → IsDistinct eq (each_once eq xs)
  IsDistinct-each_once [] = IsDistinct-nil
  IsDistinct-each_once (x ∷ xs) =
      let test = λ (y : K). not (eq x y) in
      let rest = each_once eq xs in
      let passing = recursion_from_All (λ y. test y ≡ true) (filter test rest) (filter_passes test rest) in
      IsDistinct-cons eq x (filter test rest)
      (AllByRecursion-weaker (λ y. test y ≡ true) (λ y. eq x y ≡ false) (filter test rest) (λ y h. not-true (eq x y) h) passing)
      (IsDistinct-filter test rest (IsDistinct-each_once xs))

  -- what is in the list stays in it
  pub list_any-each_once : IsEquivalence eq → (x : K) (xs : List K) → list_any (eq x) (each_once eq xs) ≡ list_any (eq x) xs
  list_any-each_once laws x [] = refl
  list_any-each_once laws x (y ∷ ys) =
      let rest = each_once eq ys in
      let test = λ (z : K). not (eq y z) in
      elim (cases_Bool (eq x y)) [
        | inl same ↦ ap (λ b. b || list_any (eq x) (filter test rest)) same ∙ sym (ap (λ b. b || list_any (eq x) ys) same)
        | inr differ ↦
            let kept = any-filter_same (eq x) test true (λ z is. not_from_false (eq y z)
            (laws.symm y z ∙ sym (laws.congr x z y is) ∙ differ)) rest in
            ap (λ b. eq x y || b) (kept ∙ list_any-each_once laws x ys)
      ]

pub list_any-flat_map : {X Y : Type 0} (test : Y → Bool) (f : X → List Y) (xs : List X)
    → list_any test (flat_map f xs) ≡ list_any (λ x. list_any test (f x)) xs
list_any-flat_map test f [] = refl
list_any-flat_map test f (x ∷ xs) =
    list_any-append test (f x) (flat_map f xs) ∙ ap (λ b. list_any test (f x) || b) (list_any-flat_map test f xs)

-- ---- the pieces that marks are of

list_any-marks : (x : Piece) (marks : List (Option Mark)) → list_any (piece_eq x) (filter_map (option_map piece_of) marks) ≡ bears marks x
list_any-marks x [] = refl
list_any-marks x (None ∷ marks) = list_any-marks x marks
list_any-marks x (Some m ∷ marks) = λ i. piece_eq_equiv.symm x (piece_of m) i || list_any-marks x marks i

-- a piece is among them exactly where one of the marks is of it
pub list_any-pieces_borne : (x : Piece) (marks : List (Option Mark)) → list_any (piece_eq x) (pieces_borne marks) ≡ bears marks x
list_any-pieces_borne x marks =
    list_any-each_once piece_eq piece_eq_equiv x (filter_map (option_map piece_of) marks) ∙ list_any-marks x marks

-- and each is once
pub IsDistinct-pieces_borne : (marks : List (Option Mark)) → IsDistinct piece_eq (pieces_borne marks)
IsDistinct-pieces_borne marks = IsDistinct-each_once piece_eq (filter_map (option_map piece_of) marks)

-- ---- the pieces that a client writes

abbrev pub piece_at : ℕ → ℕ → Piece
piece_at n p = record { line = n; part = p }

-- parts of one line from a on differ, and so do those of lines from a on
part≢part : (n p q : ℕ) → p < q → piece_eq (piece_at n p) (piece_at n q) ≡ false
part≢part n p q less = ap (λ b. (n == n) && b) (ne_eqb p q (λ e. omega (arith, e))) ∙ ap (λ b. b && false) (nat_eq_equiv.refl n)

module _ (n : ℕ) where
  later_parts : (p a k : ℕ) → p < a → AllByRecursion (λ y. piece_eq (piece_at n p) y ≡ false) (map (piece_at n) (range_with_len a k))
  later_parts p a zero less = tt
  later_parts p a (suc k) less = (part≢part n p a less, later_parts p (a + 1) k (omega arith))

  IsDistinct-parts : (a k : ℕ) → IsDistinct piece_eq (map (piece_at n) (range_with_len a k))
  IsDistinct-parts a zero = IsDistinct-nil piece_eq
  IsDistinct-parts a (suc k) = IsDistinct-cons piece_eq (piece_at n a) (map (piece_at n) (range_with_len (a + 1) k))
      (later_parts a (a + 1) k (omega arith)) (IsDistinct-parts (a + 1) k)

  lines_of_parts : (ps : List ℕ) → AllByRecursion (λ x. x.line ≡ n) (map (piece_at n) ps)
  lines_of_parts [] = tt
  lines_of_parts (p ∷ ps) = (refl, lines_of_parts ps)

line≢line : (x y : Piece) → x.line < y.line → piece_eq x y ≡ false
line≢line x y less = ap (λ b. b && (x.part == y.part)) (ne_eqb x.line y.line (λ e. omega (arith, e)))

module _ (s : Job) (P : ℕ → Bool) where
  abbrev lines_from : ℕ → ℕ → List Piece
  lines_from a len = flat_map (pieces_of_line s) (filter P (range_with_len a len))

  -- the pieces of lines from a on are of lines from a on, and each is once
  lines_apart : (a len : ℕ) → AllByRecursion (λ x. a ≤ x.line) (lines_from a len) × IsDistinct piece_eq (lines_from a len)
  lines_apart a zero = (tt, IsDistinct-nil piece_eq)
  lines_apart a (suc len) =
      let rest = filter P (range_with_len (a + 1) len) in
      let later = lines_apart (a + 1) len in
      let mine = pieces_of_line s a in
      let own = lines_of_parts a (range_with_len 0 (need s a)) in
      let weaker = AllByRecursion-weaker (λ x. a + 1 ≤ x.line) (λ x. a ≤ x.line) (lines_from (a + 1) len) (λ x h. omega arith) later.0 in
      cond_both (P a) (a ∷ rest) rest
      (λ ns. AllByRecursion (λ x. a ≤ x.line) (flat_map (pieces_of_line s) ns) × IsDistinct piece_eq (flat_map (pieces_of_line s) ns))
      (λ _. (
        AllByRecursion-append piece_eq (λ x. a ≤ x.line) mine (lines_from (a + 1) len)
            (AllByRecursion-weaker (λ x. x.line ≡ a) (λ x. a ≤ x.line) mine (λ x h. omega (arith, h)) own) weaker,
        IsDistinct-append piece_eq mine (lines_from (a + 1) len) (IsDistinct-parts a 0 (need s a)) later.1
            (AllByRecursion-weaker (λ x. x.line ≡ a) (λ x. AllByRecursion (λ y. piece_eq x y ≡ false) (lines_from (a + 1) len)) mine (λ x h.
            AllByRecursion-weaker (λ y. a + 1 ≤ y.line) (λ y. piece_eq x y ≡ false) (lines_from (a + 1) len)
            (λ y le. line≢line x y (omega (arith, h))) later.0) own),
      ))
      (λ _. (weaker, later.1))

-- each is once
pub IsDistinct-pieces_by : (s : Job) (r : ℕ) → IsDistinct piece_eq (pieces_by s r)
IsDistinct-pieces_by s r = (lines_apart s (λ n. is_of_rank r (op_at s n)) 2 (length s.lines)).1

-- a part of a line of the client is among them
pub list_any-pieces_by : (s : Job) (r k : ℕ) (x : Piece) → slice_get (program s r) k ≡ Some x.line → x.part < need s x.line
    → list_any (piece_eq x) (pieces_by s r) ≡ true
list_any-pieces_by s r k x at below =
    let long = length-map-range_with_len (piece_at x.line) 0 (need s x.line) in
    let here = get_or-map-range_with_len (piece_at x.line) 0 (need s x.line) x.part x.part x below (omega arith) in
    let own : list_any (piece_eq x) (pieces_of_line s x.line) ≡ true =
    list_any_at (piece_eq x) (pieces_of_line s x.line) x.part x (omega (arith, long)) (ap (piece_eq x) here ∙ piece_eq_equiv.refl x) in
    list_any-flat_map (piece_eq x) (pieces_of_line s) (program s r)
    ∙ list_any_at (λ n. list_any (piece_eq x) (pieces_of_line s n)) (program s r) k x.line (slice_get_within (program s r) k x.line at)
    (ap (λ n. list_any (piece_eq x) (pieces_of_line s n)) (get_or_from_slice_get (program s r) k x.line x.line at) ∙ own)
