-- Lines put over a file: how long it is, what stands at each place, and which pieces it bears. It is what the lines make of an
-- empty file, and what was there under that.
use Rattle.std.specs.Option.{option_or}
use Rattle.fs_script.specs.Live.{is_of_piece}
use Rattle.fs_types.specs.Overwrite.{put, cut}
use Rattle.std.proofs.Math.Bool.{or-true}
use Rattle.std.proofs.lemmas.List.{get_or_default}
use Rattle.std.proofs.lemmas.List.Folds.{Any-from_list_any}
use Rattle.fs_types.proofs.CallerLemmas.{length-put, get_or-cut_anywhere}
use Rattle.fs_script.specs.Vocabulary.{written, Mark, mark_of, Piece, LONGEST_FILE, put_lines, Job, marks_put, bears, Cells, offset}
use Rattle.fs_script.specs.Vocabulary.{payload, marks_in}
use Rattle.fs_types.proofs.Common.{◌≡◌, [], arith, None, ap, ◌-◌, length, refl, zero, suc, ◌+◌, max, cond, ltb, leb, List, ◌∷◌, get_or, ◌∙◌}
use Rattle.fs_types.proofs.Common.{◌&&◌, Option, Some, sym, nat_le, Bool, true, false, true≢false, ◌||◌, cond_both, leb-true, cond-false}
use Rattle.fs_types.proofs.Common.{length-map-range_with_len, ℕ}
use Rattle.fs_script.proofs.MarksGrow.{get_or-line_put}

-- ---- how long it is

-- where what is written ends, where it is written
abbrev reached : {X : Type 0} → ℕ → List X → ℕ
reached off [] = 0
reached off (y ∷ ys) = cond (nat_le (off + length (y ∷ ys)) LONGEST_FILE) (off + length (y ∷ ys)) 0

length-written_is : {X : Type 0} (blank : X) (xs : List X) (off : ℕ) (ys : List X)
    → length (written blank xs off ys) ≡ max (length xs) (reached off ys)
length-written_is blank xs off [] = cond_both (nat_le (off + 0) LONGEST_FILE) xs xs (λ zs. length zs ≡ max (length xs) 0)
    (λ _. omega arith) (λ _. omega arith)
length-written_is blank xs off (y ∷ ys) = by (nat_le (off + length (y ∷ ys)) LONGEST_FILE) where
  by : (b : Bool) → length (cond b (put blank xs off (y ∷ ys)) xs) ≡ max (length xs) (cond b (off + length (y ∷ ys)) 0)
  by true = length-put blank xs off (y ∷ ys) (omega arith)
  by false = omega arith

length-put_over : {X : Type 0} (s : Job) (c : Cells X) (ns : List ℕ) (xs ys zs : List X) → length zs ≡ max (length xs) (length ys)
    → length (put_lines s c ns zs) ≡ max (length xs) (length (put_lines s c ns ys))
length-put_over s c [] xs ys zs long = long
length-put_over s c (n ∷ ns) xs ys zs long =
    let over = length-written_is c.blank zs (offset s n) (c.of_line n) in
    let alone = length-written_is c.blank ys (offset s n) (c.of_line n) in
    length-put_over s c ns xs (written c.blank ys (offset s n) (c.of_line n)) (written c.blank zs (offset s n) (c.of_line n))
    (omega (arith, over, alone, long))

-- as long as what was there, or as what the lines make of an empty file
pub length-put_lines : {X : Type 0} (s : Job) (c : Cells X) (ns : List ℕ) (xs : List X)
    → length (put_lines s c ns xs) ≡ max (length xs) (length (put_lines s c ns []))
length-put_lines s c ns xs = length-put_over s c ns xs [] xs (omega arith)

-- ---- what stands at each place

module _ (s : Job) where
  -- line n writes place k, where it ends within the longest file
  abbrev pub writes_at : ℕ → ℕ → Bool
  writes_at n k = nat_le (offset s n + length (payload s n)) LONGEST_FILE
      && (leb (offset s n) k && ltb k (offset s n + length (payload s n)))

  -- the mark of the line's byte there
  abbrev pub home_mark : ℕ → ℕ → Option Mark
  home_mark n k = Some (mark_of s.shape.chunk n (k - offset s n))

  -- where it does that mark, and elsewhere what stood there
  pub get_or-written : (n : ℕ) (marks : List (Option Mark)) (k : ℕ) → get_or (put_lines s (marks_in s) (n ∷ []) marks) k None
      ≡ cond (writes_at n k) (home_mark n k) (get_or marks k None)
  get_or-written n marks k = by (nat_le (off + size) LONGEST_FILE) refl where
    off : ℕ
    off = offset s n

    size : ℕ
    size = length (payload s n)

    by : (b : Bool) → nat_le (off + size) LONGEST_FILE ≡ b → get_or (put_lines s (marks_in s) (n ∷ []) marks) k None
        ≡ cond (b && (leb off k && ltb k (off + size))) (home_mark n k) (get_or marks k None)
    by true e = get_or-line_put s n marks k (leb-true (off + size) LONGEST_FILE e)
    by false e =
        let lines = (marks_in s).of_line n in
        let long : length lines ≡ size = length-map-range_with_len (λ i. Some (mark_of s.shape.chunk n i)) 0 size in
        ap (λ ms. get_or ms k None) (cond-false (nat_le (off + length lines) LONGEST_FILE) (put None marks off lines) marks
        (ap (λ m. nat_le (off + m) LONGEST_FILE) long ∙ e))

  or-cond : (b : Bool) (m : Mark) (x y : Option Mark) → option_or (cond b (Some m) x) y ≡ cond b (Some m) (option_or x y)
  or-cond true m x y = refl
  or-cond false m x y = refl

  put_over : (ns : List ℕ) (xs ys zs : List (Option Mark))
      → ((k : ℕ) → get_or zs k None ≡ option_or (get_or ys k None) (get_or xs k None)) → (k : ℕ)
      → get_or (put_lines s (marks_in s) ns zs) k None ≡ option_or (get_or (put_lines s (marks_in s) ns ys) k None) (get_or xs k None)
  put_over [] xs ys zs same k = same k
  put_over (n ∷ ns) xs ys zs same k =
      put_over ns xs (put_lines s (marks_in s) (n ∷ []) ys) (put_lines s (marks_in s) (n ∷ []) zs) (λ i.
      let below = get_or xs i None in
      get_or-written n zs i
      ∙ ap (cond (writes_at n i) (home_mark n i)) (same i)
      ∙ sym (or-cond (writes_at n i) (mark_of s.shape.chunk n (i - offset s n)) (get_or ys i None) below)
      ∙ ap (λ m. option_or m below) (sym (get_or-written n ys i))) k

  -- the mark that the lines make there of an empty file, and else what was there
  pub get_or-put_lines : (ns : List ℕ) (xs : List (Option Mark)) (k : ℕ)
      → get_or (put_lines s (marks_in s) ns xs) k None ≡ option_or (get_or (marks_put s ns) k None) (get_or xs k None)
  get_or-put_lines ns xs k = put_over ns xs [] xs (λ i. refl) k

-- ---- which pieces it bears

-- marks bear the piece of the mark at a place
pub bears-at : (marks : List (Option Mark)) (k : ℕ) (x : Piece) → is_of_piece x (get_or marks k None) ≡ true → bears marks x ≡ true
bears-at [] k x h = absurd (true≢false (sym h))
bears-at (m ∷ marks) zero x h = ap (λ b. b || bears marks x) h
bears-at (m ∷ marks) (suc k) x h = ap (λ b. is_of_piece x m || b) (bears-at marks k x h) ∙ or-true (is_of_piece x m)

-- and each that they bear is of the mark at some place
pub bears-place : (marks : List (Option Mark)) (x : Piece) → bears marks x ≡ true → (k : ℕ) × (is_of_piece x (get_or marks k None) ≡ true)
bears-place marks x borne =
    let h = Any-from_list_any (is_of_piece x) marks borne in
    (h.0, ap (is_of_piece x) (get_or_default marks h.0 None h.1 h.2 ∙ h.3) ∙ h.4)

-- what a cut leaves bears no other piece
pub bears-cut : (marks : List (Option Mark)) (n : ℕ) (x : Piece) → bears (cut None marks n) x ≡ true → bears marks x ≡ true
bears-cut marks n x borne =
    let h = bears-place (cut None marks n) x borne in
    cond_both (ltb h.0 n) (get_or marks h.0 None) None (λ m. is_of_piece x m ≡ true → bears marks x ≡ true)
    (λ _ is. bears-at marks h.0 x is) (λ _ is. absurd (true≢false (sym is)))
    (ap (is_of_piece x) (sym (get_or-cut_anywhere None marks n h.0)) ∙ h.1)

module _ (s : Job) (ns : List ℕ) (xs : List (Option Mark)) (x : Piece) where
  -- a piece that it bears was borne by the file, or is by what the lines make of an empty one
  pub bears-put_lines : bears (put_lines s (marks_in s) ns xs) x ≡ true → (bears xs x || bears (marks_put s ns) x) ≡ true
  bears-put_lines borne =
      let h = bears-place (put_lines s (marks_in s) ns xs) x borne in
      let is = ap (is_of_piece x) (sym (get_or-put_lines s ns xs h.0)) ∙ h.1 in
      by h.0 (get_or (marks_put s ns) h.0 None) refl is
    where
      by : (k : ℕ) (m : Option Mark) → get_or (marks_put s ns) k None ≡ m → is_of_piece x (option_or m (get_or xs k None)) ≡ true
          → (bears xs x || bears (marks_put s ns) x) ≡ true
      by k None e is = ap (λ b. b || bears (marks_put s ns) x) (bears-at xs k x is)
      by k (Some m) e is = ap (λ b. bears xs x || b) (bears-at (marks_put s ns) k x (ap (is_of_piece x) e ∙ is)) ∙ or-true (bears xs x)

  -- and all that these bear it bears
  pub bears-put : bears (marks_put s ns) x ≡ true → bears (put_lines s (marks_in s) ns xs) x ≡ true
  bears-put borne =
      let h = bears-place (marks_put s ns) x borne in
      bears-at (put_lines s (marks_in s) ns xs) h.0 x
      (ap (is_of_piece x) (get_or-put_lines s ns xs h.0) ∙ by (get_or (marks_put s ns) h.0 None) (get_or xs h.0 None) h.1)
    where
      by : (m y : Option Mark) → is_of_piece x m ≡ true → is_of_piece x (option_or m y) ≡ true
      by None y is = absurd (true≢false (sym is))
      by (Some m) y is = is
