-- How many fragments name a piece, in what a range leaves of them.
use Rattle.fs_types.proofs.Common.{◌≡◌, ℕ, ◌+◌, ◌<◌, ◌≤◌, Bool, true, false, cond, ltb, List, [], ◌∷◌, ◌++◌, All, All-head, All-tail}
use Rattle.fs_types.proofs.Common.{filter, flat_map, length, length-append, ◌*◌}
use Rattle.fs_types.proofs.Common.{arith, nat_tests, count_by-le-length, ◌||◌, lt-ltb, ltb-true, ltb-false, get_or, cases_Bool, inl, inr}
use Rattle.fs_types.proofs.Common.{◌⊎◌, cond_both, cond-true, cond-false, sum_by-cons, refl, ap, sym, ◌∙◌}
use Rattle.std.proofs.Common.{⊎_elim}
use Rattle.std.proofs.lemmas.List.Folds.{list_any_at}
use Rattle.std.proofs.lemmas.List.Sums.{sum_by-append}
use Rattle.fs_types.specs.Fragments.{end_of, piece_eq, fragment_count}
use Rattle.fs_types.specs.Pieces.{Fragment, Piece}
use Rattle.span_list.specs.Spans.{IsSpan, AreSpans, rest_before, rest_from, begins_from, ends_after, put_fragment}
use Rattle.span_list.proofs.CallerLemmas.{AreSpans-put, at_rest_before, at_rest_from, before, from_on, length-rests-le}
use Rattle.fs_types.specs.declared.limits.TheConstants.{LONGEST_FILE}
use Rattle.piece_table.specs.HeldSpans.{is_named, put_fragments}
use Rattle.piece_table.proofs.Covered.{few}
use Rattle.piece_table.proofs.Tables.{piece_eq-itself}
use Rattle.piece_table.specs.Ranges.{covered, is_covered, reaching, reaches_past}

-- one where a fragment names a piece
abbrev pub naming : Piece → Fragment → ℕ
naming q f = cond (piece_eq f.piece q) 1 0

pub naming-itself : (f : Fragment) → naming f.piece f ≡ 1
naming-itself f = cond-true (piece_eq f.piece f.piece) 1 0 (piece_eq-itself f.piece)

-- what counts a fragment names it
pub naming_one : (q : Piece) (f : Fragment) → naming q f ≡ 1 → piece_eq f.piece q ≡ true
naming_one q f =
    cond_both (piece_eq f.piece q) 1 0 (λ n. n ≡ 1 → piece_eq f.piece q ≡ true) (λ e _. e) (λ _ no. absurd (omega arith))

pub count-cons : (q : Piece) (f : Fragment) (fs : List Fragment) → fragment_count q (f ∷ fs) ≡ naming q f + fragment_count q fs
count-cons q f fs = sum_by-cons (naming q) f fs

pub count-append : (q : Piece) (fs gs : List Fragment) → fragment_count q (fs ++ gs) ≡ fragment_count q fs + fragment_count q gs
count-append q fs gs = sum_by-append (naming q) fs gs

pub count-one : (q : Piece) (f : Fragment) → fragment_count q (f ∷ []) ≡ naming q f
count-one q f = omega (arith, count-cons q f [])

count-before : (q : Piece) (at : ℕ) (f : Fragment) → fragment_count q (rest_before at f) ≡ cond (begins_from at f) 0 (naming q f)
count-before q at f =
    at_rest_before (λ us. fragment_count q us ≡ cond (begins_from at f) 0 (naming q f)) at f
    (λ begins. grind (arith, nat_tests)) (λ begun. count-one q (before at f) ∙ grind (arith, nat_tests))

count-from : (q : Piece) (at : ℕ) (f : Fragment) → fragment_count q (rest_from at f) ≡ cond (ends_after at f) (naming q f) 0
count-from q at f =
    at_rest_from (λ us. fragment_count q us ≡ cond (ends_after at f) (naming q f) 0) at f
    (λ ended. grind (arith, nat_tests)) (λ ends. count-one q (from_on at f) ∙ grind (arith, nat_tests))

count-filter : (q : Piece) (p : Fragment → Bool) (f : Fragment) (fs : List Fragment)
    → fragment_count q (filter p (f ∷ fs)) ≡ cond (p f) (naming q f) 0 + fragment_count q (filter p fs)
count-filter q p f fs =
    cond_both (p f) (f ∷ filter p fs) (filter p fs)
    (λ us. fragment_count q us ≡ cond (p f) (naming q f) 0 + fragment_count q (filter p fs))
    (λ e. count-cons q f (filter p fs) ∙ ap (λ n. n + fragment_count q (filter p fs)) (sym (cond-true (p f) (naming q f) 0 e)))
    (λ e. omega (arith, cond-false (p f) (naming q f) 0 e))

-- each fragment is on one side of a range, on both, or whole in it
one_side : (at end : ℕ) (f : Fragment) (n : ℕ) → 0 < f.len → at < end
    → cond (begins_from at f) 0 n + cond (ends_after end f) n 0 + cond (is_covered at end f) n 0 ≡ n + cond (reaches_past at end f) n 0
one_side at end f n some below = grind (arith, nat_tests)

-- what a range leaves on its sides and what lies whole in it are the fragments, with those twice that reach past both ends
pub count_sides : (q : Piece) (at end : ℕ) (fs : List Fragment) → All IsSpan fs → at < end
    → fragment_count q (flat_map (rest_before at) fs) + fragment_count q (flat_map (rest_from end) fs)
    + fragment_count q (covered at end fs)
    ≡ fragment_count q fs + fragment_count q (reaching at end fs)
count_sides q at end [] each below = refl
count_sides q at end (f ∷ fs) each below =
    let span : IsSpan f = All-head IsSpan f fs each in
    omega (
      arith,
      count-append q (rest_before at f) (flat_map (rest_before at) fs),
      count-before q at f,
      count-append q (rest_from end f) (flat_map (rest_from end) fs),
      count-from q end f,
      count-filter q (is_covered at end) f fs,
      count-filter q (reaches_past at end) f fs,
      count-cons q f fs,
      one_side at end f (naming q f) span.has_bytes below,
      count_sides q at end fs (All-tail IsSpan f fs each) below,
    )

-- a fragment begins before a place, or lies whole from there on
one_cut : (size : ℕ) (f : Fragment) (n : ℕ) → end_of f ≤ LONGEST_FILE
    → cond (begins_from size f) 0 n + cond (is_covered size LONGEST_FILE f) n 0 ≡ n
one_cut size f n in_file = grind (arith, nat_tests)

-- what a cut leaves and what lies whole behind it are the fragments
pub count-cut : (q : Piece) (size : ℕ) (fs : List Fragment) → All IsSpan fs
    → fragment_count q (flat_map (rest_before size) fs) + fragment_count q (covered size LONGEST_FILE fs) ≡ fragment_count q fs
count-cut q size [] each = refl
count-cut q size (f ∷ fs) each =
    let span : IsSpan f = All-head IsSpan f fs each in
    omega (
      arith,
      count-append q (rest_before size f) (flat_map (rest_before size) fs),
      count-before q size f,
      count-filter q (is_covered size LONGEST_FILE) f fs,
      count-cons q f fs,
      one_cut size f (naming q f) span.in_file,
      count-cut q size fs (All-tail IsSpan f fs each),
    )

-- those of a list that pass a test name a piece at most as often as all
pub count-filter-le : (q : Piece) (p : Fragment → Bool) (fs : List Fragment) → fragment_count q (filter p fs) ≤ fragment_count q fs
count-filter-le q p [] = omega arith
count-filter-le q p (f ∷ fs) =
    cond_both (p f) (naming q f) 0 (λ n. fragment_count q (filter p (f ∷ fs)) ≡ n + fragment_count q (filter p fs)
    → fragment_count q (filter p (f ∷ fs)) ≤ fragment_count q (f ∷ fs))
    (λ _ is. omega (arith, is, count-cons q f fs, count-filter-le q p fs))
    (λ _ is. omega (arith, is, count-cons q f fs, count-filter-le q p fs))
    (count-filter q p f fs)

-- what a put makes of the numbers, where those that reach past its fragment were counted once more and those that lie whole in
-- it were counted out
pub count-laid : (q : Piece) (f : Fragment) (fs : List Fragment) (old more new : ℕ) → IsSpan f → All IsSpan fs
    → more ≡ old + fragment_count q (reaching f.at (end_of f) fs) → new + fragment_count q (covered f.at (end_of f) fs) ≡ more
    → new + fragment_count q (f ∷ fs) ≡ old + fragment_count q (put_fragment f fs)
count-laid q f fs old more new span each up down =
    let some = span.has_bytes in
    let before = flat_map (rest_before f.at) fs in
    let behind = flat_map (rest_from (end_of f)) fs in
    omega (
      arith,
      count_sides q f.at (end_of f) fs each (omega arith),
      count-append q before (f ∷ behind),
      count-cons q f behind,
      count-cons q f fs,
    )

pub few_named : (q : Piece) (fs : List Fragment) → AreSpans fs → fragment_count q fs ≤ LONGEST_FILE
few_named q fs spans = omega (arith, count_by-le-length (λ f. piece_eq f.piece q) fs, few fs spans)

-- a piece is named where some fragment names it
pub named_count : (q : Piece) (fs : List Fragment) → is_named fs q ≡ ltb 0 (fragment_count q fs)
named_count q [] = refl
named_count q (f ∷ fs) =
    let rest : is_named fs q ≡ ltb 0 (fragment_count q fs) = named_count q fs in
    elim (cases_Bool (piece_eq f.piece q)) [
      | inl e ↦
          let one = cond-true {A = ℕ} (piece_eq f.piece q) 1 0 e in
          ap (λ b. b || is_named fs q) e ∙ sym (lt-ltb 0 (fragment_count q (f ∷ fs)) (omega (arith, count-cons q f fs)))
      | inr e ↦
          let none = cond-false {A = ℕ} (piece_eq f.piece q) 1 0 e in
          let same : fragment_count q fs ≡ fragment_count q (f ∷ fs) = omega (arith, count-cons q f fs) in
          ap (λ b. b || is_named fs q) e ∙ rest ∙ ap (ltb 0) same
    ]

pub named_some : (q : Piece) (fs : List Fragment) → is_named fs q ≡ true → 0 < fragment_count q fs
named_some q fs named = ltb-true 0 (fragment_count q fs) (sym (named_count q fs) ∙ named)

pub some_named : (q : Piece) (fs : List Fragment) → 0 < fragment_count q fs → is_named fs q ≡ true
some_named q fs some = named_count q fs ∙ lt-ltb 0 (fragment_count q fs) some

pub named_none : (q : Piece) (fs : List Fragment) → is_named fs q ≡ false → fragment_count q fs ≡ 0
named_none q fs unnamed = let none = ltb-false 0 (fragment_count q fs) (sym (named_count q fs) ∙ unnamed) in omega arith

pub none_named : (q : Piece) (fs : List Fragment) → fragment_count q fs ≡ 0 → is_named fs q ≡ false
none_named q fs zero = named_count q fs ∙ ap (ltb 0) zero

-- each fragment names its piece
pub All-named : (fs : List Fragment) → All (λ f. is_named fs f.piece ≡ true) fs
All-named fs k d within = list_any_at (λ f. piece_eq f.piece (get_or fs k d).piece) fs k d within (piece_eq-itself (get_or fs k d).piece)

-- a piece that a put names and that was named by none is that of its fragment
pub named_by_put : (q : Piece) (f : Fragment) (fs : List Fragment) → IsSpan f → All IsSpan fs → 0 < fragment_count q (put_fragment f fs)
    → fragment_count q fs ≡ 0 → naming q f ≡ 1
named_by_put q f fs span each some none =
    let has_bytes = span.has_bytes in
    let before = flat_map (rest_before f.at) fs in
    let behind = flat_map (rest_from (end_of f)) fs in
    let one : (naming q f ≡ 1) ⊎ (naming q f ≡ 0) =
    cond_both (piece_eq f.piece q) 1 0 (λ n. (n ≡ 1) ⊎ (n ≡ 0)) (λ _. inl refl) (λ _. inr refl) in
    ⊎_elim (λ e. e) (λ e. absurd (omega (
      arith,
      count_sides q f.at (end_of f) fs each (omega arith),
      count-append q before (f ∷ behind),
      count-cons q f behind,
      count-filter-le q (reaches_past f.at (end_of f)) fs,
    ))) one

pub head_named : (f : Fragment) (fs : List Fragment) → 0 < fragment_count f.piece (f ∷ fs)
head_named f fs = omega (arith, count-cons f.piece f fs, naming-itself f)

-- fragments that are put over others are at most two more each
pub length-put_fragments : (over fs : List Fragment) → All IsSpan over → AreSpans fs
    → length (put_fragments over fs) ≤ length fs + 2 * length over
length-put_fragments [] fs each spans = omega arith
length-put_fragments (f ∷ over) fs each spans =
    let span : IsSpan f = All-head IsSpan f over each in
    let some = span.has_bytes in
    omega (
      arith,
      length-append (flat_map (rest_before f.at) fs) (f ∷ flat_map (rest_from (end_of f)) fs),
      length-rests-le f.at (end_of f) fs spans (omega (arith, some)),
      length-put_fragments over (put_fragment f fs) (All-tail IsSpan f over each) (AreSpans-put f fs span spans),
    )
