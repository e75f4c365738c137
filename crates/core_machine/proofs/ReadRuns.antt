-- The runs of marks with more marks behind them: blanks add nothing, and the marks of one run add that run.
use Rattle.fs_types.proofs.Common.{◌≡◌, ℕ, zero, suc, ◌+◌, ◌-◌, ◌<◌, ◌≤◌, Bool, true, false, ◌&&◌, ◌==◌, List, [], ◌∷◌, ◌++◌}
use Rattle.fs_types.proofs.Common.{length, length-map-range_with_len, map, range_with_len, Option, Some, None, refl, sym, ap, ◌∙◌, arith}
use Rattle.fs_types.proofs.Common.{cond_both, cond-true, cond-false}
use Rattle.fs_types.proofs.Common.{and_from, eq-eqb, min, drop, get_or-take, get_or-drop, get_or-map-range_with_len}
use Rattle.fs_types.proofs.CallerLemmas.{length-shown}
use Rattle.std.proofs.lemmas.List.{ext_get_or}
use Rattle.fs_types.specs.Fragments.{piece_eq, end_of}
use Rattle.fs_types.specs.FragmentMarks.{mark_at, mark_within, marks_of_fragments}
use Rattle.fs_script.specs.Vocabulary.{Fragment, Mark, Piece, goes_on, runs, shown}
use Rattle.fs_script.specs.Runs.{byte_run, with_run, runs_from}
use Rattle.fs_script.proofs.RunsOfMarks.{GoesOn, GoesOn-from}
use Rattle.fs_script.proofs.PiecesOnce.{piece_eq_equiv}
use Rattle.core_machine.specs.ReadRuns.{joined, with_last}

-- ---- runs that go on

-- what goes on the second goes on both as one
goes_on-joined : (f g h : Fragment) → goes_on f g ≡ true → goes_on (joined f g) h ≡ goes_on g h
goes_on-joined f g h goes =
    let on : GoesOn f g = GoesOn-from f g goes in
    let ends : end_of (joined f g) ≡ end_of g = omega (arith, on.at) in
    let froms : f.from + (f.len + g.len) ≡ g.from + g.len = omega (arith, on.from) in
    let piece = sym on.piece in
    λ i. h.at == ends i && piece_eq h.piece (piece i) && h.from == froms i

joined-joined : (f g h : Fragment) → joined f (joined g h) ≡ joined (joined f g) h
joined-joined f g h =
    ap (λ (n : ℕ). let r : Fragment = record { at = f.at; len = n; piece = f.piece; from = f.from } in r) (omega arith)

-- a run before others and one behind them, in either order
with_run-with_last : (f : Fragment) (gs : List Fragment) (h : Fragment) → with_run f (with_last gs h) ≡ with_last (with_run f gs) h
with_run-with_last f [] h = refl
with_run-with_last f (g ∷ []) h = by (goes_on f g) (goes_on g h) refl refl where
  by : (a b : Bool) → goes_on f g ≡ a → goes_on g h ≡ b → with_run f (with_last (g ∷ []) h) ≡ with_last (with_run f (g ∷ [])) h
  by true true first second =
      ap (with_run f) (cond-true (goes_on g h) _ _ second) ∙ cond-true (goes_on f g) _ _ first
      ∙ ap (λ r. r ∷ []) (joined-joined f g h) ∙ sym (cond-true (goes_on (joined f g) h) _ _ (goes_on-joined f g h first ∙ second))
      ∙ sym (ap (λ fs. with_last fs h) (cond-true (goes_on f g) _ _ first))
  by true false first second =
      ap (with_run f) (cond-false (goes_on g h) _ _ second) ∙ cond-true (goes_on f g) _ _ first
      ∙ sym (cond-false (goes_on (joined f g) h) _ _ (goes_on-joined f g h first ∙ second))
      ∙ sym (ap (λ fs. with_last fs h) (cond-true (goes_on f g) _ _ first))
  by false true first second =
      ap (with_run f) (cond-true (goes_on g h) _ _ second) ∙ cond-false (goes_on f g) _ _ first
      ∙ sym (ap (λ fs. f ∷ fs) (cond-true (goes_on g h) _ _ second))
      ∙ sym (ap (λ fs. with_last fs h) (cond-false (goes_on f g) _ _ first))
  by false false first second =
      ap (with_run f) (cond-false (goes_on g h) _ _ second) ∙ cond-false (goes_on f g) _ _ first
      ∙ sym (ap (λ fs. f ∷ fs) (cond-false (goes_on g h) _ _ second))
      ∙ sym (ap (λ fs. with_last fs h) (cond-false (goes_on f g) _ _ first))
with_run-with_last f (g ∷ k ∷ gs) h =
    cond_both (goes_on f g) (joined f g ∷ k ∷ gs) (f ∷ g ∷ k ∷ gs) (λ fs. with_run f (g ∷ with_last (k ∷ gs) h) ≡ with_last fs h)
    (λ on. cond-true (goes_on f g) _ _ on) (λ off. cond-false (goes_on f g) _ _ off)

-- ---- more marks behind

runs_from-blanks : (at : ℕ) (xs ys : List (Option Mark)) → runs_from (at + length xs) ys ≡ [] → runs_from at (xs ++ ys) ≡ runs_from at xs
runs_from-blanks at [] ys none = ap (λ n. runs_from n ys) (omega arith) ∙ none
runs_from-blanks at (None ∷ xs) ys none = runs_from-blanks (at + 1) xs ys (ap (λ n. runs_from n ys) (omega arith) ∙ none)
runs_from-blanks at (Some m ∷ xs) ys none =
    ap (with_run (byte_run at m)) (runs_from-blanks (at + 1) xs ys (ap (λ n. runs_from n ys) (omega arith) ∙ none))

runs_from-run : (at : ℕ) (xs ys : List (Option Mark)) (g : Fragment) → runs_from (at + length xs) ys ≡ g ∷ []
    → runs_from at (xs ++ ys) ≡ with_last (runs_from at xs) g
runs_from-run at [] ys g one = ap (λ n. runs_from n ys) (omega arith) ∙ one
runs_from-run at (None ∷ xs) ys g one = runs_from-run (at + 1) xs ys g (ap (λ n. runs_from n ys) (omega arith) ∙ one)
runs_from-run at (Some m ∷ xs) ys g one =
    ap (with_run (byte_run at m)) (runs_from-run (at + 1) xs ys g (ap (λ n. runs_from n ys) (omega arith) ∙ one))
    ∙ with_run-with_last (byte_run at m) (runs_from (at + 1) xs) g

-- ---- the marks of fragments, from a place on

-- a run of so many bytes of a piece, from this byte on
abbrev run_of : ℕ → ℕ → Piece → ℕ → Fragment
run_of at len x from = record { at = at; len = len; piece = x; from = from }

abbrev mark_in : Piece → ℕ → Option Mark
mark_in x place = Some (record { line = x.line; part = x.part; place = place })

-- the marks of n places from this one on
abbrev pub cells : List Fragment → ℕ → ℕ → List (Option Mark)
cells fs a n = map (mark_at fs) (range_with_len a n)

cells-append : (fs : List Fragment) (a n m : ℕ) → cells fs a (n + m) ≡ cells fs a n ++ cells fs (a + n) m
cells-append fs a zero m =
    let from : a ≡ a + 0 = omega arith in
    let size : 0 + m ≡ m = omega arith in
    λ i. cells fs (from i) (size i)
cells-append fs a (suc n) m =
    let size : suc n + m ≡ suc (n + m) = omega arith in
    let from : a + 1 + n ≡ a + suc n = omega arith in
    ap (cells fs a) size ∙ ap (λ ms. mark_at fs a ∷ ms) (cells-append fs (a + 1) n m)
    ∙ ap (λ b. cells fs a (suc n) ++ cells fs b m) from

blank_cells : (fs : List Fragment) (at a n : ℕ) → ((k : ℕ) → a ≤ k → k < a + n → mark_at fs k ≡ None) → runs_from at (cells fs a n) ≡ []
blank_cells fs at a zero none = refl
blank_cells fs at a (suc n) none =
    ap (λ m. runs_from at (m ∷ cells fs (a + 1) n)) (none a (omega arith) (omega arith))
    ∙ blank_cells fs (at + 1) (a + 1) n (λ k from to. none k (omega (arith, from)) (omega (arith, to)))

goes_on-next : (at len place : ℕ) (x : Piece) → goes_on (run_of at 1 x place) (run_of (at + 1) len x (place + 1)) ≡ true
goes_on-next at len place x =
    and_from (at + 1 == at + 1 && piece_eq x x) (place + 1 == place + 1)
    (and_from (at + 1 == at + 1) (piece_eq x x) (eq-eqb (at + 1) (at + 1) refl) (piece_eq_equiv.refl x))
    (eq-eqb (place + 1) (place + 1) refl)

run_cells : (fs : List Fragment) (at a n place : ℕ) (x : Piece)
    → ((k : ℕ) → a ≤ k → k < a + suc n → mark_at fs k ≡ mark_in x (place + (k - a)))
    → runs_from at (cells fs a (suc n)) ≡ run_of at (suc n) x place ∷ []
run_cells fs at a zero place x marks =
    ap (λ m. runs_from at (m ∷ [])) (marks a (omega arith) (omega arith) ∙ ap (mark_in x) (omega arith))
run_cells fs at a (suc n) place x marks =
    ap (λ m. runs_from at (m ∷ cells fs (a + 1) (suc n))) (marks a (omega arith) (omega arith) ∙ ap (mark_in x) (omega arith))
    ∙ ap (with_run (run_of at 1 x place)) (run_cells fs (at + 1) (a + 1) n (place + 1) x (λ k from to.
    marks k (omega (arith, from)) (omega (arith, to)) ∙ ap (mark_in x) (omega (arith, from))))
    ∙ cond-true (goes_on (run_of at 1 x place) (run_of (at + 1) (suc n) x (place + 1))) _ _ (goes_on-next at (suc n) place x)
    ∙ ap (λ (len : ℕ). run_of at len x place ∷ []) (omega arith)

-- ---- the runs up to a place

-- the runs of the n places from this one on, counted from it
abbrev pub runs_to : List Fragment → ℕ → ℕ → List Fragment
runs_to fs off n = runs (cells fs off n)

pub runs_to-blank : (fs : List Fragment) (off n m : ℕ) → ((k : ℕ) → off + n ≤ k → k < off + n + m → mark_at fs k ≡ None)
    → runs_to fs off (n + m) ≡ runs_to fs off n
runs_to-blank fs off n m none =
    ap runs (cells-append fs off n m)
    ∙ runs_from-blanks 0 (cells fs off n) (cells fs (off + n) m) (blank_cells fs (0 + length (cells fs off n)) (off + n) m none)

runs_to-run : (fs : List Fragment) (off n l place : ℕ) (x : Piece)
    → ((k : ℕ) → off + n ≤ k → k < off + n + suc l → mark_at fs k ≡ mark_in x (place + (k - (off + n))))
    → runs_to fs off (n + suc l) ≡ with_last (runs_to fs off n) (run_of n (suc l) x place)
runs_to-run fs off n l place x marks =
    let size : 0 + length (cells fs off n) ≡ n = omega (arith, length-map-range_with_len (mark_at fs) off n) in
    ap runs (cells-append fs off n (suc l))
    ∙ runs_from-run 0 (cells fs off n) (cells fs (off + n) (suc l)) (run_of n (suc l) x place)
    (run_cells fs (0 + length (cells fs off n)) (off + n) l place x marks ∙ ap (λ at. run_of at (suc l) x place ∷ []) size)

-- what a range has of its first fragment there: before it no fragment has a mark
pub record IsFirstPart (from to : ℕ) (fs : List Fragment) (f : Fragment) : Type 0 where
  pub some : 0 < f.len
  pub begin : from ≤ f.at
  pub end : end_of f ≤ to
  pub blank : (k : ℕ) → from ≤ k → k < f.at → mark_at fs k ≡ None
  pub marks : (k : ℕ) → f.at ≤ k → k < end_of f → mark_at fs k ≡ Some (mark_within f k)

-- a part of a fragment adds one run, as its marks stand there and none before it
pub runs_to-part : (fs : List Fragment) (off from to : ℕ) (f : Fragment) → off ≤ from → IsFirstPart from to fs f
    → runs_to fs off (end_of f - off) ≡ with_last (runs_to fs off (from - off)) (record f { at = f.at - off })
runs_to-part fs off from to f within first =
    let n : ℕ = f.at - off in
    let size : suc (f.len - 1) ≡ f.len = omega (arith, first.some) in
    let here : off + n ≡ f.at = omega (arith, first.begin) in
    let before : runs_to fs off n ≡ runs_to fs off (from - off) =
    ap (runs_to fs off) (omega (arith, first.begin))
    ∙ runs_to-blank fs off (from - off) (f.at - from) (λ k a b. first.blank k (omega (arith, a)) (omega (arith, b))) in
    ap (runs_to fs off) (omega (arith, first.begin, size))
    ∙ runs_to-run fs off n (f.len - 1) f.from f.piece (λ k a b.
    first.marks k (omega (arith, a, here)) (omega (arith, b, here, size)) ∙ ap (λ at. mark_in f.piece (f.from + (k - at))) (sym here))
    ∙ (λ i. with_last (before i) (run_of n (size i) f.piece f.from))

-- ---- what a read shows

pub length-shown_cells : (fs : List Fragment) (len off n : ℕ) → length (shown (marks_of_fragments fs len) off n) ≡ min n (len - off)
length-shown_cells fs len off n =
    length-shown (marks_of_fragments fs len) off n ∙ ap (λ m. min n (m - off)) (length-map-range_with_len (mark_at fs) 0 len)

pub shown_cells : (fs : List Fragment) (len off n : ℕ) → shown (marks_of_fragments fs len) off n ≡ cells fs off (min n (len - off))
shown_cells fs len off n =
    let size = length-map-range_with_len (mark_at fs) off (min n (len - off)) in
    let shown_size = length-shown_cells fs len off n in
    ext_get_or None (shown (marks_of_fragments fs len) off n) (cells fs off (min n (len - off))) (shown_size ∙ sym size)
    (λ i within.
    let inside : i < min n (len - off) = omega (arith, within, shown_size) in
    get_or-take n (drop off (marks_of_fragments fs len)) i None (omega arith)
    ∙ get_or-drop off (marks_of_fragments fs len) i None
    ∙ get_or-map-range_with_len (mark_at fs) 0 len (off + i) (off + i) None (omega arith) (omega arith)
    ∙ sym (get_or-map-range_with_len (mark_at fs) off (min n (len - off)) i (off + i) None inside refl))
