-- The runs of some marks are in order, none is empty, and they end with the marks; and no other list of fragments that is so, and
-- in which each is as long as it can be, has these marks.
use Rattle.std.specs.List.{AllPairs}
use Rattle.std.proofs.lemmas.List.{get_or_past}
use Rattle.std.proofs.lemmas.List.Kept.{AllPairs-cons}
use Rattle.fs_types.specs.Fragments.{piece_eq, end_of}
use Rattle.fs_types.specs.FragmentMarks.{mark_at, mark_within}
use Rattle.fs_script.specs.Runs.{byte_run, goes_on, with_run, runs_from, runs, AreMaximal}
use Rattle.fs_script.proofs.RunsOfMarks.{joined, GoesOn-from, first_within, first_outside, mark_at-of, AreMaximal-runs}
use Rattle.fs_script.specs.Vocabulary.{Mark, Fragment}
use Rattle.fs_types.proofs.Common.{◌≡◌, [], arith, None, ap, ◌<◌, length, refl, suc, ◌+◌, ◌≤◌, List, ◌∷◌, get_or, ◌∙◌, inl, inr, All}
use Rattle.fs_types.proofs.Common.{◌&&◌, Option, Some, sym, subst, ◌==◌, true, true≢false, cases_lt, cond_both, and_from, eq-eqb, All-nil}
use Rattle.fs_types.proofs.Common.{All-cons, none-some, same_Some, ℕ}
use Rattle.fs_script.proofs.PiecesOnce.{piece_eq_equiv}

-- ---- in order

-- fragments that begin at a place or after it, each with a byte, each before the next, and that end by another place
abbrev AreBetween : ℕ → ℕ → List Fragment → Type 0
AreBetween start stop [] = Unit {0}
AreBetween start stop (f ∷ fs) = (start ≤ f.at) × (0 < f.len) × (end_of f ≤ stop) × AreBetween (end_of f) stop fs

AreBetween-earlier : (start later stop : ℕ) (fs : List Fragment) → start ≤ later → AreBetween later stop fs → AreBetween start stop fs
AreBetween-earlier start later stop [] le all = tt
AreBetween-earlier start later stop (f ∷ fs) le all = (let from = all.0 in omega arith, all.1, all.2, all.3)

AreBetween-with_run : (f : Fragment) (gs : List Fragment) (stop : ℕ) → 0 < f.len → end_of f ≤ stop → AreBetween (end_of f) stop gs
    → AreBetween f.at stop (with_run f gs)
AreBetween-with_run f [] stop some ends all = (omega arith, some, ends, tt)
AreBetween-with_run f (g ∷ gs) stop some ends all =
    cond_both (goes_on f g) (joined f g ∷ gs) (f ∷ g ∷ gs) (AreBetween f.at stop)
    (λ goes.
    let on = GoesOn-from f g goes in
    let last : end_of g ≡ end_of (joined f g) = omega (arith, on.at) in
    (omega arith, omega arith, omega (arith, last, all.2), subst (λ k. AreBetween k stop gs) last all.3))
    (λ _. (omega arith, some, ends, all))

AreBetween-runs_from : (at : ℕ) (marks : List (Option Mark)) (stop : ℕ) → at + length marks ≤ stop
    → AreBetween at stop (runs_from at marks)
AreBetween-runs_from at [] stop le = tt
AreBetween-runs_from at (None ∷ marks) stop le =
    AreBetween-earlier at (at + 1) stop (runs_from (at + 1) marks) (omega arith) (AreBetween-runs_from (at + 1) marks stop (omega arith))
AreBetween-runs_from at (Some m ∷ marks) stop le =
    AreBetween-with_run (byte_run at m) (runs_from (at + 1) marks) stop (omega arith) (omega arith)
    (AreBetween-runs_from (at + 1) marks stop (omega arith))

AreBetween-runs : (marks : List (Option Mark)) → AreBetween 0 (length marks) (runs marks)
AreBetween-runs marks = AreBetween-runs_from 0 marks (length marks) (omega arith)

-- ---- the same place by place

have_bytes-between : (start stop : ℕ) (fs : List Fragment) → AreBetween start stop fs → All (λ f. 0 < f.len) fs
have_bytes-between start stop [] all = All-nil (λ f. 0 < f.len)
have_bytes-between start stop (f ∷ fs) all = All-cons (λ g. 0 < g.len) f fs all.1 (have_bytes-between (end_of f) stop fs all.3)

end-between : (start stop : ℕ) (fs : List Fragment) → AreBetween start stop fs → All (λ f. end_of f ≤ stop) fs
end-between start stop [] all = All-nil (λ f. end_of f ≤ stop)
end-between start stop (f ∷ fs) all = All-cons (λ g. end_of g ≤ stop) f fs all.2 (end-between (end_of f) stop fs all.3)

begin-between : (start stop : ℕ) (fs : List Fragment) → AreBetween start stop fs → All (λ f. start ≤ f.at) fs
begin-between start stop [] all = All-nil (λ f. start ≤ f.at)
begin-between start stop (f ∷ fs) all =
    let from : start ≤ end_of f = omega (arith, all.0) in
    All-cons (λ g. start ≤ g.at) f fs all.0
    (begin-between start stop fs (AreBetween-earlier start (end_of f) stop fs from all.3))

in_order-between : (start stop : ℕ) (fs : List Fragment) → AreBetween start stop fs → AllPairs (λ f g. end_of f ≤ g.at) fs
in_order-between start stop [] all = λ i j d less below. absurd (omega arith)
in_order-between start stop (f ∷ fs) all = AllPairs-cons (λ g h. end_of g ≤ h.at) f fs (begin-between (end_of f) stop fs all.3)
    (in_order-between (end_of f) stop fs all.3)

AreBetween-from_places : (start stop : ℕ) (fs : List Fragment) → All (λ f. start ≤ f.at) fs → All (λ f. 0 < f.len) fs
    → All (λ f. end_of f ≤ stop) fs → AllPairs (λ f g. end_of f ≤ g.at) fs → AreBetween start stop fs
AreBetween-from_places start stop [] begins some ends order = tt
AreBetween-from_places start stop (f ∷ fs) begins some ends order = (
  begins 0 f (omega arith),
  some 0 f (omega arith),
  ends 0 f (omega arith),
  AreBetween-from_places (end_of f) stop fs (λ k d below. order 0 (suc k) d (omega arith) (omega arith))
      (λ k d below. some (suc k) d (omega arith)) (λ k d below. ends (suc k) d (omega arith))
      (λ i j d less below. order (suc i) (suc j) d (omega arith) (omega arith)),
)

-- each run has a byte
pub have_bytes-runs : (marks : List (Option Mark)) → All (λ f. 0 < f.len) (runs marks)
have_bytes-runs marks = have_bytes-between 0 (length marks) (runs marks) (AreBetween-runs marks)

-- each ends before each later one begins
pub in_order-runs : (marks : List (Option Mark)) → AllPairs (λ f g. end_of f ≤ g.at) (runs marks)
in_order-runs marks = in_order-between 0 (length marks) (runs marks) (AreBetween-runs marks)

-- and by the end of the marks
pub end-runs : (marks : List (Option Mark)) → All (λ f. end_of f ≤ length marks) (runs marks)
end-runs marks = end-between 0 (length marks) (runs marks) (AreBetween-runs marks)

-- ---- how many

length-with_run : (f : Fragment) (gs : List Fragment) → length (with_run f gs) ≤ suc (length gs)
length-with_run f [] = omega arith
length-with_run f (g ∷ gs) = cond_both (goes_on f g) (joined f g ∷ gs) (f ∷ g ∷ gs) (λ fs. length fs ≤ suc (length (g ∷ gs)))
    (λ _. omega arith) (λ _. omega arith)

length-runs_from : (at : ℕ) (marks : List (Option Mark)) → length (runs_from at marks) ≤ length marks
length-runs_from at [] = omega arith
length-runs_from at (None ∷ marks) = omega (arith, length-runs_from (at + 1) marks)
length-runs_from at (Some m ∷ marks) =
    omega (arith, length-with_run (byte_run at m) (runs_from (at + 1) marks), length-runs_from (at + 1) marks)

-- there are no more than marks
pub length-runs : (marks : List (Option Mark)) → length (runs marks) ≤ length marks
length-runs marks = length-runs_from 0 marks

-- ---- no others

mark_before : (start stop : ℕ) (fs : List Fragment) (k : ℕ) → AreBetween start stop fs → k < start → mark_at fs k ≡ None
mark_before start stop [] k all before = refl
mark_before start stop (f ∷ fs) k all before =
    first_outside f fs k (inl (let from = all.0 in omega arith))
    ∙ mark_before (end_of f) stop fs k all.3 (omega (arith, all.0))

mark_past : (start stop : ℕ) (fs : List Fragment) (k : ℕ) → AreBetween start stop fs → stop ≤ k → mark_at fs k ≡ None
mark_past start stop [] k all past = refl
mark_past start stop (f ∷ fs) k all past =
    first_outside f fs k (inr (let ends = all.2 in omega arith)) ∙ mark_past (end_of f) stop fs k all.3 past

-- where fragments have a mark at a place that none is before, the first begins there
begins-there : (f : Fragment) (fs : List Fragment) (stop k : ℕ) (m : Mark) → AreBetween k stop (f ∷ fs) → mark_at (f ∷ fs) k ≡ Some m
    → (f.at ≡ k) × (mark_within f k ≡ m)
begins-there f fs stop k m all is = elim (cases_lt k f.at) [
  | inl before ↦
      absurd (none-some m (sym (mark_before f.at stop (f ∷ fs) k (omega arith, all.1, all.2, all.3) before) ∙ is))
  | inr from ↦
      let at : f.at ≡ k = omega (arith, all.0) in
      (at, same_Some (mark_within f k) m (sym (first_within f fs k (omega arith) (omega (arith, at, all.1))) ∙ is))
]

module _ (f g : Fragment) (fs gs : List Fragment) (stop : ℕ) (same : (k : ℕ) → mark_at (f ∷ fs) k ≡ mark_at (g ∷ gs) k) where
  starts-le : AreBetween f.at stop (f ∷ fs) → AreBetween g.at stop (g ∷ gs) → g.at ≤ f.at
  starts-le of_f of_g = elim (cases_lt f.at g.at) [
    | inl before ↦
        let none = mark_before g.at stop (g ∷ gs) f.at of_g before in
        let some = first_within f fs f.at (omega arith) (omega (arith, of_f.1)) in
        absurd (none-some (mark_within f f.at) (sym none ∙ sym (same f.at) ∙ some))
    | inr le ↦ le
  ]

  -- two that begin alike have one piece from one place on
  record BeginAlike : Type 0 where
    piece : f.piece ≡ g.piece
    from : f.from ≡ g.from

  begin-alike : AreBetween f.at stop (f ∷ fs) → AreBetween g.at stop (g ∷ gs) → f.at ≡ g.at → BeginAlike
  begin-alike of_f of_g at =
      let one = first_within f fs f.at (omega arith) (omega (arith, of_f.1)) in
      let other = first_within g gs f.at (omega (arith, at)) (omega (arith, at, of_g.1)) in
      let mark = same_Some (mark_within f f.at) (mark_within g f.at) (sym one ∙ same f.at ∙ other) in
      record {
        piece = λ i. record { line = (mark i).line; part = (mark i).part };
        from = let place = ap (λ m. m.place) mark in omega (arith, place, at);
      }

  -- and the second is as long, since else the next one would go on where it ends
  ends-le : AreBetween f.at stop (f ∷ fs) → AreBetween g.at stop (g ∷ gs) → AreMaximal (g ∷ gs) → f.at ≡ g.at → f.len ≤ g.len
  ends-le of_f of_g maximal at = elim (cases_lt g.len f.len) [
    | inl shorter ↦
        let there = first_within f fs (end_of g) (omega (arith, at)) (omega (arith, at)) in
        let beyond = first_outside g gs (end_of g) (inr (omega arith)) in
        absurd (by gs of_g.3 maximal (sym beyond ∙ sym (same (end_of g)) ∙ there))
    | inr le ↦ le
  ]
    where
      alike : BeginAlike
      alike = begin-alike of_f of_g at

      by : (hs : List Fragment) → AreBetween (end_of g) stop hs → AreMaximal (g ∷ hs)
          → mark_at hs (end_of g) ≡ Some (mark_within f (end_of g)) → ⊥
      by [] all max is = none-some (mark_within f (end_of g)) is
      by (h ∷ hs) all max is =
          let begins = begins-there h hs stop (end_of g) (mark_within f (end_of g)) all is in
          let place = ap (λ m. m.place) begins.1 in
          let mark = begins.1 in
          let piece : h.piece ≡ g.piece = (λ i. record { line = (mark i).line; part = (mark i).part }) ∙ alike.piece in
          let goes : goes_on g h ≡ true =
          and_from (h.at == end_of g && piece_eq h.piece g.piece) (h.from == g.from + g.len)
          (and_from (h.at == end_of g) (piece_eq h.piece g.piece) (eq-eqb h.at (end_of g) begins.0)
          (ap (λ p. piece_eq p g.piece) piece ∙ piece_eq_equiv.refl g.piece))
          (eq-eqb h.from (g.from + g.len) (omega (arith, place, begins.0, alike.from, at))) in
          true≢false (sym goes ∙ max.0)

AreMaximal-tail : (f : Fragment) (fs : List Fragment) → AreMaximal (f ∷ fs) → AreMaximal fs
AreMaximal-tail f [] all = tt
AreMaximal-tail f (g ∷ gs) all = all.1

-- two lists of fragments that are in order, each as long as it can be, are one where their marks are the same
same_fragments : (fs gs : List Fragment) (start stop : ℕ) → AreBetween start stop fs → AreBetween start stop gs → AreMaximal fs
    → AreMaximal gs → ((k : ℕ) → mark_at fs k ≡ mark_at gs k) → fs ≡ gs
same_fragments [] [] start stop of_f of_g max_f max_g same = refl
same_fragments [] (g ∷ gs) start stop of_f of_g max_f max_g same =
    absurd (none-some (mark_within g g.at) (same g.at ∙ first_within g gs g.at (omega arith) (omega (arith, of_g.1))))
same_fragments (f ∷ fs) [] start stop of_f of_g max_f max_g same =
    absurd (none-some (mark_within f f.at) (sym (same f.at) ∙ first_within f fs f.at (omega arith) (omega (arith, of_f.1))))
same_fragments (f ∷ fs) (g ∷ gs) start stop of_f of_g max_f max_g same =
    let of_f' : AreBetween f.at stop (f ∷ fs) = (omega arith, of_f.1, of_f.2, of_f.3) in
    let of_g' : AreBetween g.at stop (g ∷ gs) = (omega arith, of_g.1, of_g.2, of_g.3) in
    let same' = λ (k : ℕ). sym (same k) in
    let at : f.at ≡ g.at = omega (arith, starts-le f g fs gs stop same of_f' of_g', starts-le g f gs fs stop same' of_g' of_f') in
    let len : f.len ≡ g.len =
    omega (arith, ends-le f g fs gs stop same of_f' of_g' max_g at, ends-le g f gs fs stop same' of_g' of_f' max_f (sym at)) in
    let alike = begin-alike f g fs gs stop same of_f' of_g' at in
    let ends : end_of g ≡ end_of f = omega (arith, at, len) in
    let later = subst (λ k. AreBetween k stop gs) ends of_g.3 in
    let rest = same_fragments fs gs (end_of f) stop of_f.3 later (AreMaximal-tail f fs max_f) (AreMaximal-tail g gs max_g)
    (λ k. elim (cases_lt k (end_of f)) [
      | inl before ↦ mark_before (end_of f) stop fs k of_f.3 before ∙ sym (mark_before (end_of f) stop gs k later before)
      | inr past ↦ sym (first_outside f fs k (inr past)) ∙ same k ∙ first_outside g gs k (inr (omega (arith, ends)))
    ]) in
    λ i. record { at = at i; len = len i; piece = alike.piece i; from = alike.from i } ∷ rest i

-- fragments that are in order, none empty, each as long as it can be, and that have these marks, are their runs
pub runs-unique : (marks : List (Option Mark)) (fs : List Fragment) → All (λ f. 0 < f.len) fs → AllPairs (λ f g. end_of f ≤ g.at) fs
    → All (λ f. end_of f ≤ length marks) fs → AreMaximal fs → ((k : ℕ) → k < length marks → mark_at fs k ≡ get_or marks k None)
    → fs ≡ runs marks
runs-unique marks fs some order ends maximal same =
    let all = AreBetween-from_places 0 (length marks) fs (λ k d below. omega arith) some ends order in
    same_fragments fs (runs marks) 0 (length marks) all (AreBetween-runs marks) maximal (AreMaximal-runs marks) (λ k.
    elim (cases_lt k (length marks)) [
      | inl below ↦ same k below ∙ sym (mark_at-of marks k)
      | inr past ↦ mark_past 0 (length marks) fs k all past ∙ sym (mark_at-of marks k ∙ get_or_past marks k None past)
    ])
