-- How many fragments name a piece, after a put, and where its marks stand.
use Rattle.fs_types.proofs.Common.{◌≡◌, ℕ, ◌<◌, List, [], ◌∷◌, All, arith, Bool, true, false, ◌==◌, ◌&&◌, cond}
use Rattle.fs_types.proofs.Common.{Option, Some, None, nat_tests, ◌∙◌, ap, sum_by-cons, false≢true, cond_both, cond-true}
use Rattle.fs_types.proofs.Common.{cond-false, sym}
use Rattle.fs_types.proofs.Common.{All-head, All-tail, cases_Bool, inl, inr, ltb-true, and_parts}
use Rattle.std.specs.Prelude.{AllPairs}
use Rattle.fs_types.specs.Fragments.{end_of, piece_eq, fragment_count}
use Rattle.fs_types.specs.FragmentMarks.{is_within, mark_at, mark_within}
use Rattle.fs_types.specs.Marks.{Mark}
use Rattle.fs_types.specs.Pieces.{Fragment, Piece}
use Rattle.span_list.specs.Spans.{IsSpan, AreSpans}
use Rattle.span_list.proofs.PlainLists.{AllPairs-tail}
use Rattle.span_list.proofs.Parts.{IsAhead}
use Rattle.span_list.proofs.Marks.{mark_at-behind}

-- a mark is of a byte of a piece
abbrev pub is_mark_of : Piece → Option Mark → Bool
is_mark_of p None = false
is_mark_of p (Some m) = m.line == p.line && m.part == p.part

-- a piece of which some place has a mark is named
pub named-from_mark : (p : Piece) (fs : List Fragment) (k : ℕ) → is_mark_of p (mark_at fs k) ≡ true → 0 < fragment_count p fs
named-from_mark p [] k marked = absurd (false≢true marked)
named-from_mark p (f ∷ fs) k marked =
    let count = sum_by-cons (λ g. cond (piece_eq g.piece p) 1 0) f fs in
    cond_both (is_within f k) (Some (mark_within f k)) (mark_at fs k) (λ m. is_mark_of p m ≡ true → 0 < fragment_count p (f ∷ fs))
    (λ _ named. let one = cond-true {A = ℕ} (piece_eq f.piece p) 1 0 named in omega (arith, count, one))
    (λ _ later. omega (arith, count, named-from_mark p fs k later))
    marked

-- of a piece that is named, some place has a mark
mark-of_named : (p : Piece) (fs : List Fragment) → All IsSpan fs → AllPairs IsAhead fs → 0 < fragment_count p fs
    → (k : ℕ) × (is_mark_of p (mark_at fs k) ≡ true)
mark-of_named p [] spans ordered named = absurd (omega arith)
mark-of_named p (f ∷ fs) spans ordered named =
    let count = sum_by-cons (λ g. cond (piece_eq g.piece p) 1 0) f fs in
    let span : IsSpan f = All-head IsSpan f fs spans in
    elim (cases_Bool (piece_eq f.piece p)) [
      | inl same ↦ (
        f.at,
        cond_both (is_within f f.at) (Some (mark_within f f.at)) (mark_at fs f.at) (λ m. is_mark_of p m ≡ true)
            (λ _. same) (λ outside. let no : ⊥ = grind (arith, nat_tests) in absurd no),
      )
      | inr differ ↦
          let zero = cond-false {A = ℕ} (piece_eq f.piece p) 1 0 differ in
          let there : (k : ℕ) × (is_mark_of p (mark_at fs k) ≡ true) =
          mark-of_named p fs (All-tail IsSpan f fs spans) (AllPairs-tail IsAhead f fs ordered) (omega (arith, count, zero)) in (
            there.0,
            cond_both (is_within f there.0) (Some (mark_within f there.0)) (mark_at fs there.0) (λ m. is_mark_of p m ≡ true)
                (λ inside. let none = mark_at-behind f fs there.0 ordered (ltb-true there.0 (end_of f) (and_parts _ _ inside).1) in
                absurd (false≢true (ap (is_mark_of p) (sym none) ∙ there.1)))
                (λ _. there.1),
          )
    ]

pub mark-from_named : (p : Piece) (fs : List Fragment) → AreSpans fs → 0 < fragment_count p fs
    → (k : ℕ) × (is_mark_of p (mark_at fs k) ≡ true)
mark-from_named p fs spans named = mark-of_named p fs spans.each spans.in_order named
