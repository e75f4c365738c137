-- The marks of fragments that were put over others: which piece stands at each place.
use Rattle.std.specs.Option.{option_or}
use Rattle.std.specs.Prelude.{AllPairs}
use Rattle.fs_types.proofs.Common.{◌≡◌, ℕ, ◌<◌, true, leb, ltb, List, [], ◌∷◌, Option, Some, None, refl, sym, ap, ◌∙◌, arith}
use Rattle.fs_types.proofs.Common.{All-weaker, cases_Bool, inl, inr, cond-true, cond-false, and_parts, ltb-true, false≢true}
use Rattle.span_list.proofs.CallerLemmas.{is_mark_of, mark_at-ahead, mark_at-put, mark-from_named, named-from_mark}
use Rattle.span_list.proofs.CallerLemmas.{AllPairs-head, AllPairs-tail, IsAhead}
use Rattle.fs_types.specs.FragmentMarks.{is_within, mark_at, mark_within}
use Rattle.fs_types.specs.Fragments.{end_of}
use Rattle.fs_types.specs.Marks.{Mark}
use Rattle.fs_types.specs.Pieces.{Fragment, Piece}
use Rattle.span_list.specs.Spans.{AreSpans, put_fragment}
use Rattle.piece_table.specs.HeldSpans.{is_named, put_fragments}
use Rattle.piece_table.proofs.Counts.{named_some, some_named}

-- a place has the mark of the fragments that were put, and where they have none the mark that it had
pub mark_at-put_ordered : (over fs : List Fragment) (k : ℕ) → AllPairs IsAhead over
    → mark_at (put_fragments over fs) k ≡ option_or (mark_at over k) (mark_at fs k)
mark_at-put_ordered [] fs k ordered = refl
mark_at-put_ordered (f ∷ over) fs k ordered =
    let rest = mark_at-put_ordered over (put_fragment f fs) k (AllPairs-tail IsAhead f over ordered) in
    elim (cases_Bool (is_within f k)) [
      | inl within ↦
          let before : k < end_of f = ltb-true k (end_of f) (and_parts (leb f.at k) (ltb k (end_of f)) within).1 in
          let none : mark_at over k ≡ None = mark_at-ahead over k
          (All-weaker (IsAhead f) (λ g. k < g.at) (λ g ahead. omega (arith, ahead)) over (AllPairs-head IsAhead f over ordered)) in
          rest ∙ ap (λ o. option_or o (mark_at (put_fragment f fs) k)) none ∙ mark_at-put f fs k
          ∙ cond-true _ (Some (mark_within f k)) (mark_at fs k) within
          ∙ sym (ap (λ o. option_or o (mark_at fs k)) (cond-true _ (Some (mark_within f k)) (mark_at over k) within))
      | inr without ↦
          rest ∙ ap (option_or (mark_at over k)) (mark_at-put f fs k ∙ cond-false _ (Some (mark_within f k)) (mark_at fs k) without)
          ∙ sym (ap (λ o. option_or o (mark_at fs k)) (cond-false _ (Some (mark_within f k)) (mark_at over k) without))
    ]

pub mark_at-put_fragments : (over fs : List Fragment) (k : ℕ) → AreSpans over
    → mark_at (put_fragments over fs) k ≡ option_or (mark_at over k) (mark_at fs k)
mark_at-put_fragments over fs k spans = mark_at-put_ordered over fs k spans.in_order

-- what stands at a place where a mark of a piece is put over others
marked_or : (q : Piece) (a b : Option Mark) → is_mark_of q a ≡ true → is_mark_of q (option_or a b) ≡ true
marked_or q None b marked = absurd (false≢true marked)
marked_or q (Some m) b marked = marked

-- a piece that is named by those that were put is named then
pub named_put : (q : Piece) (over fs : List Fragment) → AreSpans over → is_named over q ≡ true → is_named (put_fragments over fs) q ≡ true
named_put q over fs spans named =
    let there = mark-from_named q over spans (named_some q over named) in
    some_named q (put_fragments over fs) (named-from_mark q (put_fragments over fs) there.0
    (ap (is_mark_of q) (mark_at-put_fragments over fs there.0 spans) ∙ marked_or q (mark_at over there.0) (mark_at fs there.0) there.1))
