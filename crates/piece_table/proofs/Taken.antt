-- All of fragments with holds taken as a push: once no fragment is left, the holds that came out are those of the pieces that
-- the fragments named.
use Rattle.fs_types.proofs.Common.{◌≡◌, ℕ, ◌+◌, ◌<◌, ◌≤◌, Bool, true, false, List, [], ◌∷◌, ◌++◌, Option, Some, None, is_some}
use Rattle.fs_types.proofs.Common.{refl, sym, ap, ◌∙◌, subst, arith, cond, cond-true, cond-false, cases_Bool, inl, inr}
use Rattle.fs_types.proofs.Common.{All, All-head, All-map, All-tail, All-weaker, Contains, count_by, get_or, sum_by-cons, false≢true}
use Rattle.std.specs.List.{find, AllPairs}
use Rattle.std.proofs.lemmas.List.Sums.{sum_by_more_le}
use Rattle.span_list.proofs.CallerLemmas.{AllPairs-head, AllPairs-tail}
use Rattle.fs_types.specs.Fragments.{AreHeldFragments, LiesWithin, end_of, fragment_count, held_pieces, piece_eq}
use Rattle.fs_types.specs.Pieces.{Fragment, Piece}
use Rattle.fs_types.specs.declared.limits.TheConstants.{LONGEST_FILE}
use Rattle.span_list.specs.Spans.{IsSpan}
use Rattle.piece_table.specs.HeldSpans.{AreGone, AreHeld, HandsOver, Held, is_named}
use Rattle.piece_table.proofs.Counts.{All-named, named_some}
use Rattle.piece_table.proofs.Entered.{AreApart, is_of}
use Rattle.piece_table.proofs.Pushed.{as_held, counts_same, find-All, find-passes, find-some}
use Rattle.piece_table.proofs.Tables.{piece_eq-comm, piece_eq-itself, same_piece}

module _ {H : Type 0} (piece : H → Piece) where
  -- what is in a list is counted there
  some_of : (q : Piece) (hs : List H) (h : H) → Contains hs h → piece h ≡ q → 0 < count_by (is_of piece q) hs
  some_of q hs h there of_q =
      let k : ℕ = there.0 in
      let same : piece (get_or hs k h) ≡ q = ap piece there.2 ∙ of_q in
      omega (
        arith,
        cond-true {A = ℕ} (is_of piece q (get_or hs k h)) 1 0 (ap (λ p. piece_eq p q) same ∙ piece_eq-itself q),
        sum_by_more_le (λ g. cond (is_of piece q g) 1 0) hs k h there.1,
      )

  -- where none is of a piece, none is counted
  none_of : (q : Piece) (hs : List H) → All (λ h. is_of piece q h ≡ false) hs → count_by (is_of piece q) hs ≡ 0
  none_of q [] none = refl
  none_of q (h ∷ hs) none =
      omega (
        arith,
        sum_by-cons (λ g. cond (is_of piece q g) 1 0) h hs,
        cond-false {A = ℕ} (is_of piece q h) 1 0 (All-head (λ g. is_of piece q g ≡ false) h hs none),
        none_of q hs (All-tail (λ g. is_of piece q g ≡ false) h hs none),
      )

  -- of holds that are of different pieces at most one is of a piece
  pub few_of : (q : Piece) (hs : List H) → AllPairs (AreApart piece) hs → count_by (is_of piece q) hs ≤ 1
  few_of q [] apart = omega arith
  few_of q (h ∷ hs) apart = elim (cases_Bool (is_of piece q h)) [
    | inl same ↦
        let others : All (λ g. is_of piece q g ≡ false) hs =
        subst (λ p. All (λ g. is_of piece p g ≡ false) hs) (same_piece (piece h) q same)
        (All-weaker (AreApart piece h) (λ g. is_of piece (piece h) g ≡ false) (λ g apart. piece_eq-comm (piece g) (piece h) ∙ apart) hs
        (AllPairs-head (AreApart piece) h hs apart)) in
        omega (
          arith,
          sum_by-cons (λ g. cond (is_of piece q g) 1 0) h hs,
          cond-true {A = ℕ} (is_of piece q h) 1 0 same,
          none_of q hs others,
        )
    | inr other ↦ omega (
      arith,
      sum_by-cons (λ g. cond (is_of piece q g) 1 0) h hs,
      cond-false {A = ℕ} (is_of piece q h) 1 0 other,
      few_of q hs (AllPairs-tail (AreApart piece) h hs apart),
    )
  ]

  -- what came out is all of a list that had nothing before
  pub all_gone : (old new : Held H) (before holds : List H) → before ≡ [] → HandsOver piece old new before holds
      → AreGone piece old new holds
  all_gone old new before holds empty out =
      subst (AreGone piece old new) (sym (out.1 ∙ ap (λ us. us ++ out.0) empty)) out.2

module _ {H : Type 0} (is_ready : H → Bool) (piece : H → Piece) (bytes : H → ℕ) (old new : Held H)
    (are_held : AreHeld is_ready piece bytes old) (none : new.fragments ≡ []) (gone : List H) (out : AreGone piece old new gone) where
  -- the hold of each piece came out
  there : (q : Piece) (h : H) → old.hold_of q ≡ Some h → Contains gone h
  there q h is = out.each q h is (ap (λ fs. is_named fs q) none)

  -- and so it is counted among them
  some_gone : (q : Piece) (h : H) → old.hold_of q ≡ Some h → 0 < count_by (is_of piece q) gone
  some_gone q h is = some_of piece q gone h (there q h is) (are_held.piece q h is)

  -- what is found of a piece is the hold that it had
  pub found_gone : (q : Piece) → find (is_of piece q) gone ≡ old.hold_of q
  found_gone q = by (old.hold_of q) refl (find (is_of piece q) gone) refl
    where
      by : (o : Option H) → old.hold_of q ≡ o → (found : Option H) → find (is_of piece q) gone ≡ found
          → find (is_of piece q) gone ≡ old.hold_of q
      by o was (Some h) is =
          is
          ∙ sym (find-All (λ g. old.hold_of (piece g) ≡ Some g) (is_of piece q) gone h out.held is)
          ∙ ap old.hold_of (same_piece (piece h) q (find-passes (is_of piece q) gone h is))
      by None was None is = is ∙ sym was
      by (Some h) was None is =
          absurd (false≢true (ap is_some (sym is) ∙ find-some (is_of piece q) gone (some_gone q h was)))

  -- a piece that some fragment names has one hold among them
  one_gone : (q : Piece) → is_named old.fragments q ≡ true → count_by (is_of piece q) gone ≡ 1
  one_gone q named = by (old.hold_of q) refl
    where
      by : (o : Option H) → old.hold_of q ≡ o → count_by (is_of piece q) gone ≡ 1
      by None was = absurd (false≢true (ap is_some (sym was) ∙ are_held.named q ∙ named))
      by (Some h) was = omega (arith, some_gone q h was, few_of piece q gone out.once)

  -- the fragments with these holds may be sent
  pub held_gone : AreHeldFragments LONGEST_FILE old.fragments (held_pieces piece bytes gone)
  held_gone = record {
    have_bytes = All-weaker IsSpan (λ f. 0 < f.len) (λ f span. span.has_bytes) old.fragments are_held.spans.each;
    in_order = are_held.spans.in_order;
    in_file = All-weaker IsSpan (λ f. end_of f ≤ LONGEST_FILE) (λ f span. span.in_file) old.fragments are_held.spans.each;
    in_piece = λ k d within.
        let f : Fragment = get_or old.fragments k d in
        All-map (LiesWithin f) (as_held piece bytes) gone
        (All-weaker (λ h. old.hold_of (piece h) ≡ Some h) (λ h. piece h ≡ f.piece → f.from + f.len ≤ bytes h)
        (λ h is same. are_held.within k d within h (ap old.hold_of (sym same) ∙ is)) gone out.held);
    one_hold = λ k d within.
        let f : Fragment = get_or old.fragments k d in
        counts_same piece bytes f.piece gone ∙ one_gone f.piece (All-named old.fragments k d within);
    named = All-map (λ h. 0 < fragment_count h.piece old.fragments) (as_held piece bytes) gone
        (All-weaker (λ h. old.hold_of (piece h) ≡ Some h) (λ h. 0 < fragment_count (piece h) old.fragments)
        (λ h is. named_some (piece h) old.fragments (sym (are_held.named (piece h)) ∙ ap is_some is)) gone out.held);
  }
