-- What a cut makes of a file, and which holds come out of one over which a push was put, and which was cut then.
use Rattle.fs_types.proofs.Common.{◌≡◌, ℕ, Bool, true, false, List, [], ◌++◌, Some, None, is_some, if◌then◌else◌}
use Rattle.fs_types.proofs.Common.{All, All-append, All-weaker, Contains-append_left, Contains-append_right, sym, ap, ◌∙◌, subst}
use Rattle.fs_types.proofs.Common.{cases_Bool, cond-false, cond-true, false_from_ne_true, inl, inr, none-some, true≢false}
use Rattle.fs_types.specs.Fragments.{piece_eq}
use Rattle.fs_types.specs.Pieces.{Fragment, Piece}
use Rattle.span_list.proofs.CallerLemmas.{AllPairs-append}
use Rattle.piece_table.specs.HeldSpans.{AreGone, AreHeld, Cuts, HandsOver, Held, PutsAll, is_named, while_named}
use Rattle.piece_table.proofs.CallerLemmas.{same_piece}
use Rattle.owner_book.specs.Kept.{BookFile}
use Rattle.owner_book.specs.Truncations.{beside, with_size}

-- what cutting a file gives is one thing
pub cut-file : {H : Type 0} (size : ℕ) (f : BookFile H) (new : Held H) → Cuts size f.held new
    → record { size = size; frozen = f.frozen; held = new } ≡ with_size size f
cut-file size f new cuts = λ i. record {
  size = size;
  frozen = f.frozen;
  held = record {
    fragments = cuts.fragments i;
    hold_of = λ q. (cuts.holds q ∙ ap (λ (fs : List Fragment). while_named fs f.held.hold_of q) cuts.fragments) i;
  };
}

-- what comes out into an empty list is what is gone
pub handed-one : {H : Type 0} (piece : H → Piece) (old new : Held H) (dead after : List H) → dead ≡ [] → HandsOver piece old new dead after
    → AreGone piece old new after
handed-one piece old new dead after none handed =
    subst (AreGone piece old new) (sym (handed.1 ∙ ap (λ hs. hs ++ handed.0) none)) handed.2

-- A push is put over what is old, and of what that gives the bytes from a place on are dropped. No piece of the push is old.
module _ {H : Type 0} (is_ready : H → Bool) (piece : H → Piece) (byte_count : H → ℕ) (over old put cut : Held H) (size : ℕ)
    (puts : PutsAll over old put) (cuts : Cuts size put cut)
    (put_held : AreHeld is_ready piece byte_count put) (cut_held : AreHeld is_ready piece byte_count cut)
    (apart : (q : Piece) → is_named over.fragments q ≡ true → old.hold_of q ≡ None) where
  -- what has a hold after the put is named, and what is named has the hold that it had
  named : (q : Piece) (h : H) → put.hold_of q ≡ Some h → is_named put.fragments q ≡ true
  named q h is = sym (put_held.named q) ∙ ap is_some is

  kept : (q : Piece) → is_named put.fragments q ≡ true → put.hold_of q ≡ (beside over old).hold_of q
  kept q is = puts.holds q
      ∙ ap (λ o. if is_named over.fragments q then over.hold_of q else o) (cond-true (is_named put.fragments q) (old.hold_of q) None is)

  -- an old hold is of a piece that the push doesn't name
  was : (q : Piece) (h : H) → old.hold_of q ≡ Some h → (beside over old).hold_of q ≡ Some h
  was q h is = elim (cases_Bool (is_named over.fragments q)) [
    | inl new ↦ absurd (none-some h (sym (apart q new) ∙ is))
    | inr other ↦ cond-false (is_named over.fragments q) (over.hold_of q) (old.hold_of q) other ∙ is
  ]

  -- and what isn't named after the put had an old hold, if any
  was-old : (q : Piece) (h : H) → (beside over old).hold_of q ≡ Some h → is_named put.fragments q ≡ false → old.hold_of q ≡ Some h
  was-old q h is unnamed = elim (cases_Bool (is_named over.fragments q)) [
    | inl new ↦
        let one = cond-true (is_named over.fragments q) (over.hold_of q) (old.hold_of q) new in
        let here = puts.holds q ∙ cond-true (is_named over.fragments q) (over.hold_of q) _ new ∙ sym one ∙ is in
        absurd (true≢false (sym (named q h here) ∙ unnamed))
    | inr other ↦ sym (cond-false (is_named over.fragments q) (over.hold_of q) (old.hold_of q) other) ∙ is
  ]

  -- a cut names no more
  unnamed-then : (q : Piece) → is_named put.fragments q ≡ false → is_named cut.fragments q ≡ false
  unnamed-then q unnamed = false_from_ne_true (is_named cut.fragments q) (λ is.
      let same = cuts.holds q ∙ cond-true (is_named cut.fragments q) (put.hold_of q) None is in
      true≢false (sym is ∙ sym (cut_held.named q) ∙ ap is_some same ∙ put_held.named q ∙ unnamed))

  -- what the put gives out, and then the cut, is what is gone of both
  gone-both : (gone more : List H) → AreGone piece old put gone → AreGone piece put cut more → AreGone piece (beside over old) cut (gone ++ more)
  gone-both gone more first last = record {
    held = All-append (λ h. (beside over old).hold_of (piece h) ≡ Some h) gone more
        (All-weaker (λ h. old.hold_of (piece h) ≡ Some h) (λ h. (beside over old).hold_of (piece h) ≡ Some h) (λ h. was (piece h) h)
        gone first.held)
        (All-weaker (λ h. put.hold_of (piece h) ≡ Some h) (λ h. (beside over old).hold_of (piece h) ≡ Some h)
        (λ h is. sym (kept (piece h) (named (piece h) h is)) ∙ is) more last.held);
    unnamed = All-append (λ h. is_named cut.fragments (piece h) ≡ false) gone more
        (All-weaker (λ h. is_named put.fragments (piece h) ≡ false) (λ h. is_named cut.fragments (piece h) ≡ false)
        (λ h. unnamed-then (piece h)) gone first.unnamed)
        last.unnamed;
    each = λ q h is unnamed. elim (cases_Bool (is_named put.fragments q)) [
      | inl there ↦ Contains-append_right gone more h (last.each q h (kept q there ∙ is) unnamed)
      | inr none ↦ Contains-append_left gone more h (first.each q h (was-old q h is none) none)
    ];
    once = AllPairs-append (λ g h. piece_eq (piece g) (piece h) ≡ false) gone more first.once last.once
        (All-weaker (λ g. is_named put.fragments (piece g) ≡ false) (λ g. All (λ h. piece_eq (piece g) (piece h) ≡ false) more)
        (λ g unnamed. All-weaker (λ h. put.hold_of (piece h) ≡ Some h) (λ h. piece_eq (piece g) (piece h) ≡ false)
        (λ h is. false_from_ne_true (piece_eq (piece g) (piece h)) (λ same.
        true≢false (sym (named (piece h) h is) ∙ ap (is_named put.fragments) (sym (same_piece (piece g) (piece h) same)) ∙ unnamed)))
        more last.held) gone first.unnamed);
  }

  pub handed-both : (dead between after : List H) → dead ≡ [] → HandsOver piece old put dead between → HandsOver piece put cut between after
      → AreGone piece (beside over old) cut after
  handed-both dead between after none first last =
      subst (AreGone piece (beside over old) cut) (sym (last.1 ∙ ap (λ hs. hs ++ last.0) (first.1 ∙ ap (λ hs. hs ++ first.0) none)))
      (gone-both first.0 last.0 first.2 last.2)
