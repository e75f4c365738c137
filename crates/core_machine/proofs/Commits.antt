-- Which holds go, and which stay, where an event leaves nothing pending: those of the pieces, of the file and of what was pending, of
-- which no byte is left in the file.
use Rattle.fs_types.proofs.Common.{◌≡◌, ℕ, ◌||◌, true, false, List, [], ◌++◌, Some, None, is_some, if◌then◌else◌}
use Rattle.fs_types.proofs.Common.{All, All-append, All-contains, All-nil, All-weaker, Contains, Contains-append_left, Contains-append_right}
use Rattle.fs_types.proofs.Common.{sym, ap, ◌∙◌, ◌⊎◌, inl, inr, cases_Bool, cond-true, cond-false, none-some, subst}
use Rattle.fs_types.proofs.Common.{false_from_ne_true, false≢true, true≢false}
use Rattle.std.proofs.Math.Bool.{or-false, or-true}
use Rattle.fs_types.specs.Fragments.{piece_eq}
use Rattle.slot_plain.specs.Log.{Log}
use Rattle.fs_script.specs.Vocabulary.{Job, Piece}
use Rattle.fs_script.proofs.CallerLemmas.{some_of}
use Rattle.fs_script.proofs.PlainLists.{none_from-is_some}
use Rattle.span_list.proofs.CallerLemmas.{AllPairs-append, AllPairs-nil}
use Rattle.piece_table.specs.HeldSpans.{AreGone, Cuts, Held, PutsAll, is_named}
use Rattle.piece_table.proofs.CallerLemmas.{same_piece}
use Rattle.owner_book.specs.Kept.{held_in}
use Rattle.owner_book.specs.Truncations.{beside}
use Rattle.core_machine.specs.ClientPath.{ClientPath}
use Rattle.core_machine.specs.Kept.{OwnedPath}
use Rattle.core_machine.specs.declared.plain_hold.PlainHold.{PlainHold}
use Rattle.core_machine.specs.declared.task.Task.TheVariants.{Idle}
use Rattle.core_machine.specs.Follows.{KeptStand}
use Rattle.core_machine.specs.HoldsKept.{keeps}
use Rattle.core_machine.specs.Kept.{file_hold, pending_hold}
use Rattle.core_machine.specs.PlainHolds.{AreHeldPlain}
use Rattle.core_machine.proofs.LetGo.{LeavesKept, stands}

-- what is pending and what the file has, as one
abbrev pub kept_held : OwnedPath → ClientPath → Held PlainHold
kept_held x k = beside k.pending.held (held_in x.path.file)

-- an event left nothing pending, and of what was kept these holds went: those of the pieces that the file doesn't name then, while
-- each that it names has the hold that it had
pub record Empties (x y : OwnedPath) (k l : ClientPath) (gone : List PlainHold) : Type 0 where
  pub emptied : (q : Piece) → pending_hold l q ≡ None
  pub holds : (q : Piece) → file_hold y.path.file q
      ≡ (if is_named (held_in y.path.file).fragments q then (kept_held x k).hold_of q else None)
  pub are_gone : AreGone (λ h. h.piece) (kept_held x k) (held_in y.path.file) gone

-- ---- what was kept

module _ (x : OwnedPath) (k : ClientPath) (pending : AreHeldPlain k.pending.held) where
  -- it is the file's, or what was pending
  either : (q : Piece) (h : PlainHold) → (kept_held x k).hold_of q ≡ Some h
      → (file_hold x.path.file q ≡ Some h) ⊎ (pending_hold k q ≡ Some h)
  either q h is = elim (cases_Bool (is_named k.pending.held.fragments q)) [
    | inl named ↦ inr (sym (cond-true (is_named k.pending.held.fragments q) (pending_hold k q) (file_hold x.path.file q) named) ∙ is)
    | inr other ↦ inl (sym (cond-false (is_named k.pending.held.fragments q) (pending_hold k q) (file_hold x.path.file q) other) ∙ is)
  ]

  keeps-held : (q : Piece) → keeps x k q ≡ is_some ((kept_held x k).hold_of q)
  keeps-held q = elim (cases_Bool (is_named k.pending.held.fragments q)) [
    | inl named ↦
        let some : is_some (pending_hold k q) ≡ true = pending.named q ∙ named in
        ap (λ b. is_some (file_hold x.path.file q) || b) some ∙ or-true (is_some (file_hold x.path.file q)) ∙ sym some
        ∙ ap is_some (sym (cond-true (is_named k.pending.held.fragments q) (pending_hold k q) (file_hold x.path.file q) named))
    | inr other ↦
        ap (λ b. is_some (file_hold x.path.file q) || b) (pending.named q ∙ other) ∙ or-false (is_some (file_hold x.path.file q))
        ∙ ap is_some (sym (cond-false (is_named k.pending.held.fragments q) (pending_hold k q) (file_hold x.path.file q) other))
  ]

  -- ---- what of it stays

  module _ (y : OwnedPath) (l : ClientPath) (gone : List PlainHold) (empties : Empties x y k l gone) where
    -- what the file names then has the hold that was kept
    named-then : (q : Piece) → is_named (held_in y.path.file).fragments q ≡ true → file_hold y.path.file q ≡ (kept_held x k).hold_of q
    named-then q named = empties.holds q
        ∙ cond-true (is_named (held_in y.path.file).fragments q) ((kept_held x k).hold_of q) None named

    unnamed-then : (q : Piece) → is_named (held_in y.path.file).fragments q ≡ false → file_hold y.path.file q ≡ None
    unnamed-then q other = empties.holds q
        ∙ cond-false (is_named (held_in y.path.file).fragments q) ((kept_held x k).hold_of q) None other

    keeps-then : (q : Piece) → keeps y l q ≡ is_some (file_hold y.path.file q)
    keeps-then q =
        ap (λ o. is_some (file_hold y.path.file q) || is_some o) (empties.emptied q) ∙ or-false (is_some (file_hold y.path.file q))

    from_kept : (q : Piece) (h : PlainHold) → file_hold y.path.file q ≡ Some h
        → (file_hold x.path.file q ≡ Some h) ⊎ (pending_hold k q ≡ Some h)
    from_kept q h is = elim (cases_Bool (is_named (held_in y.path.file).fragments q)) [
      | inl named ↦ either q h (sym (named-then q named) ∙ is)
      | inr other ↦ absurd (none-some h (sym (unnamed-then q other) ∙ is))
    ]

    -- a piece that the file has then was kept
    pub kept-before : (q : Piece) → is_some (file_hold y.path.file q) ≡ true → keeps x k q ≡ true
    kept-before q there = elim (cases_Bool (is_named (held_in y.path.file).fragments q)) [
      | inl named ↦ keeps-held q ∙ ap is_some (sym (named-then q named)) ∙ there
      | inr other ↦ absurd (false≢true (sym (ap is_some (unnamed-then q other)) ∙ there))
    ]

    module _ (s : Job) (logs : List Log) (stand : KeptStand s logs x k Idle) where
      -- a piece that isn't named then and whose hold didn't go had none
      had-none : (q : Piece) → ((h : PlainHold) → Contains gone h → h.piece ≡ q → ⊥) → is_named (held_in y.path.file).fragments q ≡ false
          → is_some ((kept_held x k).hold_of q) ≡ false
      had-none q none other = false_from_ne_true (is_some ((kept_held x k).hold_of q)) (λ some.
          let h = some_of ((kept_held x k).hold_of q) some in
          none h.0 (empties.are_gone.each q h.0 h.1 other) (stands s x k logs stand q h.0 (either q h.0 h.1)).0)

      pub leaves-emptied : LeavesKept x y k l gone
      leaves-emptied = record {
        kept = λ h is_gone. either h.piece h
            (All-contains (λ i. (kept_held x k).hold_of i.piece ≡ Some i) gone h empties.are_gone.held is_gone);
        no_more = λ h is_gone. keeps-then h.piece ∙ ap is_some (unnamed-then h.piece
            (All-contains (λ i. is_named (held_in y.path.file).fragments i.piece ≡ false) gone h empties.are_gone.unnamed is_gone));
        others = λ q none. keeps-held q ∙ elim (cases_Bool (is_named (held_in y.path.file).fragments q)) [
          | inl named ↦ ap is_some (sym (named-then q named)) ∙ sym (keeps-then q)
          | inr other ↦ had-none q none other ∙ sym (keeps-then q ∙ ap is_some (unnamed-then q other))
        ];
        once = empties.are_gone.once;
        files = from_kept;
        pending = λ q h is. absurd (none-some h (sym (empties.emptied q) ∙ is));
      }

-- ---- pending writes beside a file

-- of what stays as it is no hold goes
pub gone-none : (old : Held PlainHold) → ((q : Piece) → is_some (old.hold_of q) ≡ is_named old.fragments q)
    → AreGone (λ (h : PlainHold). h.piece) old old []
gone-none old named = record {
  held = All-nil (λ (h : PlainHold). old.hold_of h.piece ≡ Some h);
  unnamed = All-nil (λ (h : PlainHold). is_named old.fragments h.piece ≡ false);
  each = λ q h held none. absurd (true≢false (sym (ap is_some held) ∙ named q ∙ none));
  once = AllPairs-nil (λ (g h : PlainHold). piece_eq g.piece h.piece ≡ false);
}

-- what is gone shows by the pieces that are named yet alone
pub gone-unnamed : (old new now : Held PlainHold) (gone : List PlainHold) → new.fragments ≡ now.fragments
    → AreGone (λ (h : PlainHold). h.piece) old new gone → AreGone (λ (h : PlainHold). h.piece) old now gone
gone-unnamed old new now gone same are = record {
  held = are.held;
  unnamed = subst (λ fs. All (λ (h : PlainHold). is_named fs h.piece ≡ false) gone) same are.unnamed;
  each = λ q h had other. are.each q h had (ap (λ fs. is_named fs q) same ∙ other);
  once = are.once;
}

-- pending writes with their holds, and those of a file, which have no piece in common
module _ (over old : Held PlainHold) (pending : AreHeldPlain over)
    (apart : (q : Piece) → is_some (over.hold_of q) ≡ true → old.hold_of q ≡ None) where
  was-old : (q : Piece) (h : PlainHold) → old.hold_of q ≡ Some h → (beside over old).hold_of q ≡ Some h
  was-old q h is = elim (cases_Bool (is_named over.fragments q)) [
    | inl named ↦ absurd (none-some h (sym (apart q (pending.named q ∙ named)) ∙ is))
    | inr other ↦ cond-false (is_named over.fragments q) (over.hold_of q) (old.hold_of q) other ∙ is
  ]

  was-over : (q : Piece) (h : PlainHold) → over.hold_of q ≡ Some h → (beside over old).hold_of q ≡ Some h
  was-over q h is =
      cond-true (is_named over.fragments q) (over.hold_of q) (old.hold_of q) (sym (pending.named q) ∙ ap is_some is) ∙ is

  -- where the file stays, each piece that it names has the hold that it had
  pub holds-same : AreHeldPlain old → (q : Piece) → old.hold_of q ≡ (if is_named old.fragments q then (beside over old).hold_of q else None)
  holds-same is_held q = elim (cases_Bool (is_named old.fragments q)) [
    | inl named ↦
        let h = some_of (old.hold_of q) (is_held.named q ∙ named) in
        h.1 ∙ sym (was-old q h.0 h.1) ∙ sym (cond-true (is_named old.fragments q) ((beside over old).hold_of q) None named)
    | inr other ↦ none_from-is_some (old.hold_of q) (is_held.named q ∙ other)
        ∙ sym (cond-false (is_named old.fragments q) ((beside over old).hold_of q) None other)
  ]

  -- and the holds of the pending ones went, where none of them is left
  pub gone-dropped : AreHeldPlain old → (now : Held PlainHold) (gone : List PlainHold) → now.fragments ≡ []
      → AreGone (λ (h : PlainHold). h.piece) over now gone → AreGone (λ (h : PlainHold). h.piece) over old gone
  gone-dropped is_held now gone none are = record {
    held = are.held;
    unnamed = All-weaker (λ (h : PlainHold). over.hold_of h.piece ≡ Some h) (λ h. is_named old.fragments h.piece ≡ false)
        (λ h had. sym (is_held.named h.piece) ∙ ap is_some (apart h.piece (ap is_some had))) gone are.held;
    each = λ q h had other. are.each q h had (ap (λ fs. is_named fs q) none);
    once = are.once;
  }

  -- where none is left, the holds of both went
  pub gone-beside : (new : Held PlainHold) (dead gone : List PlainHold) → AreGone (λ (h : PlainHold). h.piece) old new dead
      → AreGone (λ (h : PlainHold). h.piece) over new gone → AreGone (λ (h : PlainHold). h.piece) (beside over old) new (dead ++ gone)
  gone-beside new dead gone of_old of_over = record {
    held = All-append (λ (h : PlainHold). (beside over old).hold_of h.piece ≡ Some h) dead gone
        (All-weaker (λ (h : PlainHold). old.hold_of h.piece ≡ Some h) (λ h. (beside over old).hold_of h.piece ≡ Some h)
        (λ h. was-old h.piece h) dead of_old.held)
        (All-weaker (λ (h : PlainHold). over.hold_of h.piece ≡ Some h) (λ h. (beside over old).hold_of h.piece ≡ Some h)
        (λ h. was-over h.piece h) gone of_over.held);
    unnamed = All-append (λ (h : PlainHold). is_named new.fragments h.piece ≡ false) dead gone of_old.unnamed of_over.unnamed;
    each = λ q h is other. elim (cases_Bool (is_named over.fragments q)) [
      | inl named ↦ Contains-append_right dead gone h
          (of_over.each q h (sym (cond-true (is_named over.fragments q) (over.hold_of q) (old.hold_of q) named) ∙ is) other)
      | inr unnamed ↦ Contains-append_left dead gone h
          (of_old.each q h (sym (cond-false (is_named over.fragments q) (over.hold_of q) (old.hold_of q) unnamed) ∙ is) other)
    ];
    once = AllPairs-append (λ (g h : PlainHold). piece_eq g.piece h.piece ≡ false) dead gone of_old.once of_over.once
        (All-weaker (λ (g : PlainHold). old.hold_of g.piece ≡ Some g) (λ g. All (λ h. piece_eq g.piece h.piece ≡ false) gone)
        (λ g had. All-weaker (λ (h : PlainHold). over.hold_of h.piece ≡ Some h) (λ h. piece_eq g.piece h.piece ≡ false)
        (λ h has. false_from_ne_true (piece_eq g.piece h.piece) (λ same.
        none-some g (sym (apart g.piece (ap (λ q. is_some (over.hold_of q)) (same_piece g.piece h.piece same) ∙ ap is_some has)) ∙ had)))
        gone of_over.held) dead of_old.held);
  }

  -- where the pending ones were put over the file
  module _ (new : Held PlainHold) (puts : PutsAll over old new) where
    put-over : (q : Piece) → is_named over.fragments q ≡ true → new.hold_of q ≡ over.hold_of q
    put-over q named = puts.holds q ∙ cond-true (is_named over.fragments q) (over.hold_of q)
        (if is_named new.fragments q then old.hold_of q else None) named

    put-old : (q : Piece) → is_named over.fragments q ≡ false → new.hold_of q ≡ (if is_named new.fragments q then old.hold_of q else None)
    put-old q other = puts.holds q ∙ cond-false (is_named over.fragments q) (over.hold_of q)
        (if is_named new.fragments q then old.hold_of q else None) other

    module _ (is_held : AreHeldPlain new) where
      named-put : (q : Piece) → is_named over.fragments q ≡ true → is_named new.fragments q ≡ true
      named-put q named = sym (is_held.named q) ∙ ap is_some (put-over q named) ∙ pending.named q ∙ named

      -- each piece that is named has the hold that it had
      pub holds-put : (q : Piece) → new.hold_of q ≡ (if is_named new.fragments q then (beside over old).hold_of q else None)
      holds-put q = elim (cases_Bool (is_named over.fragments q)) [
        | inl named ↦ put-over q named ∙ sym (cond-true (is_named new.fragments q) ((beside over old).hold_of q) None (named-put q named)
            ∙ cond-true (is_named over.fragments q) (over.hold_of q) (old.hold_of q) named)
        | inr other ↦ put-old q other ∙ ap (λ o. if is_named new.fragments q then o else None)
            (sym (cond-false (is_named over.fragments q) (over.hold_of q) (old.hold_of q) other))
      ]

      -- and of the pending ones none went
      pub gone-put : (dead : List PlainHold) → AreGone (λ (h : PlainHold). h.piece) old new dead
          → AreGone (λ (h : PlainHold). h.piece) (beside over old) new dead
      gone-put dead gone = record {
        held = All-weaker (λ (h : PlainHold). old.hold_of h.piece ≡ Some h) (λ h. (beside over old).hold_of h.piece ≡ Some h)
            (λ h. was-old h.piece h) dead gone.held;
        unnamed = gone.unnamed;
        each = λ q h is other. elim (cases_Bool (is_named over.fragments q)) [
          | inl named ↦ absurd (true≢false (sym (named-put q named) ∙ other))
          | inr unnamed ↦ gone.each q h (sym (cond-false (is_named over.fragments q) (over.hold_of q) (old.hold_of q) unnamed) ∙ is) other
        ];
        once = gone.once;
      }

    -- where what that gave was cut then, each piece that is named yet has the hold that it had
    pub holds-cut : (size : ℕ) (cut : Held PlainHold) → Cuts size new cut → AreHeldPlain cut
        → (q : Piece) → cut.hold_of q ≡ (if is_named cut.fragments q then (beside over old).hold_of q else None)
    holds-cut size cut cuts is_held q = elim (cases_Bool (is_named cut.fragments q)) [
      | inr unnamed ↦ cuts.holds q ∙ cond-false (is_named cut.fragments q) (new.hold_of q) None unnamed
          ∙ sym (cond-false (is_named cut.fragments q) ((beside over old).hold_of q) None unnamed)
      | inl named ↦
          let here : cut.hold_of q ≡ new.hold_of q = cuts.holds q ∙ cond-true (is_named cut.fragments q) (new.hold_of q) None named in
          let some : is_some (new.hold_of q) ≡ true = ap is_some (sym here) ∙ is_held.named q ∙ named in
          here ∙ kept q some ∙ sym (cond-true (is_named cut.fragments q) ((beside over old).hold_of q) None named)
    ]
      where
        kept : (q : Piece) → is_some (new.hold_of q) ≡ true → new.hold_of q ≡ (beside over old).hold_of q
        kept q some = elim (cases_Bool (is_named over.fragments q)) [
          | inl named ↦ put-over q named ∙ sym (cond-true (is_named over.fragments q) (over.hold_of q) (old.hold_of q) named)
          | inr other ↦ elim (cases_Bool (is_named new.fragments q)) [
            | inl still ↦ put-old q other ∙ cond-true (is_named new.fragments q) (old.hold_of q) None still
                ∙ sym (cond-false (is_named over.fragments q) (over.hold_of q) (old.hold_of q) other)
            | inr gone ↦ absurd (false≢true (sym (ap is_some (put-old q other
                ∙ cond-false (is_named new.fragments q) (old.hold_of q) None gone)) ∙ some))
          ]
        ]
