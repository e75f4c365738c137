-- The runs of marks lie in the pieces that the marks are of, by holds of these.
use Rattle.fs_types.proofs.Common.{◌≡◌, ℕ, ◌+◌, ◌-◌, ◌<◌, ◌≤◌, ◌∙◌, ◌∷◌, [], List, Option, Some, None, true, arith, sym, ap}
use Rattle.fs_types.proofs.Common.{length, get_or, All, All-head, All-tail, IsSome, is_some, cases_Bool, inl, inr, same_Some, or_cases}
use Rattle.fs_types.proofs.Common.{get_or-map-range_with_len, length-map-range_with_len, subst, false≢true, refl}
use Rattle.std.proofs.lemmas.List.{ext_get_or}
use Rattle.fs_types.specs.Fragments.{end_of, piece_eq}
use Rattle.fs_types.specs.FragmentMarks.{mark_at, mark_within, marks_of_fragments}
use Rattle.fs_types.specs.Marks.{Mark}
use Rattle.fs_types.specs.Pieces.{Fragment, Piece}
use Rattle.piece_table.specs.HeldSpans.{LiesIn, is_named}
use Rattle.piece_table.specs.PieceTable.{Pieces}
use Rattle.slot_plain.specs.Log.{Log}
use Rattle.fs_script.specs.Vocabulary.{runs}
use Rattle.fs_script.proofs.CallerLemmas.{have_bytes-runs, in_order-runs, end-runs, mark_at-of, same_piece}
use Rattle.core_machine.specs.declared.plain_hold.PlainHold.{PlainHold}
use Rattle.core_machine.specs.Fetching.{AreFetchable}
use Rattle.core_machine.specs.Pins.{ArePins}
use Rattle.core_machine.specs.Reads.{HasHold}
use Rattle.core_machine.specs.Task.{PinsRuns}
use Rattle.core_machine.proofs.JoinedParts.{mark_at-member}
use Rattle.core_machine.proofs.PinnedRuns.{pinned-hold}

module _ (hold_at : Piece → Option PlainHold) (marks : List (Option Mark))
    (held : (k : ℕ) (m : Mark) → get_or marks k None ≡ Some m → HasHold hold_at m) where
  -- each run ends with one of the marks
  last_mark : (i : ℕ) (d : Fragment) → i < length (runs marks) → (f : Fragment) → f ≡ get_or (runs marks) i d
      → (0 < f.len) × (get_or marks (f.at + f.len - 1) None ≡ Some (mark_within f (f.at + f.len - 1)))
  last_mark i d lt f is =
      let some : 0 < f.len = rw is (have_bytes-runs marks i d lt) in
      let last : ℕ = f.at + f.len - 1 in (
        some,
        sym (mark_at-of marks last)
            ∙ subst (λ (g : Fragment). g.at ≤ last → last < end_of g → mark_at (runs marks) last ≡ Some (mark_within g last)) (sym is)
            (mark_at-member (runs marks) i d last (in_order-runs marks) lt) (omega (arith, some)) (omega (arith, some)),
      )

  run-named : All (λ f. IsSome (hold_at f.piece)) (runs marks)
  run-named i d lt =
      let f : Fragment = get_or (runs marks) i d in
      let last = last_mark i d lt f refl in
      ap is_some (held (f.at + f.len - 1) (mark_within f (f.at + f.len - 1)) last.1).is

  run-lies : All (LiesIn (λ h. h.bytes) hold_at) (runs marks)
  run-lies i d lt h there =
      let f : Fragment = get_or (runs marks) i d in
      let last = last_mark i d lt f refl in
      let own = held (f.at + f.len - 1) (mark_within f (f.at + f.len - 1)) last.1 in
      let same : own.hold ≡ h = same_Some own.hold h (sym own.is ∙ there) in
      let within = own.within in
      let bytes = ap (λ (g : PlainHold). g.bytes) same in
      omega (arith, last.0, within, bytes)

  -- so all can be fetched
  pub AreFetchable-runs : AreFetchable hold_at (length marks) (runs marks)
  AreFetchable-runs = record { in_order = in_order-runs marks; ends = end-runs marks; named = run-named; within = run-lies }

module _ (hold_at : Piece → Option PlainHold) where
  -- a piece that they name has a hold
  named-held : (fs : List Fragment) → All (λ f. IsSome (hold_at f.piece)) fs → (q : Piece) → is_named fs q ≡ true → IsSome (hold_at q)
  named-held [] all q named = absurd (false≢true named)
  named-held (f ∷ fs) all q named = elim (or_cases (piece_eq f.piece q) (is_named fs q) named) [
    | inl same ↦ subst (λ p. IsSome (hold_at p)) (same_piece f.piece q same) (All-head (λ g. IsSome (hold_at g.piece)) f fs all)
    | inr later ↦ named-held fs (All-tail (λ g. IsSome (hold_at g.piece)) f fs all) q later
  ]

  -- and pins of all of them are those of a read
  pub PinsRuns-pinned : (before : Piece → ℕ) (fs : List Fragment) (pins : Pieces PlainHold) (was now : List Log) (len : ℕ)
      → ((q : Piece) (h : PlainHold) → hold_at q ≡ Some h → h.piece ≡ q) → AreFetchable hold_at len fs
      → ArePins before hold_at fs pins was now → PinsRuns fs pins
  PinsRuns-pinned before fs pins was now len own fetchable pinned = record {
    numbers = pinned.numbers;
    named = λ q. ap is_some (pinned.holds q) ∙ elim (cases_Bool (is_named fs q)) [
      | inl named ↦ rw named (named-held fs fetchable.named q named)
      | inr not ↦ rw not refl
    ];
    piece = λ q h is. own q h (pinned-hold before hold_at fs pins was now pinned q h is);
    within = λ i d lt h is. fetchable.within i d lt h (pinned-hold before hold_at fs pins was now pinned (get_or fs i d).piece h is);
  }

-- the marks of some marks' runs are these marks
pub marks-of_runs : (marks : List (Option Mark)) → marks_of_fragments (runs marks) (length marks) ≡ marks
marks-of_runs marks =
    let size = length-map-range_with_len (mark_at (runs marks)) 0 (length marks) in
    ext_get_or None (marks_of_fragments (runs marks) (length marks)) marks size
    (λ k lt. get_or-map-range_with_len (mark_at (runs marks)) 0 (length marks) k k None (omega (arith, lt, size)) (omega arith)
    ∙ mark_at-of marks k)
