-- What letting go of holds leaves in the clients' logs, where each of them was of a slot that had its piece.
use Rattle.fs_types.proofs.Common.{◌≡◌, ℕ, ◌+◌, ◌-◌, ◌<◌, true, false, List, get_or, Some, None, list_any, cond, cond_both}
use Rattle.fs_types.proofs.Common.{cases_Bool, inl, inr}
use Rattle.fs_types.proofs.Common.{All, Contains, refl, sym, ap, ◌∙◌, arith, true≢false, none-some, same_Some, and_parts, and_from}
use Rattle.fs_types.proofs.Common.{eqb-true, eqb-false, eq-eqb, lt-ltb, nat_lt, ◌==◌, subst}
use Rattle.std.specs.List.{AllPairs}
use Rattle.std.proofs.lemmas.List.Elements.{Contains-get_or}
use Rattle.std.proofs.lemmas.List.Folds.{Any-from_list_any, list_any-from_Any}
use Rattle.fs_types.specs.Fragments.{piece_eq}
use Rattle.slot_plain.specs.Log.{Log}
use Rattle.slot_plain.specs.Slots.{Slot, StoredPiece, free_slot, released}
use Rattle.fs_script.specs.Vocabulary.{Job, Piece}
use Rattle.core_machine.specs.declared.plain_hold.PlainHold.{PlainHold}
use Rattle.core_machine.specs.Logs.{AreHeldSlots, IsHeld, IsHeldIn, ReleasesAll, are_of_one_slot, is_of_slot, slot_in, stored_part}
use Rattle.core_machine.specs.Settling.{Settles, SettlesSlot}

-- ---- one slot

held_piece : (p : StoredPiece) (count : ℕ) → 0 < count → Some p ≡ cond (nat_lt 0 count) (Some p) None
held_piece p count held = sym (ap (λ b. cond b (Some p) None) (lt-ltb 0 count held))

kept-settles : (before after : ℕ) (p : StoredPiece) (s : Slot) → s.piece ≡ Some p → 0 < s.count → before ≡ after
    → SettlesSlot before after p s s
kept-settles before after p s has held same = record { count = omega arith; piece = has ∙ held_piece p s.count held }

released-settles : (before after : ℕ) (p : StoredPiece) (s : Slot) → s.piece ≡ Some p → 0 < s.count → before ≡ after + 1
    → SettlesSlot before after p s (released s)
released-settles before after p s has held less =
    cond_both (s.count == 1) free_slot (record { count = s.count - 1; piece = s.piece }) (SettlesSlot before after p s)
    (λ one. let last = eqb-true s.count 1 one in record { count = omega arith; piece = refl })
    (λ not_one.
    let others = eqb-false s.count 1 not_one in
    record { count = omega arith; piece = has ∙ held_piece p (s.count - 1) (omega arith) })

-- ---- holds that went

-- each of these holds is of a slot that has its piece, no two are of one piece, and each slot with the piece of one is the hold's
pub record AreInSlots (s : Job) (logs : List Log) (gone : List PlainHold) : Type 0 where
  pub held : (h : PlainHold) → Contains gone h → IsHeldIn s logs h
  pub there : (r i : ℕ) (p : StoredPiece) (h : PlainHold) → (slot_in logs r i).piece ≡ Some p → Contains gone h → h.piece ≡ p.id
      → is_of_slot r i h ≡ true
  pub once : AllPairs (λ g h. piece_eq g.piece h.piece ≡ false) gone

of_slot : (r i : ℕ) (h : PlainHold) → is_of_slot r i h ≡ true → (h.rank ≡ r) × (h.slot ≡ i)
of_slot r i h is = let both = and_parts (h.rank == r) (h.slot == i) is in (eqb-true h.rank r both.0, eqb-true h.slot i both.1)

module _ (s : Job) (logs : List Log) (gone : List PlainHold) (slots : AreInSlots s logs gone) where
  pub held-gone : All (IsHeld logs) gone
  held-gone = λ k d lt. (slots.held (get_or gone k d) (Contains-get_or gone k d lt)).count

  -- the piece of a slot that one of them is of
  piece-of : (r i : ℕ) (h : PlainHold) → Contains gone h → is_of_slot r i h ≡ true → (slot_in logs r i).piece ≡ Some (stored_part s h.piece)
  piece-of r i h is_gone is =
      let of = of_slot r i h is in
      ap (λ q. (slot_in logs q i).piece) (sym of.0) ∙ ap (λ j. (slot_in logs h.rank j).piece) (sym of.1) ∙ (slots.held h is_gone).piece

  one_piece : (g h : PlainHold) → Contains gone g → Contains gone h → are_of_one_slot g h ≡ true → piece_eq g.piece h.piece ≡ true
  one_piece g h is_g is_h one =
      let same : g.piece ≡ h.piece = ap (λ (p : StoredPiece). p.id)
      (same_Some (stored_part s g.piece) (stored_part s h.piece) (sym (piece-of h.rank h.slot g is_g one) ∙ (slots.held h is_h).piece)) in
      rw same (and_from (h.piece.line == h.piece.line) (h.piece.part == h.piece.part) (eq-eqb h.piece.line h.piece.line refl)
      (eq-eqb h.piece.part h.piece.part refl))

  pub apart-gone : AllPairs (λ g h. are_of_one_slot g h ≡ false) gone
  apart-gone = λ i j d lt within.
      let g = get_or gone i d in
      let h = get_or gone j d in
      elim (cases_Bool (are_of_one_slot g h)) [
        | inr apart ↦ apart
        | inl one ↦ absurd (true≢false
            (sym (one_piece g h (Contains-get_or gone i d (omega arith)) (Contains-get_or gone j d within) one)
            ∙ slots.once i j d lt within))
      ]

  -- Once they were let go of, all is settled: a piece of theirs is held once less, and every other as often as before.
  module _ (new : List Log) (lets_go : ReleasesAll gone logs new) (are_held : AreHeldSlots logs) (before after : Piece → ℕ)
      (goes : (h : PlainHold) → Contains gone h → before h.piece ≡ after h.piece + 1)
      (stays : (r i : ℕ) (p : StoredPiece) → (slot_in logs r i).piece ≡ Some p → ((h : PlainHold) → Contains gone h → h.piece ≡ p.id → ⊥)
      → before p.id ≡ after p.id) where
    went : (r i : ℕ) (p : StoredPiece) → (slot_in logs r i).piece ≡ Some p → list_any (is_of_slot r i) gone ≡ true
        → before p.id ≡ after p.id + 1
    went r i p has any =
        let found = Any-from_list_any (is_of_slot r i) gone any in
        let is_gone : Contains gone found.1 = (found.0, found.2, found.3) in
        let same : found.1.piece ≡ p.id = ap (λ (x : StoredPiece). x.id)
        (same_Some (stored_part s found.1.piece) p (sym (piece-of r i found.1 is_gone found.4) ∙ has)) in
        ap before (sym same) ∙ goes found.1 is_gone ∙ ap (λ q. after q + 1) same

    stayed : (r i : ℕ) (p : StoredPiece) → (slot_in logs r i).piece ≡ Some p → list_any (is_of_slot r i) gone ≡ false
        → before p.id ≡ after p.id
    stayed r i p has none = stays r i p has
        (λ h is_gone same. true≢false
        (sym (list_any-from_Any (is_of_slot r i) gone (is_gone.0, h, is_gone.1, is_gone.2, slots.there r i p h has is_gone same)) ∙ none))

    pub settles-gone : Settles before after logs new
    settles-gone = record {
      frames = lets_go.frames;
      free = λ r i none. lets_go.slots r i ∙ cond_both (list_any (is_of_slot r i) gone) (released (slot_in logs r i)) (slot_in logs r i)
          (λ x. x ≡ slot_in logs r i)
          (λ any.
          let found = Any-from_list_any (is_of_slot r i) gone any in
          absurd (none-some (stored_part s found.1.piece) (sym none ∙ piece-of r i found.1 (found.0, found.2, found.3) found.4)))
          (λ _. refl);
      held = λ r i p has. subst (SettlesSlot (before p.id) (after p.id) p (slot_in logs r i)) (sym (lets_go.slots r i))
          (cond_both (list_any (is_of_slot r i) gone) (released (slot_in logs r i)) (slot_in logs r i)
          (SettlesSlot (before p.id) (after p.id) p (slot_in logs r i))
          (λ any. released-settles (before p.id) (after p.id) p (slot_in logs r i) has (are_held r i p has) (went r i p has any))
          (λ none. kept-settles (before p.id) (after p.id) p (slot_in logs r i) has (are_held r i p has) (stayed r i p has none)));
    }
