-- The clients' logs once a line's parts are in their slots: each slot has a part of the line, or what it had.
use Rattle.fs_types.proofs.Common.{◌≡◌, ℕ, ◌<◌, false, List, length, map, take, get_or, slice_get, ◌⊎◌, inl, inr}
use Rattle.fs_types.proofs.Common.{Some, None, IsSome, is_some}
use Rattle.fs_types.proofs.Common.{refl, sym, ap, ◌∙◌, subst, arith, cases_Bool, cases_eq, same_Some, eq-eqb, ne_eqb, eqb-true}
use Rattle.fs_types.proofs.Common.{length-map, get_or-map, map-map}
use Rattle.fs_types.proofs.Common.{slice_get_within, slice_get-get_or, option_map}
use Rattle.std.proofs.lemmas.List.{same_lists}
use Rattle.std.specs.Option.{is_none}
use Rattle.slot_plain.specs.FreePlaces.{free_places}
use Rattle.slot_plain.specs.Log.{Log}
use Rattle.slot_plain.specs.Slots.{Slot, free_slot, free_slots, is_free, slot_at}
use Rattle.fs_script.specs.Vocabulary.{Job, need}
use Rattle.fs_script.proofs.CallerLemmas.{none_from-is_some, some_of, slice_get-set_same, slice_get-set_other}
use Rattle.core_machine.specs.declared.plain_hold.PlainHold.{PlainHold}
use Rattle.core_machine.specs.Logs.{AreFreeSlots, AreHeldSlots, IsHeldIn, part_hold, part_slot, piece_in, pieces_in, slot_in, slot_of}
use Rattle.core_machine.specs.PendingWrites.{ArePartHolds}
use Rattle.core_machine.specs.Settling.{FillsLog}
use Rattle.core_machine.specs.Slots.{empty_slots}
use Rattle.core_machine.proofs.PlainLists.{contains_or_not, taken_place}
use Rattle.core_machine.proofs.Refines.FilledSlots.{free_places-at}

-- ---- the slots that are free

-- a slot is free where it has no piece
free_without : (slot : Slot) → (slot.piece ≡ None → slot.count ≡ 0) → (IsSome slot.piece → 0 < slot.count)
    → is_none (piece_in slot) ≡ is_free slot
free_without slot free held = elim (cases_Bool (is_some slot.piece)) [
  | inr absent ↦
      let none = none_from-is_some slot.piece absent in
      ap (λ o. is_none (option_map (λ p. p.id) o)) none ∙ sym (eq-eqb slot.count 0 (free none))
  | inl there ↦
      let piece = some_of slot.piece there in
      let some = held there in
      ap (λ o. is_none (option_map (λ p. p.id) o)) piece.1 ∙ sym (ne_eqb slot.count 0 (λ none. omega (arith, some, none)))
]

pub empty-free : (logs : List Log) (r : ℕ) (log : Log) → AreHeldSlots logs → AreFreeSlots logs → slice_get logs r ≡ Some log
    → empty_slots (pieces_in log) ≡ free_slots log.slots
empty-free logs r log held free at = ap free_places (map-map is_none piece_in log.slots
    ∙ same_lists _ _ (length-map log.slots (λ x. is_none (piece_in x)) ∙ sym (length-map log.slots is_free)) (λ i d below.
    let within : i < length log.slots = omega (arith, below, length-map log.slots (λ x. is_none (piece_in x))) in
    let is : slot_in logs r i ≡ slot_at log.slots i = ap (λ o. slot_of o i) at in
    get_or-map (λ x. is_none (piece_in x)) log.slots i free_slot d within
    ∙ subst (λ x. is_none (piece_in x) ≡ is_free x) is
    (free_without (slot_in logs r i) (free r i) (λ there. let p = some_of (slot_in logs r i).piece there in held r i p.0 p.1))
    ∙ sym (get_or-map is_free log.slots i free_slot d within)))

-- ---- a slot of a line

-- a slot that was free has a part of line n
pub record HasPart (s : Job) (n : ℕ) (logs filled : List Log) (q i : ℕ) : Type 0 where
  pub part : ℕ
  pub below : part < need s n
  pub slot : slot_in filled q i ≡ part_slot s n part
  pub was_free : (slot_in logs q i).count ≡ 0

module _ (s : Job) (n r : ℕ) (logs filled : List Log) (fill : FillsLog s n r logs filled) where
  within : r < length logs
  within = slice_get_within logs r fill.was fill.there

  own_slot : (i : ℕ) → slot_in filled r i ≡ slot_at fill.now.slots i
  own_slot i = ap (λ ls. slot_of (slice_get ls r) i) fill.changed ∙ ap (λ o. slot_of o i) (slice_get-set_same logs r fill.now within)

  was_slot : (i : ℕ) → slot_in logs r i ≡ slot_at fill.was.slots i
  was_slot i = ap (λ o. slot_of o i) fill.there

  -- the slot of a part, by which of the free ones it is
  pub part-at : (p i : ℕ) → p < need s n → slice_get (free_slots fill.was.slots) p ≡ Some i → HasPart s n logs filled r i
  part-at p i below at =
      let free = free_places-at (map is_free fill.was.slots) p i at in
      let inside : i < length fill.was.slots = omega (arith, free.0, length-map fill.was.slots is_free) in
      record {
        part = p;
        below = below;
        slot = own_slot i ∙ fill.fills.filled p i below at;
        was_free = ap (λ (x : Slot). x.count) (was_slot i)
            ∙ eqb-true (slot_at fill.was.slots i).count 0 (sym (get_or-map is_free fill.was.slots i free_slot false inside) ∙ free.1);
      }

  own-cases : (i : ℕ) → HasPart s n logs filled r i ⊎ (slot_in filled r i ≡ slot_in logs r i)
  own-cases i = elim (contains_or_not (take (need s n) (free_slots fill.was.slots)) i) [
    | inl there ↦ let at = taken_place (need s n) (free_slots fill.was.slots) i there in inl (part-at at.0 i at.1 at.2)
    | inr not ↦ inr (own_slot i ∙ fill.fills.others i not ∙ sym (was_slot i))
  ]

  pub slot-cases : (q i : ℕ) → HasPart s n logs filled q i ⊎ (slot_in filled q i ≡ slot_in logs q i)
  slot-cases q i = elim (cases_eq q r) [
    | inl same ↦ subst (λ c. HasPart s n logs filled c i ⊎ (slot_in filled c i ≡ slot_in logs c i)) (sym same) (own-cases i)
    | inr other ↦ inr (ap (λ ls. slot_of (slice_get ls q) i) fill.changed
        ∙ ap (λ o. slot_of o i) (slice_get-set_other logs r q fill.now other))
  ]

  -- ---- holds

  -- a hold of a slot that has its piece stays so
  pub IsHeldIn-kept : (h : PlainHold) → IsHeldIn s logs h → IsHeldIn s filled h
  IsHeldIn-kept h held = elim (slot-cases h.rank h.slot) [
    | inl filled ↦ let free = filled.was_free in let some = held.count in absurd (omega (arith, free, some))
    | inr same ↦ record {
      count = subst (λ (x : Slot). 0 < x.count) (sym same) held.count;
      piece = ap (λ (x : Slot). x.piece) same ∙ held.piece;
      bytes = held.bytes;
    }
  ]

  -- the hold of a part, and the slot that it is of
  pub part-hold : (p : ℕ) → p < need s n → (i : ℕ) × (slice_get fill.holds p ≡ Some (part_hold s fill.was.rank n p i))
      × (slot_in filled r i ≡ part_slot s n p)
  part-hold p below =
      let enough = fill.fills.enough in
      let i = get_or (free_slots fill.was.slots) p 0 in
      let inside : p < length (free_slots fill.was.slots) = omega (arith, below, enough) in
      let at : slice_get (free_slots fill.was.slots) p ≡ Some i = slice_get-get_or (free_slots fill.was.slots) p 0 inside in
      (i, fill.fills.holds_are p i below at, own_slot i ∙ fill.fills.filled p i below at)

  pub part-holds : ArePartHolds s n fill.holds
  part-holds = record {
    each = fill.fills.many;
    parts = λ p h at.
        let inside = slice_get_within fill.holds p h at in
        let many = fill.fills.many in
        let of = part-hold p (omega (arith, inside, many)) in
        let is : h ≡ part_hold s fill.was.rank n p of.0 = same_Some h (part_hold s fill.was.rank n p of.0) (sym at ∙ of.1) in
        record { piece = ap (λ (x : PlainHold). x.piece) is; bytes = ap (λ (x : PlainHold). x.bytes) is };
  }

  -- it is of a slot that has its piece, where the log is under its client's rank
  pub IsHeldIn-part : (p : ℕ) (h : PlainHold) → fill.was.rank ≡ r → slice_get fill.holds p ≡ Some h
      → (h.piece ≡ record { line = n; part = p }) × IsHeldIn s filled h
  IsHeldIn-part p h rank at =
      let inside = slice_get_within fill.holds p h at in
      let many = fill.fills.many in
      let of = part-hold p (omega (arith, inside, many)) in
      let is : part_hold s r n p of.0 ≡ h =
      ap (λ c. part_hold s c n p of.0) (sym rank) ∙ same_Some (part_hold s fill.was.rank n p of.0) h (sym of.1 ∙ at) in (
        ap (λ (x : PlainHold). x.piece) (sym is),
        subst (IsHeldIn s filled) is (record {
          count = subst (λ (x : Slot). 0 < x.count) (sym of.2) (omega arith);
          piece = ap (λ (x : Slot). x.piece) of.2;
          bytes = refl;
        }),
      )
