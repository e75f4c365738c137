-- How the slots of all logs settle while one of them is held once more, or once less.
use Rattle.fs_types.proofs.Common.{◌≡◌, ℕ, ◌+◌, ◌-◌, ◌<◌, ◌≤◌, ◌≢◌, ◌∷◌, [], ◌∙◌, List, Some, None, true, false, if◌then◌else◌, arith, sym, ap, subst}
use Rattle.fs_types.proofs.Common.{cases_Bool, cases_eq, cond-true, eq-eqb, eqb-true, and_parts}
use Rattle.fs_types.proofs.Common.{and_from, inl, inr, lt-ltb, ne_eqb, same_Some, list_any, ltb}
use Rattle.fs_types.proofs.Common.{false≢true, none-some, ◌==◌, refl}
use Rattle.slot_plain.specs.Log.{Log}
use Rattle.slot_plain.specs.Slots.{Slot, StoredPiece, pinned, released}
use Rattle.fs_script.specs.Vocabulary.{Piece}
use Rattle.core_machine.specs.declared.plain_hold.PlainHold.{PlainHold}
use Rattle.core_machine.specs.Logs.{AreHeldSlots, AreInOneSlot, PinsAll, ReleasesAll, SameFrames, is_of_slot, slot_in}
use Rattle.core_machine.specs.Pins.{HasSlot}
use Rattle.core_machine.specs.Settling.{Settles, SettlesSlot}

-- where nothing changes, slots that are held are settled
pub Settles-same : (counts : Piece → ℕ) (logs : List Log) → AreHeldSlots logs → Settles counts counts logs logs
Settles-same counts logs held = record {
  frames = refl;
  free = λ r i none. refl;
  held = λ r i p is. record {
    count = refl;
    piece = is ∙ sym (cond-true (ltb 0 (slot_in logs r i).count) (Some p) None (lt-ltb 0 (slot_in logs r i).count (held r i p is)));
  };
}

-- so it stays where both are held so much more often
pub Settles-more : (more before after : Piece → ℕ) (old new : List Log) → Settles before after old new
    → Settles (λ q. more q + before q) (λ q. more q + after q) old new
Settles-more more before after old new settles = record {
  frames = settles.frames;
  free = settles.free;
  held = λ r i p is. (let one = settles.held r i p is in
      record { count = (let count = one.count in omega arith); piece = one.piece });
}

-- and where they are the same piece by piece
pub Settles-agree : (before after before' after' : Piece → ℕ) (old new : List Log) → ((q : Piece) → before' q ≡ before q)
    → ((q : Piece) → after' q ≡ after q) → Settles before after old new → Settles before' after' old new
Settles-agree before after before' after' old new same_before same_after settles = record {
  frames = settles.frames;
  free = settles.free;
  held = λ r i p is. rw (same_before p.id, same_after p.id) (settles.held r i p is);
}

-- the slot of a hold of piece q
module _ (old : List Log) (h : PlainHold) (q : Piece) (once : AreInOneSlot old) (has : HasSlot old q h) where
  its_slot : (r i : ℕ) → is_of_slot r i h ≡ true → (slot_in old r i).piece ≡ Some has.stored
  its_slot r i same =
      let parts = and_parts (h.rank == r) (h.slot == i) same in
      rw (eqb-true h.rank r parts.0, eqb-true h.slot i parts.1) at has.piece

  no_other : (r i : ℕ) (p : StoredPiece) → (slot_in old r i).piece ≡ Some p → is_of_slot r i h ≡ false → p.id ≢ q
  no_other r i p is other same =
      let there = once r i h.rank h.slot p has.stored is has.piece (same ∙ sym has.id) in
      false≢true (sym other ∙ and_from (h.rank == r) (h.slot == i) (eq-eqb h.rank r (sym there.0)) (eq-eqb h.slot i (sym there.1)))

-- it is changed by f, and all else is as it was
module _ (f : Slot → Slot) (before after later : Piece → ℕ) (old mid new : List Log) (h : PlainHold) (q : Piece) (held : AreHeldSlots old)
    (once : AreInOneSlot old) (has : HasSlot old q h) (settles : Settles before after old mid) (frames : SameFrames mid new)
    (slots : (r i : ℕ) → slot_in new r i ≡ (if list_any (is_of_slot r i) (h ∷ []) then f (slot_in mid r i) else slot_in mid r i))
    (others : (x : Piece) → x ≢ q → later x ≡ after x)
    (here : (p : StoredPiece) (was so_far : Slot) → 0 < was.count → SettlesSlot (before q) (after q) p was so_far
    → SettlesSlot (before q) (later q) p was (f so_far)) where
  Settles-changed : Settles before later old new
  Settles-changed = record {
    frames = frames ∙ settles.frames;
    free = λ r i none. elim (cases_Bool (is_of_slot r i h)) [
      | inl same ↦ absurd (none-some has.stored (sym none ∙ its_slot old h q once has r i same))
      | inr other ↦ rw other at (slots r i) ∙ settles.free r i none
    ];
    held = λ r i p is. elim (cases_Bool (is_of_slot r i h)) [
      | inl same ↦
          let id : p.id ≡ q = ap (λ (x : StoredPiece). x.id) (same_Some p has.stored (sym is ∙ its_slot old h q once has r i same)) ∙ has.id in
          let was = subst (λ (x : Piece). SettlesSlot (before x) (after x) p (slot_in old r i) (slot_in mid r i)) id (settles.held r i p is) in
          rw (rw same at (slots r i)) (subst (λ (x : Piece). SettlesSlot (before x) (later x) p (slot_in old r i) (f (slot_in mid r i))) (sym id)
          (here p (slot_in old r i) (slot_in mid r i) (held r i p is) was))
      | inr other ↦
          rw (rw other at (slots r i), others p.id (no_other old h q once has r i p is other)) (settles.held r i p is)
    ];
  }

-- so far the slot is held as often as before, or more often
pub held-so_far : (before after : Piece → ℕ) (old mid : List Log) (h : PlainHold) (q : Piece) → HasSlot old q h
    → Settles before after old mid
    → (slot_in mid h.rank h.slot).count + before q ≡ (slot_in old h.rank h.slot).count + after q
held-so_far before after old mid h q has settles = rw has.id at (settles.held h.rank h.slot has.stored has.piece).count

module _ (before after later : Piece → ℕ) (old mid new : List Log) (h : PlainHold) (q : Piece) (held : AreHeldSlots old)
    (once : AreInOneSlot old) (has : HasSlot old q h) (settles : Settles before after old mid)
    (others : (x : Piece) → x ≢ q → later x ≡ after x) (no_less : before q ≤ after q) where
  -- one hold more of the piece is its slot held once more
  pub Settles-pinned : later q ≡ after q + 1 → PinsAll (h ∷ []) mid new → Settles before later old new
  Settles-pinned more pins = Settles-changed pinned before after later old mid new h q held once has settles pins.frames pins.slots others
      (λ p was so_far some one. let count = one.count in
      record {
        count = omega (arith, count, more);
        piece = one.piece ∙ cond-true (ltb 0 so_far.count) (Some p) None (lt-ltb 0 so_far.count (omega (arith, count)))
            ∙ sym (cond-true (ltb 0 (so_far.count + 1)) (Some p) None (lt-ltb 0 (so_far.count + 1) (omega arith)));
      })

  -- one hold fewer of the piece is its slot held once less
  pub Settles-released : later q + 1 ≡ after q → ReleasesAll (h ∷ []) mid new → Settles before later old new
  Settles-released less releases =
      Settles-changed released before after later old mid new h q held once has settles releases.frames releases.slots others
      (λ p was so_far some one. let count = one.count in
      let there = one.piece ∙ cond-true (ltb 0 so_far.count) (Some p) None (lt-ltb 0 so_far.count (omega (arith, count))) in
      elim (cases_eq so_far.count 1) [
        | inl last ↦ rw (eq-eqb so_far.count 1 last) (record { count = omega (arith, count, less, last); piece = refl })
        | inr more ↦
            let left : 0 < so_far.count - 1 = omega (arith, count, more) in
            rw (ne_eqb so_far.count 1 more) (record {
              count = omega (arith, count, less);
              piece = there ∙ sym (cond-true (ltb 0 (so_far.count - 1)) (Some p) None (lt-ltb 0 (so_far.count - 1) left));
            })
      ])
