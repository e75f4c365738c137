-- What a change of one slot of one log leaves in each slot of all logs, and one more of such changes.
use Rattle.std.proofs.Common.{◌≡◌, ℕ, zero, suc, ◌+◌, ◌<◌, Bool, true, false, ◌||◌, if◌then◌else◌, List, [], ◌∷◌, length, set, map, take}
use Rattle.std.proofs.Common.{get_or, slice_get, Some, IfSome, eqb, All, AllPairs, arith, sym, ◌∙◌, ap, refl, inl, inr}
use Rattle.std.specs.List.{list_any}
use Rattle.std.proofs.lemmas.Bool.{cases_eq, cases_lt, eq-eqb, ne_eqb, eqb-true, and_parts}
use Rattle.std.proofs.lemmas.List.{get_or-set_same, get_or-set_other, get_or-take, get_or_past, get_or_default, length-set, length-take}
use Rattle.std.proofs.lemmas.List.Folds.{list_any_more, list_any_none}
use Rattle.fs_script.proofs.CallerLemmas.{slice_get-set_same, slice_get-set_other}
use Rattle.slot_plain.specs.Log.{Log}
use Rattle.slot_plain.specs.Slots.{Slot, free_slot, slot_at, released}
use Rattle.core_machine.specs.Logs.{IsHeld, IsHeldIn, IsInMemory, ReleasesAll, SameFrames, are_of_one_slot, frame_of, is_of_slot}
use Rattle.core_machine.specs.Logs.{slot_in, slot_of, stored_part}
use Rattle.fs_script.specs.Vocabulary.{Job}
use Rattle.std.proofs.lemmas.Option.{slice_get-get_or}
use Rattle.core_machine.specs.declared.plain_hold.PlainHold.{PlainHold}

-- a slot that is held is in a log that is there
pub held-log : (logs : List Log) (r i : ℕ) → 0 < (slot_in logs r i).count → r < length logs
held-log [] r i held = absurd (omega arith)
held-log (log ∷ logs) zero i held = omega arith
held-log (log ∷ logs) (suc r) i held = let h = held-log logs r i held in omega (arith, h)

-- and it is one of that log's
pub held-within : (slots : List Slot) (i : ℕ) → 0 < (slot_at slots i).count → i < length slots
held-within slots i held = elim (cases_lt i (length slots)) [
  | inl lt ↦ lt
  | inr le ↦ let free = ap (λ (s : Slot). s.count) (get_or_past slots i free_slot le) in absurd (omega (arith, held, free))
]

-- a slot of a log that is there
pub slot_in-log : (logs : List Log) (r i : ℕ) (d : Log) → r < length logs → slot_at (get_or logs r d).slots i ≡ slot_in logs r i
slot_in-log [] r i d lt = absurd (omega arith)
slot_in-log (log ∷ logs) zero i d lt = refl
slot_in-log (log ∷ logs) (suc r) i d lt = slot_in-log logs r i d (omega arith)

-- the slot of a hold has its part
module _ (s : Job) (logs : List Log) (h : PlainHold) (d : Log) (held : IsHeldIn s logs h) where
  here : slot_at (get_or logs h.rank d).slots h.slot ≡ slot_in logs h.rank h.slot
  here = slot_in-log logs h.rank h.slot d (held-log logs h.rank h.slot held.count)

  pub part-log : (slot_at (get_or logs h.rank d).slots h.slot).piece ≡ Some (stored_part s h.piece)
  part-log = ap (λ (x : Slot). x.piece) here ∙ held.piece

  -- and is in shared memory, where all of its log's are
  pub memory-log : IfSome (slice_get logs h.rank) (IsInMemory s) → h.slot < (get_or logs h.rank d).shmem
  memory-log memory =
      let there = slice_get-get_or logs h.rank d (held-log logs h.rank h.slot held.count) in
      let all = rw there at memory in
      let within = held-within (get_or logs h.rank d).slots h.slot (rw here held.count) in
      omega (arith, within, all.shared)

same_frames : (logs : List Log) (r : ℕ) (log d : Log) → frame_of log ≡ frame_of (get_or logs r d) → SameFrames logs (set logs r log)
same_frames [] r log d same = refl
same_frames (x ∷ logs) zero log d same = ap (λ f. f ∷ map frame_of logs) same
same_frames (x ∷ logs) (suc r) log d same = ap (λ fs. frame_of x ∷ fs) (same_frames logs r log d same)

-- the slot of a hold is changed by f, in a log that is put back in its place
module _ (f : Slot → Slot) (logs : List Log) (h : PlainHold) (d log : Log) (held : IsHeld logs h)
    (does : log ≡ record (get_or logs h.rank d) {
      slots = set (get_or logs h.rank d).slots h.slot (f (slot_at (get_or logs h.rank d).slots h.slot));
    }) where
  pub changed-frames : SameFrames logs (set logs h.rank log)
  changed-frames = same_frames logs h.rank log d (rw does (rw length-set refl))

  there : h.rank < length logs
  there = held-log logs h.rank h.slot held

  was : (i : ℕ) → slot_at (get_or logs h.rank d).slots i ≡ slot_in logs h.rank i
  was i = slot_in-log logs h.rank i d there

  now : (i : ℕ) → slot_in (set logs h.rank log) h.rank i
      ≡ slot_at (set (get_or logs h.rank d).slots h.slot (f (slot_at (get_or logs h.rank d).slots h.slot))) i
  now i = ap (λ o. slot_of o i) (slice_get-set_same logs h.rank log there) ∙ ap (λ (l : Log). slot_at l.slots i) does

  changed_here : (i : ℕ) → slot_in (set logs h.rank log) h.rank i
      ≡ (if list_any (is_of_slot h.rank i) (h ∷ []) then f (slot_in logs h.rank i) else slot_in logs h.rank i)
  changed_here i = rw (eq-eqb h.rank h.rank refl) (elim (cases_eq h.slot i) [
    | inr other ↦
        rw (ne_eqb h.slot i other)
        (now i ∙ get_or-set_other (get_or logs h.rank d).slots h.slot i _ free_slot (λ e. other (sym e)) ∙ was i)
    | inl same ↦
        let within = held-within (get_or logs h.rank d).slots h.slot (rw (was h.slot) held) in
        rw (← same, eq-eqb h.slot h.slot refl)
        (now h.slot ∙ get_or-set_same (get_or logs h.rank d).slots h.slot _ free_slot within ∙ ap f (was h.slot))
  ])

  pub changed-slots : (r i : ℕ) → slot_in (set logs h.rank log) r i
      ≡ (if list_any (is_of_slot r i) (h ∷ []) then f (slot_in logs r i) else slot_in logs r i)
  changed-slots r i = elim (cases_eq h.rank r) [
    | inr other ↦ rw (ne_eqb h.rank r other) (ap (λ o. slot_of o i) (slice_get-set_other logs h.rank r log (λ e. other (sym e))))
    | inl same ↦ rw (← same) (changed_here i)
  ]

-- a slot that is changed once, now or earlier
changed_once : (f : Slot → Slot) (earlier this : Bool) (old mid : Slot) → (this ≡ true → earlier ≡ false)
    → mid ≡ (if earlier then f old else old) → (if this || false then f mid else mid) ≡ (if earlier || this then f old else old)
changed_once f true true old mid once is = let no = once refl in cc
changed_once f true false old mid once is = is
changed_once f false true old mid once is = ap f is
changed_once f false false old mid once is = is

-- one more hold is released, of a slot of its own
module _ (dead : List PlainHold) (k : ℕ) (h : PlainHold) (lt : k < length dead) (is : h ≡ get_or dead k h)
    (apart : AllPairs (λ g x. are_of_one_slot g x ≡ false) dead) where
  own_slot : list_any (is_of_slot h.rank h.slot) (take k dead) ≡ false
  own_slot = list_any_none (is_of_slot h.rank h.slot) (take k dead) (λ j d within.
      let less : j < k = omega (arith, within, length-take k dead) in
      let h_is : h ≡ get_or dead k d = is ∙ get_or_default dead k h d lt in
      rw (get_or-take k dead j d less, h_is) (apart j k d less lt))

  no_other : (r i : ℕ) → is_of_slot r i h ≡ true → list_any (is_of_slot r i) (take k dead) ≡ false
  no_other r i same =
      let parts = and_parts (eqb h.rank r) (eqb h.slot i) same in
      rw (← eqb-true h.rank r parts.0, ← eqb-true h.slot i parts.1) own_slot

  module _ {old mid : List Log} (so_far : ReleasesAll (take k dead) old mid) where
    pub still-held : All (IsHeld old) dead → IsHeld mid h
    still-held held = rw (so_far.slots h.rank h.slot, own_slot) (rw (← is) at (held k h lt))

    pub released-more : {new : List Log} → ReleasesAll (h ∷ []) mid new → ReleasesAll (take (k + 1) dead) old new
    released-more one = record {
      frames = one.frames ∙ so_far.frames;
      slots = λ r i.
          one.slots r i
          ∙ rw (list_any_more (is_of_slot r i) dead k h lt, ← is)
          (changed_once released (list_any (is_of_slot r i) (take k dead)) (is_of_slot r i h) (slot_in old r i) (slot_in mid r i)
          (no_other r i) (so_far.slots r i));
    }
