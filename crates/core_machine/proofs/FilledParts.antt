-- A line's parts as they are put into slots, one after the other.
use Rattle.std.proofs.Common.{◌≡◌, ◌≢◌, ℕ, zero, suc, ◌+◌, ◌*◌, ◌<◌, ◌≤◌, Bool, true, false, List, [], ◌∷◌, ◌++◌, length, set, map, take}
use Rattle.std.proofs.Common.{slice_get, All, Contains, Some, arith, sym, ◌∙◌, ap, refl, inl, inr}
use Rattle.std.proofs.lemmas.Bool.{cases_eq}
use Rattle.std.proofs.lemmas.List.{get_or-set_same, get_or-set_other, get_or_append_left, length-set, length-take, length_push}
use Rattle.std.proofs.lemmas.Option.{slice_get_within, slice_get-get_or, get_or_from_slice_get, same_Some}
use Rattle.std.proofs.lemmas.Grind.{div_ceil_times}
use Rattle.core_machine.proofs.LogSlots.{held-within}
use Rattle.fs_script.proofs.CallerLemmas.{slice_get-push_last}
use Rattle.fs_script.specs.Vocabulary.{Job, need, parts_of}
use Rattle.slot_plain.specs.FreePlaces.{free_from}
use Rattle.slot_plain.specs.Log.{Log}
use Rattle.slot_plain.specs.Slots.{Slot, free_slot, free_slots, is_free, slot_at, taken_slot, with_taken}
use Rattle.core_machine.specs.Logs.{FillsLine, Frame, IsInMemory, frame_of, part_hold, part_slot}
use Rattle.core_machine.specs.declared.plain_hold.PlainHold.{PlainHold}

-- ---- free places rise

free_from-above : (n : ℕ) (flags : List Bool) (k i : ℕ) → slice_get (free_from n flags) k ≡ Some i → n ≤ i
free_from-above n [] k i is = cc
free_from-above n (true ∷ rest) zero i is = let same = same_Some n i is in omega (arith, same)
free_from-above n (true ∷ rest) (suc k) i is = let h = free_from-above (suc n) rest k i is in omega (arith, h)
free_from-above n (false ∷ rest) k i is = let h = free_from-above (suc n) rest k i is in omega (arith, h)

free_from-rises : (n : ℕ) (flags : List Bool) (j k a b : ℕ) → j < k → slice_get (free_from n flags) j ≡ Some a
    → slice_get (free_from n flags) k ≡ Some b → a < b
free_from-rises n [] j k a b lt at_j at_k = cc
free_from-rises n (true ∷ rest) j zero a b lt at_j at_k = absurd (omega arith)
free_from-rises n (true ∷ rest) zero (suc k) a b lt at_j at_k =
    let same = same_Some n a at_j in let above = free_from-above (suc n) rest k b at_k in omega (arith, same, above)
free_from-rises n (true ∷ rest) (suc j) (suc k) a b lt at_j at_k =
    free_from-rises (suc n) rest j k a b (omega arith) at_j at_k
free_from-rises n (false ∷ rest) j k a b lt at_j at_k = free_from-rises (suc n) rest j k a b lt at_j at_k

slice_get-take : {X : Type 0} (n : ℕ) (xs : List X) (k : ℕ) → k < n → slice_get (take n xs) k ≡ slice_get xs k
slice_get-take zero xs k lt = absurd (omega arith)
slice_get-take (suc n) [] k lt = refl
slice_get-take (suc n) (x ∷ xs) zero lt = refl
slice_get-take (suc n) (x ∷ xs) (suc k) lt = slice_get-take n xs k (omega arith)

-- ---- so far

-- the first k parts of line n are in these slots, the others were taken, and nothing else changed
pub record FilledTo (s : Job) (n k : ℕ) (numbers : List ℕ) (old new : Log) (holds : List PlainHold) : Type 0 where
  pub frame : frame_of new ≡ frame_of old
  pub filled : (p i : ℕ) → p < k → slice_get numbers p ≡ Some i → slot_at new.slots i ≡ part_slot s n p
  pub taken : (p i : ℕ) → k ≤ p → slice_get numbers p ≡ Some i → slot_at new.slots i ≡ taken_slot
  pub others : (i : ℕ) → (Contains numbers i → ⊥) → slot_at new.slots i ≡ slot_at old.slots i
  pub many : length holds ≡ k
  pub holds_are : (p i : ℕ) → p < k → slice_get numbers p ≡ Some i → slice_get holds p ≡ Some (part_hold s old.rank n p i)

length-with_taken : (numbers : List ℕ) (slots : List Slot) → length (with_taken numbers slots) ≡ length slots
length-with_taken [] slots = refl
length-with_taken (i ∷ numbers) slots = length-with_taken numbers (set slots i taken_slot) ∙ length-set slots i taken_slot

-- slots that were taken, and have no part yet
pub filled-none : (s : Job) (n : ℕ) (numbers : List ℕ) (old new : Log) → new ≡ record old { slots = with_taken numbers old.slots }
    → All (λ i. slot_at new.slots i ≡ taken_slot) numbers
    → ((i : ℕ) → (Contains numbers i → ⊥) → slot_at new.slots i ≡ slot_at old.slots i)
    → FilledTo s n 0 numbers old new []
filled-none s n numbers old new does each others = record {
  frame = rw (does, length-with_taken numbers old.slots) refl;
  filled = λ p i lt at. absurd (omega arith);
  taken = λ p i le at. rw (get_or_from_slice_get numbers p i 0 at) at (each p 0 (slice_get_within numbers p i at));
  others = others;
  many = refl;
  holds_are = λ p i lt at. absurd (omega arith);
}

pub in_memory-kept : (s : Job) {old new : Log} → frame_of new ≡ frame_of old → IsInMemory s old → IsInMemory s new
in_memory-kept s same memory =
    let slots = ap (λ (f : Frame). f.slots) same in
    let shmem = ap (λ (f : Frame). f.shmem) same in
    record {
      shared = omega (arith, slots, shmem, memory.shared);
      chunk = ap (λ (f : Frame). f.chunk) same ∙ memory.chunk;
      few = omega (arith, slots, memory.few);
    }

-- the slots that are taken are the lowest free ones, each once
abbrev pub Rise : List ℕ → Type 0
Rise numbers = (j k a b : ℕ) → j < k → slice_get numbers j ≡ Some a → slice_get numbers k ≡ Some b → a < b

pub free-rise : (slots : List Slot) (many : ℕ) → Rise (take many (free_slots slots))
free-rise slots many j k a b lt at_j at_k =
    let below = length-take many (free_slots slots) in
    let last = slice_get_within (take many (free_slots slots)) k b at_k in
    free_from-rises 0 (map is_free slots) j k a b lt
    (sym (slice_get-take many (free_slots slots) j (omega (arith, below, last, lt))) ∙ at_j)
    (sym (slice_get-take many (free_slots slots) k (omega (arith, below, last))) ∙ at_k)

-- one part more
module _ (s : Job) (n k : ℕ) (numbers : List ℕ) (old mid : Log) (holds : List PlainHold)
    (so_far : FilledTo s n k numbers old mid holds) where
  -- its slot was taken
  pub slot-taken : (i : ℕ) → slice_get numbers k ≡ Some i → slot_at mid.slots i ≡ taken_slot
  slot-taken i at = so_far.taken k i (omega arith) at

  module _ (i : ℕ) (at : slice_get numbers k ≡ Some i) (rise : Rise numbers) (new : Log)
      (does : new ≡ record mid { slots = set mid.slots i (part_slot s n k) }) where
    slot_is : slot_at new.slots i ≡ part_slot s n k
    slot_is =
        let held = ap (λ (x : Slot). x.count) (slot-taken i at) in
        rw does (get_or-set_same mid.slots i (part_slot s n k) free_slot (held-within mid.slots i (omega (arith, held))))

    slot_other : (j : ℕ) → j ≢ i → slot_at new.slots j ≡ slot_at mid.slots j
    slot_other j other = rw does (get_or-set_other mid.slots i j (part_slot s n k) free_slot other)

    hold_kept : (p : ℕ) (h : PlainHold) (next : PlainHold) → slice_get holds p ≡ Some h → slice_get (holds ++ next ∷ []) p ≡ Some h
    hold_kept p h next at_p =
        let within = slice_get_within holds p h at_p in
        slice_get-get_or (holds ++ next ∷ []) p h (omega (arith, within, length_push holds next))
        ∙ ap Some (get_or_append_left holds (next ∷ []) h p within ∙ get_or_from_slice_get holds p h h at_p)

    hold_last : (next : PlainHold) → next ≡ part_hold s mid.rank n k i
        → slice_get (holds ++ next ∷ []) k ≡ Some (part_hold s old.rank n k i)
    hold_last next is =
        let rank = ap (λ (f : Frame). f.rank) so_far.frame in
        rw (← so_far.many) (slice_get-push_last holds next) ∙ ap Some (is ∙ ap (λ r. part_hold s r n k i) rank)

    pub filled-more : (next : PlainHold) → next ≡ part_hold s mid.rank n k i → FilledTo s n (k + 1) numbers old new (holds ++ next ∷ [])
    filled-more next is = record {
      frame = rw does (rw length-set so_far.frame);
      filled = λ p j lt at_p. elim (cases_eq p k) [
        | inl same ↦
            let here : i ≡ j = same_Some i j (sym at ∙ ap (slice_get numbers) (sym same) ∙ at_p) in
            rw (← here, same) slot_is
        | inr other ↦
            let less = rise p k j i (omega (arith, lt, other)) at_p at in
            slot_other j (omega (arith, less)) ∙ so_far.filled p j (omega (arith, lt, other)) at_p
      ];
      taken = λ p j le at_p.
          let more = rise k p i j (omega (arith, le)) at at_p in
          slot_other j (omega (arith, more)) ∙ so_far.taken p j (omega (arith, le)) at_p;
      others = λ j none.
          slot_other j (λ e. none (k, slice_get_within numbers k i at, get_or_from_slice_get numbers k i j at ∙ sym e))
          ∙ so_far.others j none;
      many = length_push holds next ∙ ap (λ m. m + 1) so_far.many;
      holds_are = λ p j lt at_p. elim (cases_eq p k) [
        | inl same ↦
            let here : i ≡ j = same_Some i j (sym at ∙ ap (slice_get numbers) (sym same) ∙ at_p) in
            rw (← here, same) (hold_last next is)
        | inr other ↦ hold_kept p _ next (so_far.holds_are p j (omega (arith, lt, other)) at_p)
      ];
    }

-- all parts
pub filled-all : (s : Job) (n : ℕ) (old new : Log) (holds : List PlainHold) → need s n ≤ length (free_slots old.slots)
    → FilledTo s n (need s n) (take (need s n) (free_slots old.slots)) old new holds → FillsLine s n old new holds
filled-all s n old new holds enough so_far =
    let free = free_slots old.slots in record {
      enough = enough;
      frame = so_far.frame;
      filled = λ p i lt at. so_far.filled p i lt (slice_get-take (need s n) free p lt ∙ at);
      others = so_far.others;
      many = so_far.many;
      holds_are = λ p i lt at. so_far.holds_are p i lt (slice_get-take (need s n) free p lt ∙ at);
    }

-- ---- how many parts there are

-- each part has some bytes
pub part-begins : (part chunk len : ℕ) → 0 < chunk → part < parts_of chunk len → part * chunk < len
part-begins part chunk len some lt =
    let bounds = div_ceil_times len chunk some in
    let next : part * chunk + chunk ≤ parts_of chunk len * chunk = grind arith in
    omega (arith, bounds, next)

-- so there are no more parts than bytes
pub part-below : (part chunk len : ℕ) → 0 < chunk → part < parts_of chunk len → part < len
part-below part chunk len some lt =
    let begins = part-begins part chunk len some lt in
    let more : part ≤ part * chunk = grind arith in
    omega (arith, begins, more)
