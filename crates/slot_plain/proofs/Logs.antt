-- The slots of a log, as its table has them and as its device tells their bytes.
use Rattle.std.proofs.Common.{◌≡◌, ◌≢◌, ℕ, suc, zero, ◌+◌, ◌-◌, ◌*◌, ◌≤◌, ◌<◌, ◌==◌, nat_lt, Bool, true, false, List, [], ◌∷◌, Option, Some}
use Rattle.std.proofs.Common.{None, IfSome, length, set, map, replicate, if◌then◌else◌, arith, sym, ◌∙◌, ap, refl, ◌⊎◌, inl, inr, subst}
use Rattle.std.specs.Option.{option_map, ForSome}
use Rattle.std.proofs.lemmas.Bool.{cases_order, le-ltb, lt-ltb}
use Rattle.std.proofs.lemmas.List.{length-set}
use Rattle.std.proofs.lemmas.List.Sums.{sum_by-cons}
use Rattle.fs_dev.specs.SpillDev.{WasWritten}
use Rattle.slot_plain.specs.FreePlaces.{free_places}
use Rattle.slot_plain.specs.Slots.{StoredPiece, Slot, free_slot, taken_slot, released, is_free, is_held, slot_at, free_slots}
use Rattle.slot_plain.specs.Slots.{held_count, with_taken}
use Rattle.slot_plain.specs.Entries.{Table}
use Rattle.slot_plain.specs.Log.{DeviceState, spill_place, bytes_from, told_piece, told_slot, told_slots, Backs}

-- a slot once a slot is given another value
pub slot_at-set : (slots : List Slot) (n : ℕ) (s : Slot) (m : ℕ)
    → ((m ≡ n) × (slot_at (set slots n s) m ≡ s)) ⊎ (slot_at (set slots n s) m ≡ slot_at slots m)
slot_at-set [] n s m = inr refl
slot_at-set (x ∷ slots) zero s zero = inl (refl, refl)
slot_at-set (x ∷ slots) zero s (suc m) = inr refl
slot_at-set (x ∷ slots) (suc n) s zero = inr refl
slot_at-set (x ∷ slots) (suc n) s (suc m) = elim (slot_at-set slots n s m) [
  | inl here ↦ inl (ap suc here.0, here.1)
  | inr other ↦ inr other
]

-- a slot that is held is one of the log's
pub held-within : (slots : List Slot) (n : ℕ) → 0 < (slot_at slots n).count → n < length slots
held-within [] n held = absurd (omega arith)
held-within (s ∷ slots) zero held = omega arith
held-within (s ∷ slots) (suc n) held = let h = held-within slots n held in omega (arith, h)

-- so is one that has a piece
pub piece-within : (slots : List Slot) (n : ℕ) (p : StoredPiece) → (slot_at slots n).piece ≡ Some p → n < length slots
piece-within [] n p is = cc
piece-within (s ∷ slots) zero p is = omega arith
piece-within (s ∷ slots) (suc n) p is = let h = piece-within slots n p is in omega (arith, h)

module _ (shmem chunk : ℕ) (cells : Option (List (Option ℕ))) where
  pub length-told_slots : (n : ℕ) (slots : List Slot) → length (told_slots shmem chunk cells n slots) ≡ length slots
  length-told_slots n [] = refl
  length-told_slots n (s ∷ slots) = ap suc (length-told_slots (suc n) slots)

  slot_at-told_from : (n : ℕ) (slots : List Slot) (k m : ℕ) → n + k ≡ m
      → slot_at (told_slots shmem chunk cells n slots) k ≡ told_slot shmem chunk cells m (slot_at slots k)
  slot_at-told_from n [] k m is = refl
  slot_at-told_from n (s ∷ slots) zero m is = ap (λ i. told_slot shmem chunk cells i s) (omega arith)
  slot_at-told_from n (s ∷ slots) (suc k) m is = slot_at-told_from (suc n) slots k m (omega arith)

  -- the slot of a number
  pub slot_at-told : (slots : List Slot) (k : ℕ)
      → slot_at (told_slots shmem chunk cells 0 slots) k ≡ told_slot shmem chunk cells k (slot_at slots k)
  slot_at-told slots k = slot_at-told_from 0 slots k k (omega arith)

  told-set_from : (n : ℕ) (slots : List Slot) (k m : ℕ) (s : Slot) → n + k ≡ m → told_slots shmem chunk cells n (set slots k s)
      ≡ set (told_slots shmem chunk cells n slots) k (told_slot shmem chunk cells m s)
  told-set_from n [] k m s is = refl
  told-set_from n (x ∷ slots) zero m s is =
      ap (λ i. told_slot shmem chunk cells i s ∷ told_slots shmem chunk cells (suc n) slots) (omega arith)
  told-set_from n (x ∷ slots) (suc k) m s is = let rest = told-set_from (suc n) slots k m s (omega arith) in cc

  pub told-set : (slots : List Slot) (k : ℕ) (s : Slot) → told_slots shmem chunk cells 0 (set slots k s)
      ≡ set (told_slots shmem chunk cells 0 slots) k (told_slot shmem chunk cells k s)
  told-set slots k s = told-set_from 0 slots k k s (omega arith)

  pub told-with_taken : (numbers : List ℕ) (slots : List Slot)
      → told_slots shmem chunk cells 0 (with_taken numbers slots) ≡ with_taken numbers (told_slots shmem chunk cells 0 slots)
  told-with_taken [] slots = refl
  told-with_taken (n ∷ numbers) slots =
      told-with_taken numbers (set slots n taken_slot) ∙ ap (with_taken numbers) (told-set slots n taken_slot)

  pub told-free : (n k : ℕ) → told_slots shmem chunk cells n (replicate k free_slot) ≡ replicate k free_slot
  told-free n zero = refl
  told-free n (suc k) = ap (λ rest. free_slot ∷ rest) (told-free (suc n) k)

  flags-told : (n : ℕ) (slots : List Slot) → map is_free (told_slots shmem chunk cells n slots) ≡ map is_free slots
  flags-told n [] = refl
  flags-told n (s ∷ slots) = ap (λ flags. is_free s ∷ flags) (flags-told (suc n) slots)

  pub free_slots-told : (slots : List Slot) → free_slots (told_slots shmem chunk cells 0 slots) ≡ free_slots slots
  free_slots-told slots = ap free_places (flags-told 0 slots)

  held_count-told_from : (n : ℕ) (slots : List Slot) → held_count (told_slots shmem chunk cells n slots) ≡ held_count slots
  held_count-told_from n [] = refl
  held_count-told_from n (s ∷ slots) =
      let f : Slot → ℕ = λ x. if is_held x then 1 else 0 in
      sum_by-cons f (told_slot shmem chunk cells n s) (told_slots shmem chunk cells (suc n) slots)
      ∙ ap (λ m. f s + m) (held_count-told_from (suc n) slots) ∙ sym (sum_by-cons f s slots)

  pub held_count-told : (slots : List Slot) → held_count (told_slots shmem chunk cells 0 slots) ≡ held_count slots
  held_count-told slots = held_count-told_from 0 slots

  -- a slot that is held less often, as it is told
  released_if : (b : Bool) (n : ℕ) (s : Slot)
      → told_slot shmem chunk cells n (if b then free_slot else record { count = s.count - 1; piece = s.piece })
      ≡ (if b then free_slot
      else record { count = s.count - 1; piece = option_map (told_piece shmem chunk cells n) s.piece })
  released_if true n s = refl
  released_if false n s = refl

  pub told-released : (n : ℕ) (s : Slot)
      → told_slot shmem chunk cells n (released s) ≡ released (told_slot shmem chunk cells n s)
  told-released n s = released_if (s.count == 1) n s

  -- a slot of shared memory
  memory_piece : (n : ℕ) (o : Option StoredPiece) → nat_lt n shmem ≡ true → option_map (told_piece shmem chunk cells n) o ≡ o
  memory_piece n None is = refl
  memory_piece n (Some p) is = rw is refl

  pub told-in_memory : (n : ℕ) (s : Slot) → n < shmem → told_slot shmem chunk cells n s ≡ s
  told-in_memory n s lt = ap (λ o. record s { piece = o }) (memory_piece n s.piece (lt-ltb n shmem lt))

  -- a piece behind shared memory
  pub told-spilled : (n : ℕ) (p : StoredPiece) → shmem ≤ n → told_piece shmem chunk cells n p
      ≡ record { id = p.id; len = p.len; bytes = bytes_from (spill_place shmem chunk n) p.len cells }
  told-spilled n p le = let behind : nat_lt n shmem ≡ false = le-ltb n shmem le in rw behind refl

-- cells that tell each slot's piece alike tell the slots alike
module _ (shmem chunk : ℕ) (cells cells' : Option (List (Option ℕ))) where
  told-alike_from : (n : ℕ) (slots : List Slot)
      → ((k m : ℕ) → n + k ≡ m → told_slot shmem chunk cells m (slot_at slots k) ≡ told_slot shmem chunk cells' m (slot_at slots k))
      → told_slots shmem chunk cells n slots ≡ told_slots shmem chunk cells' n slots
  told-alike_from n [] alike = refl
  told-alike_from n (s ∷ slots) alike =
      let first = alike 0 n (omega arith) in
      let rest = told-alike_from (suc n) slots (λ k m is. alike (suc k) m (omega arith)) in cc

  pub told-alike : (slots : List Slot)
      → ((k : ℕ) → told_slot shmem chunk cells k (slot_at slots k) ≡ told_slot shmem chunk cells' k (slot_at slots k))
      → told_slots shmem chunk cells 0 slots ≡ told_slots shmem chunk cells' 0 slots
  told-alike slots alike = told-alike_from 0 slots (λ k m is. let same : m ≡ k = omega arith in rw same (alike k))

-- ---- what a device has room for

-- a multiple that is less is less by at least one more
times_less : (a b c : ℕ) → a < b → a * c + c ≤ b * c
times_less a b c lt = grind arith

-- ranges of slots behind shared memory don't meet
pub ranges_apart : (a b c x y : ℕ) → a ≢ b → x ≤ c → y ≤ c → (a * c + x ≤ b * c) ⊎ (b * c + y ≤ a * c)
ranges_apart a b c x y differ first second = elim (cases_order a b) [
  | inl same ↦ absurd (differ same)
  | inr (inl less) ↦ inl (omega (arith, times_less a b c less))
  | inr (inr more) ↦ inr (omega (arith, times_less b a c more))
]

-- the range of a slot behind shared memory is within the device
pub place_within : (t : Table) (device : DeviceState) (n len : ℕ) → Backs t device → n < length t.slots → t.shmem ≤ n → len ≤ t.chunk
    → spill_place t.shmem t.chunk n + len ≤ device.size
place_within t device n len backs within le fits =
    let room = backs.room in
    let less = times_less (n - t.shmem) (length t.slots - t.shmem) t.chunk (omega arith) in
    omega (arith, room, less)

-- a table with another slot is backed, where that slot's piece is
pub Backs-set : (t : Table) (device : DeviceState) (n : ℕ) (s : Slot) → Backs t device
    → ((p : StoredPiece) → s.piece ≡ Some p → (p.len ≤ t.chunk)
    × (t.shmem ≤ n → WasWritten (spill_place t.shmem t.chunk n) p.len device.cells))
    → Backs (record { shmem = t.shmem; chunk = t.chunk; made = t.made; slots = set t.slots n s }) device
Backs-set t device n s backs one = record {
  room = rw length-set backs.room;
  fits = λ m p at. elim (slot_at-set t.slots n s m) [
    | inl here ↦ (one p (ap (λ (x : Slot). x.piece) (sym here.1) ∙ at)).0
    | inr other ↦ backs.fits m p (ap (λ (x : Slot). x.piece) (sym other) ∙ at)
  ];
  written = λ m p le at. elim (slot_at-set t.slots n s m) [
    | inl here ↦ let same = here.0 in rw same ((one p (ap (λ (x : Slot). x.piece) (sym here.1) ∙ at)).1 (omega arith))
    | inr other ↦ backs.written m p le (ap (λ (x : Slot). x.piece) (sym other) ∙ at)
  ];
}

-- a table whose slots were taken is backed, however many entries were made
pub Backs-with_taken : (t : Table) (device : DeviceState) (made : ℕ) (numbers : List ℕ) → Backs t device
    → Backs (record { shmem = t.shmem; chunk = t.chunk; made = made; slots = with_taken numbers t.slots }) device
Backs-with_taken t device made [] backs = record { room = backs.room; fits = backs.fits; written = backs.written }
Backs-with_taken t device made (n ∷ numbers) backs =
    Backs-with_taken (record { shmem = t.shmem; chunk = t.chunk; made = t.made; slots = set t.slots n taken_slot }) device made numbers
    (Backs-set t device n taken_slot backs (λ p none. cc))

-- what is said of cells that may be told
pub every_told : {X : Type 0} (o : Option X) (P : X → Type 0) → IfSome o P → ForSome o P
every_told None P one x is = cc
every_told (Some y) P one x is = let same : y ≡ x = cc in subst P same one
