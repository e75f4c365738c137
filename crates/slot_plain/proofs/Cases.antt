-- Slots, logs and their devices, worked out by hand.
use Rattle.std.proofs.Common.{◌≡◌, ℕ, List, [], ◌∷◌, Some, None, true, false, take, refl}
use Rattle.std.specs.Prelude.{Option}
use Rattle.slot_plain.specs.LeastTree.{flags_in}
use Rattle.slot_plain.specs.Slots.{StoredPiece, Slot, free_slot, taken_slot, filled, pinned, released, slot_at, free_slots, held_count}
use Rattle.slot_plain.specs.Slots.{with_taken, bytes_of_slot}
use Rattle.slot_plain.specs.Log.{spill_place, bytes_from, told_slots}

-- ---- a log with holes: slots 1 and 3 are free, and slot 2 is held twice

abbrev pub stored : StoredPiece
stored = record { id = record { line = 3; part = 0 }; len = 2; bytes = Some (7 ∷ 8 ∷ []) }

abbrev pub full : Slot
full = filled stored taken_slot

abbrev pub holes : List Slot
holes = full ∷ free_slot ∷ pinned full ∷ free_slot ∷ taken_slot ∷ []

holes_are_free : free_slots holes ≡ 1 ∷ 3 ∷ []
holes_are_free = refl

lowest_of_them : take 1 (free_slots holes) ≡ 1 ∷ []
lowest_of_them = refl

three_are_held : held_count holes ≡ 3
three_are_held = refl

free_slot_counts_nothing : (slot_at holes 1).count ≡ 0
free_slot_counts_nothing = refl

slot_past_the_end_is_free : slot_at holes 9 ≡ free_slot
slot_past_the_end_is_free = refl

both_holes_taken : with_taken (1 ∷ 3 ∷ []) holes ≡ full ∷ taken_slot ∷ pinned full ∷ taken_slot ∷ taken_slot ∷ []
both_holes_taken = refl

-- ---- a slot that is released, and taken again

released_once_is_held : released (pinned full) ≡ full
released_once_is_held = refl

released_last_is_free : released full ≡ free_slot
released_last_is_free = refl

taken_after_release : free_slots (released full ∷ taken_slot ∷ []) ≡ 0 ∷ []
taken_after_release = refl

-- ---- the flags of a tree with room for three leaves, in which slot 1 is taken and no third slot is

flags_of_two : flags_in (0 ∷ 0 ∷ 4294967295 ∷ 0 ∷ 4294967295 ∷ 4294967295 ∷ []) 3 2 ≡ true ∷ false ∷ []
flags_of_two = refl

-- ---- what a device tells of slots behind one of shared memory, of two bytes each

abbrev pub told_cells : List (Option ℕ)
told_cells = None ∷ None ∷ Some 5 ∷ Some 6 ∷ []

third_slot_is_last_on_the_device : spill_place 1 2 2 ≡ 2
third_slot_is_last_on_the_device = refl

bytes_of_the_last_slot : bytes_from 2 2 (Some told_cells) ≡ Some (5 ∷ 6 ∷ [])
bytes_of_the_last_slot = refl

pieces_in_memory_and_on_the_device : bytes_of_slot (slot_at (told_slots 1 2 (Some told_cells) 0 (full ∷ free_slot ∷ full ∷ [])) 0) ≡ Some (7
    ∷ 8 ∷ [])
pieces_in_memory_and_on_the_device = refl

piece_on_the_device : bytes_of_slot (slot_at (told_slots 1 2 (Some told_cells) 0 (full ∷ free_slot ∷ full ∷ [])) 2) ≡ Some (5 ∷ 6 ∷ [])
piece_on_the_device = refl

no_device_tells : bytes_of_slot (slot_at (told_slots 1 2 None 0 (full ∷ free_slot ∷ full ∷ [])) 2) ≡ None
no_device_tells = refl
