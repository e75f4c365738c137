-- Slots that were taken: as many as were wanted, each held once, and the others as they were.
use Rattle.std.proofs.Common.{◌≡◌, ℕ, suc, zero, ◌+◌, ◌≤◌, ◌<◌, Bool, true, false, All, Contains, List, [], ◌∷◌, length, get_or, take}
use Rattle.std.proofs.Common.{map, set, arith, sym, ◌∙◌, ap, refl, inl, inr, subst}
use Rattle.std.proofs.lemmas.List.{length-take, length-map, length-set, get_or-set_same}
use Rattle.std.proofs.lemmas.List.Elements.{All-take}
use Rattle.slot_plain.specs.FreePlaces.{free_from}
use Rattle.slot_plain.specs.Slots.{Slot, free_slot, taken_slot, is_free, slot_at, free_slots, with_taken}
use Rattle.slot_plain.proofs.Logs.{slot_at-set}

-- what is free is one of the places
free_from-within : (n : ℕ) (flags : List Bool) → All (λ m. m < n + length flags) (free_from n flags)
free_from-within n [] k d lt = absurd (omega arith)
free_from-within n (true ∷ rest) zero d lt = omega arith
free_from-within n (true ∷ rest) (suc k) d lt = let h = free_from-within (suc n) rest k d (omega arith) in omega (arith, h)
free_from-within n (false ∷ rest) k d lt = let h = free_from-within (suc n) rest k d lt in omega (arith, h)

free_slots-within : (slots : List Slot) → All (λ m. m < length slots) (free_slots slots)
free_slots-within slots k d lt =
    let h = free_from-within 0 (map is_free slots) k d lt in omega (arith, h, length-map slots is_free)

-- a slot that was taken stays so
with_taken-keeps : (numbers : List ℕ) (slots : List Slot) (m : ℕ) → slot_at slots m ≡ taken_slot → slot_at (with_taken numbers slots) m
    ≡ taken_slot
with_taken-keeps [] slots m is = is
with_taken-keeps (n ∷ numbers) slots m is = with_taken-keeps numbers (set slots n taken_slot) m (elim (slot_at-set slots n taken_slot m) [
  | inl here ↦ here.1
  | inr other ↦ other ∙ is
])

with_taken-each : (numbers : List ℕ) (slots : List Slot) (k d : ℕ) → All (λ m. m < length slots) numbers → k < length numbers
    → slot_at (with_taken numbers slots) (get_or numbers k d) ≡ taken_slot
with_taken-each [] slots k d within lt = absurd (omega arith)
with_taken-each (n ∷ numbers) slots zero d within lt =
    with_taken-keeps numbers (set slots n taken_slot) n (get_or-set_same slots n taken_slot free_slot (within 0 n (omega arith)))
with_taken-each (n ∷ numbers) slots (suc k) d within lt =
    with_taken-each numbers (set slots n taken_slot) k d
    (λ i e less. let h = within (suc i) e (omega arith) in omega (arith, h, length-set slots n taken_slot)) (omega arith)

-- a slot that is none of these is as it was
with_taken-other : (numbers : List ℕ) (slots : List Slot) (m : ℕ) → (Contains numbers m → ⊥)
    → slot_at (with_taken numbers slots) m ≡ slot_at slots m
with_taken-other [] slots m none = refl
with_taken-other (n ∷ numbers) slots m none =
    with_taken-other numbers (set slots n taken_slot) m (λ there. none (suc there.0, omega (arith, there.1), there.2))
    ∙ elim (slot_at-set slots n taken_slot m) [
      | inl here ↦ absurd (none (0, omega arith, sym here.0))
      | inr other ↦ other
    ]

-- ---- the lowest free slots, so many

module _ (slots : List Slot) (k : ℕ) (numbers : List ℕ) (lowest : numbers ≡ take k (free_slots slots)) where
  pub taken-many : k ≤ length (free_slots slots) → length numbers ≡ k
  taken-many enough = ap length lowest ∙ omega (arith, length-take k (free_slots slots), enough)

  pub taken-each : All (λ m. slot_at (with_taken numbers slots) m ≡ taken_slot) numbers
  taken-each i d lt =
      let within : All (λ m. m < length slots) numbers =
      subst (All (λ m. m < length slots)) (sym lowest)
      (All-take (λ m. m < length slots) k (free_slots slots) (free_slots-within slots)) in
      with_taken-each numbers slots i d within lt

  pub taken-others : (m : ℕ) → (Contains numbers m → ⊥) → slot_at (with_taken numbers slots) m ≡ slot_at slots m
  taken-others m none = with_taken-other numbers slots m none
