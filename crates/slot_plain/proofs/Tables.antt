-- Slots of entries: what a change of an entry is to the slots.
use Rattle.std.proofs.Common.{◌≡◌, ℕ, suc, zero, ◌+◌, ◌-◌, ◌≤◌, ◌<◌, Bool, true, false, List, [], ◌∷◌, ◌++◌, Some, length, set, slice_get}
use Rattle.std.proofs.Common.{map, replicate, arith, sym, ◌∙◌, ap, refl, ◌⊎◌, inl, inr, subst, count_by, if◌then◌else◌}
use Rattle.std.proofs.lemmas.Bool.{cases_lt, cases_eq, eq-eqb, ne_eqb, lt-ltb, le-ltb}
use Rattle.std.proofs.lemmas.List.Sums.{sum_by-append, sum_by-cons}
use Rattle.std.proofs.lemmas.List.{length-set, length-append, length-map, length-replicate, map-set, map-append, set-append_left}
use Rattle.std.proofs.lemmas.List.{get_or_append_left, get_or-append_right, get_or_past, get_or-replicate, get_or-map, append_assoc}
use Rattle.std.proofs.lemmas.List.{length_push, map_push}
use Rattle.std.proofs.lemmas.Option.{slice_get_within, get_or_from_slice_get}
use Rattle.slot_plain.specs.FreePlaces.{free_from, free_places}
use Rattle.slot_plain.specs.Slots.{free_slot, is_free, is_held, slot_at, free_slots, held_count}
use Rattle.slot_plain.specs.Entries.{entry_slot, slots_of, is_unheld, IsEntry, AreEntries}
use Rattle.slot_plain.specs.declared.entry.Entry.{Entry}
use Rattle.fs_script.proofs.CallerLemmas.{slice_get-set_same, slice_get-set_other}
use Rattle.slot_plain.proofs.FreeLists.{free_from-append, length-free_from-le}

-- ---- lists

-- an element of a list that has one more at its end
slice_get-push : {X : Type 0} (xs : List X) (y : X) (i : ℕ) (x : X) → slice_get (xs ++ y ∷ []) i ≡ Some x
    → (slice_get xs i ≡ Some x) ⊎ ((i ≡ length xs) × (y ≡ x))
slice_get-push [] y zero x at = inr (refl, cc)
slice_get-push [] y (suc i) x at = cc
slice_get-push (z ∷ xs) y zero x at = inl at
slice_get-push (z ∷ xs) y (suc i) x at = elim (slice_get-push xs y i x at) [
  | inl was ↦ inl was
  | inr more ↦ inr (ap suc more.0, more.1)
]

-- ---- the slots of entries

length-free_from-replicate : (n k : ℕ) → length (free_from n (replicate k true)) ≡ k
length-free_from-replicate n zero = refl
length-free_from-replicate n (suc k) = ap suc (length-free_from-replicate (suc n) k)

flags_of_entries : (entries : List Entry) → map is_free (map entry_slot entries) ≡ map is_unheld entries
flags_of_entries [] = refl
flags_of_entries (e ∷ entries) = ap (λ flags. is_unheld e ∷ flags) (flags_of_entries entries)

flags_of_free : (k : ℕ) → map is_free (replicate k free_slot) ≡ replicate k true
flags_of_free zero = refl
flags_of_free (suc k) = ap (λ flags. true ∷ flags) (flags_of_free k)

held_count-free : (k : ℕ) → count_by is_held (replicate k free_slot) ≡ 0
held_count-free zero = refl
held_count-free (suc k) = held_count-free k

-- an entry is held or free
held_or_free : (n : ℕ) (e : Entry) (rest : List Bool) (k : ℕ) → e.count ≡ k
    → (if is_held (entry_slot e) then 1 else 0) + length (free_from n (is_unheld e ∷ rest)) ≡ suc (length (free_from (suc n) rest))
held_or_free n e rest zero is =
    let free : is_unheld e ≡ true = eq-eqb _ _ is in
    let held : is_held (entry_slot e) ≡ false = le-ltb 0 e.count (omega arith) in
    rw (free, held) (omega arith)
held_or_free n e rest (suc k) is =
    let free : is_unheld e ≡ false = ne_eqb _ _ (λ none. absurd (omega arith)) in
    let held : is_held (entry_slot e) ≡ true = lt-ltb 0 e.count (omega arith) in
    rw (free, held) (omega arith)

held_and_free : (n : ℕ) (entries : List Entry)
    → count_by is_held (map entry_slot entries) + length (free_from n (map is_unheld entries)) ≡ length entries
held_and_free n [] = refl
held_and_free n (e ∷ entries) =
    let first = held_or_free n e (map is_unheld entries) e.count refl in
    let rest = held_and_free (suc n) entries in
    let sum = sum_by-cons (λ s. if is_held s then 1 else 0) (entry_slot e) (map entry_slot entries) in
    omega (arith, first, rest, sum)

module _ (entries : List Entry) (total : ℕ) where
  pub length-slots_of : length entries ≤ total → length (slots_of entries total) ≡ total
  length-slots_of few =
      length-append (map entry_slot entries) (replicate (total - length entries) free_slot)
      ∙ omega (arith, length-map entries entry_slot, length-replicate (total - length entries) free_slot)

  -- the slot of an entry
  pub slot_at-entry : (n : ℕ) (e : Entry) → slice_get entries n ≡ Some e → slot_at (slots_of entries total) n ≡ entry_slot e
  slot_at-entry n e at =
      let within = slice_get_within entries n e at in
      let there : n < length (map entry_slot entries) = omega (arith, within, length-map entries entry_slot) in
      get_or_append_left (map entry_slot entries) (replicate (total - length entries) free_slot) free_slot n there
      ∙ get_or-map entry_slot entries n e free_slot within
      ∙ ap entry_slot (get_or_from_slice_get entries n e e at)

  -- a slot without an entry
  pub slot_at-none : (n : ℕ) → length entries ≤ n → slot_at (slots_of entries total) n ≡ free_slot
  slot_at-none n past =
      let size = length-map entries entry_slot in
      get_or-append_right (map entry_slot entries) (replicate (total - length entries) free_slot) (length entries) n free_slot size past
      ∙ elim (cases_lt (n - length entries) (total - length entries)) [
        | inl lt ↦ get_or-replicate (total - length entries) (n - length entries) free_slot free_slot lt
        | inr le ↦
            get_or_past (replicate (total - length entries) free_slot) (n - length entries) free_slot
            (omega (arith, le, length-replicate (total - length entries) free_slot))
      ]

  -- an entry that is changed
  pub slots_of-set : (n : ℕ) (e : Entry) → n < length entries
      → slots_of (set entries n e) total ≡ set (slots_of entries total) n (entry_slot e)
  slots_of-set n e within =
      let there : n < length (map entry_slot entries) = omega (arith, within, length-map entries entry_slot) in
      rw (map-set entry_slot entries n e, length-set entries n e)
      (sym (set-append_left (map entry_slot entries) (replicate (total - length entries) free_slot) n (entry_slot e) there))

  -- an entry of a free slot that is added
  pub slots_of-push : (e : Entry) → length entries < total → entry_slot e ≡ free_slot
      → slots_of (entries ++ e ∷ []) total ≡ slots_of entries total
  slots_of-push e more free =
      let one_less : total - length entries ≡ suc (total - (length entries + 1)) = omega arith in
      rw (length_push entries e, map_push entry_slot entries e, free, one_less)
      (append_assoc (map entry_slot entries) (free_slot ∷ []) (replicate (total - (length entries + 1)) free_slot))

  -- the flags of all slots
  flags_of_slots : map is_free (slots_of entries total) ≡ map is_unheld entries ++ replicate (total - length entries) true
  flags_of_slots =
      rw (map-append is_free (map entry_slot entries) (replicate (total - length entries) free_slot), flags_of_entries entries)
      (ap (λ xs. map is_unheld entries ++ xs) (flags_of_free (total - length entries)))

  -- the slots that are free: those of entries, and then those that have none
  pub free_slots-slots_of : free_slots (slots_of entries total)
      ≡ free_places (map is_unheld entries) ++ free_from (length entries) (replicate (total - length entries) true)
  free_slots-slots_of =
      rw flags_of_slots
      (free_from-append 0 (length entries) (map is_unheld entries) (replicate (total - length entries) true)
      (omega (arith, length-map entries is_unheld)))

  -- how many slots are free
  pub length-free_slots : length (free_slots (slots_of entries total))
      ≡ length (free_places (map is_unheld entries)) + (total - length entries)
  length-free_slots =
      let rest = free_from (length entries) (replicate (total - length entries) true) in
      rw free_slots-slots_of (omega (
        arith,
        length-append (free_places (map is_unheld entries)) rest,
        length-free_from-replicate (length entries) (total - length entries),
      ))

  -- how many slots are held
  pub held_count-slots_of : held_count (slots_of entries total) + length (free_places (map is_unheld entries)) ≡ length entries
  held_count-slots_of =
      let sum = sum_by-append (λ s. if is_held s then 1 else 0) (map entry_slot entries) (replicate (total - length entries) free_slot) in
      let none = held_count-free (total - length entries) in
      let some = held_and_free 0 entries in
      omega (arith, sum, none, some)

-- ---- the same of entries with their flags

module _ {shmem chunk total : ℕ} {free : List Bool} {entries : List Entry} (are : AreEntries shmem chunk total free entries) where
  pub length-flags : length free ≡ length entries
  length-flags = ap length are.flags ∙ length-map entries is_unheld

  -- the flags that are set, and the slots that are free
  pub free_flags : (length (free_places free) ≤ length entries)
      × (length (free_slots (slots_of entries total)) ≡ length (free_places free) + (total - length entries))
  free_flags =
      let le = length-free_from-le 0 free in (
        omega (arith, le, length-flags),
        length-free_slots entries total ∙ ap (λ flags. length (free_places flags) + (total - length
            entries)) (sym are.flags),
      )

  -- the flags that are set, and the slots that are held
  pub held_flags : held_count (slots_of entries total) + length (free_places free) ≡ length entries
  held_flags =
      ap (λ flags. held_count (slots_of entries total) + length (free_places flags)) are.flags ∙ held_count-slots_of entries total

  -- an entry is changed, and its flag with it
  module _ (n : ℕ) (e : Entry) (within : n < length entries) where
    pub AreEntries-set : (flags : List Bool) → flags ≡ set free n (is_unheld e) → IsEntry shmem chunk n e
        → AreEntries shmem chunk total flags (set entries n e)
    AreEntries-set flags is one = record {
      few = let f = are.few in omega (arith, f, length-set entries n e);
      numbers = are.numbers;
      flags = is ∙ ap (λ xs. set xs n (is_unheld e)) are.flags ∙ sym (map-set is_unheld entries n e);
      each = λ m x at. elim (cases_eq m n) [
        | inl same ↦
            let here = sym at ∙ ap (slice_get (set entries n e)) same ∙ slice_get-set_same entries n e within in
            let is_e : e ≡ x = cc in
            rw (same, ← is_e) one
        | inr other ↦ are.each m x (sym (slice_get-set_other entries n m e other) ∙ at)
      ];
    }

  -- an entry of a free slot is added
  pub AreEntries-push : (e : Entry) → length entries < total → e.count ≡ 0 → IsEntry shmem chunk (length entries) e
      → AreEntries shmem chunk total (free ++ true ∷ []) (entries ++ e ∷ [])
  AreEntries-push e more unheld one = record {
    few = omega (arith, length_push entries e);
    numbers = are.numbers;
    flags = ap (λ xs. xs ++ true ∷ []) are.flags
        ∙ ap (λ flag. map is_unheld entries ++ flag ∷ []) (sym (eq-eqb _ _ unheld)) ∙ sym (map_push is_unheld entries e);
    each = λ m x at. elim (slice_get-push entries e m x at) [
      | inl was ↦ are.each m x was
      | inr here ↦ rw here.0 (subst (IsEntry shmem chunk (length entries)) here.1 one)
    ];
  }
