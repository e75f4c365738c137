-- What the calls of a table of slots do to its entries, and to the table that a clause sees.
use Rattle.std.proofs.Common.{◌≡◌, ◌≢◌, ℕ, ◌+◌, ◌-◌, ◌≤◌, ◌<◌, ◌==◌, Bool, true, false, List, [], ◌∷◌, ◌++◌, Some, None, length, set}
use Rattle.std.proofs.Common.{slice_get, get_or, map, replicate, take, drop, slice_range, Option, IfSome, Vec, Global, take-take, arith}
use Rattle.std.proofs.Common.{sym, ◌∙◌, ap, refl, inl, inr, subst}
use Rattle.std.proofs.lemmas.Bool.{eq-eqb, ne_eqb, eqb-true, cases_lt}
use Rattle.std.proofs.lemmas.List.{length-set, length-map, length-append, set-get_or}
use Rattle.std.proofs.lemmas.Option.{slice_get_within, slice_get-map, slice_get_read, get_or_from_slice_get}
use Rattle.std.specs.Option.{option_map}
use Rattle.slot_plain.specs.FreePlaces.{free_places, free_from}
use Rattle.slot_plain.specs.Slots.{Slot, free_slot, taken_slot, released, filled, bytes_of_slot, HasPieceOf, slot_at, free_slots}
use Rattle.slot_plain.specs.Slots.{is_free, with_taken}
use Rattle.slot_plain.specs.Entries.{Table, table_of, entry_slot, slots_of, is_unheld, IsEntry, AreEntries}
use Rattle.slot_plain.specs.declared.entry.Entry.{Entry}
use Rattle.slot_plain.specs.declared.entry.FilledPiece.{FilledPiece}
use Rattle.std.proofs.lemmas.Slice.{between_is}
use Rattle.slot_plain.proofs.FreeLists.{length-free_from-le}
use Rattle.slot_plain.proofs.Tables.{slot_at-entry, slot_at-none, slots_of-set, slots_of-push, free_slots-slots_of}
use Rattle.slot_plain.proofs.Tables.{length-slots_of, AreEntries-set, AreEntries-push, length-flags, free_flags}

-- the table with another slot at a number
abbrev pub with_slot : Table → ℕ → Slot → Table
with_slot t n s = record { shmem = t.shmem; chunk = t.chunk; made = t.made; slots = set t.slots n s }

-- a part of a list that lies before a place is that part of the places before it
slice_range-take : (n : ℕ) (xs : List ℕ) (i j : ℕ) → j ≤ n → slice_range (take n xs) i j ≡ slice_range xs i j
slice_range-take n xs i j le =
    between_is (take n xs) i j ∙ ap (drop i) (take-take j n xs le) ∙ sym (between_is xs i j)

-- the piece of an entry, where the slot has one of so many bytes
piece_of : (o : Option FilledPiece) (len count : ℕ) (buffer : Vec ℕ Global)
    → HasPieceOf (entry_slot (record { count = count; piece = o; buffer = buffer })) len → (p : FilledPiece) × (o ≡ Some p) × (len ≤ p.len)
piece_of None len count buffer has = absurd has
piece_of (Some p) len count buffer has = (p, refl, has)

module _ {shmem chunk total : ℕ} {free : List Bool} {entries : List Entry} (are : AreEntries shmem chunk total free entries)
    {table : Table} (is : table_of shmem chunk total entries ≡ table) where
  slots_is : slots_of entries total ≡ table.slots
  slots_is = ap (λ (t : Table). t.slots) is

  -- a slot without an entry is free
  slot_free : (n : ℕ) → length entries ≤ n → slot_at table.slots n ≡ free_slot
  slot_free n none = rw (← slots_is) (slot_at-none entries total n none)

  -- a slot that is held has an entry
  pub entry_of_held : (n : ℕ) → 0 < (slot_at table.slots n).count → n < length entries
  entry_of_held n held = elim (cases_lt n (length entries)) [
    | inl within ↦ within
    | inr none ↦ let count = ap (λ (s : Slot). s.count) (slot_free n none) in absurd (omega (arith, held, count))
  ]

  -- so has one that has a piece
  pub entry_of_piece : (n len : ℕ) → HasPieceOf (slot_at table.slots n) len → n < length entries
  entry_of_piece n len has = elim (cases_lt n (length entries)) [
    | inl within ↦ within
    | inr none ↦ absurd (subst (λ (s : Slot). HasPieceOf s len) (slot_free n none) has)
  ]

  module _ (n : ℕ) {now : Entry} (within : n < length entries) (read : now ≡ get_or entries n now) where
    entry_at : slice_get entries n ≡ Some now
    entry_at = slice_get_read entries (length entries) n now refl within read

    entry_is : IsEntry shmem chunk n now
    entry_is = are.each n now entry_at

    pub slot_is : slot_at table.slots n ≡ entry_slot now
    slot_is = ap (λ slots. slot_at slots n) (sym slots_is) ∙ slot_at-entry entries total n now entry_at

    flag_is : slice_get free n ≡ Some (is_unheld now)
    flag_is =
        ap (λ flags. slice_get flags n) are.flags ∙ slice_get-map is_unheld entries n ∙ ap (option_map is_unheld) entry_at

    -- a changed entry, in the table
    pub changed : (e : Entry) {s : Slot} → entry_slot e ≡ s → table_of shmem chunk total (set entries n e) ≡ with_slot table n s
    changed e {s} slot =
        ap (λ m. record { shmem = shmem; chunk = chunk; made = m; slots = slots_of (set entries n e) total }) (length-set entries n e)
        ∙ ap (λ slots. record { shmem = shmem; chunk = chunk; made = length entries; slots = slots })
        (slots_of-set entries total n e within ∙ ap (set (slots_of entries total) n) slot)
        ∙ ap (λ t. with_slot t n s) is

    -- the entry of a slot that is held is changed, and is held
    held_still : 0 < (slot_at table.slots n).count → {e : Entry} → 0 < e.count → IsEntry shmem chunk n e
        → AreEntries shmem chunk total free (set entries n e)
    held_still held {e} more one =
        let count = ap (λ (s : Slot). s.count) slot_is in
        let before : is_unheld now ≡ false = ne_eqb _ _ (λ none. absurd (omega arith)) in
        let after : is_unheld e ≡ false = ne_eqb _ _ (λ none. absurd (omega arith)) in
        AreEntries-set are n e within free
        (sym (ap (set free n) (after ∙ sym before ∙ sym (get_or_from_slice_get free n (is_unheld now) false flag_is))
        ∙ set-get_or free n false)) one

    -- it is held more often or less
    pub counted-entries : 0 < (slot_at table.slots n).count → {k : ℕ} → 0 < k
        → AreEntries shmem chunk total free (set entries n (record now { count = k }))
    counted-entries held more =
        held_still held more (record { buffer = entry_is.buffer; piece = entry_is.piece; free = λ none. absurd (omega arith) })

    -- ---- a release

    -- a slot that is held has a flag that isn't set
    pub held_flag : 0 < (slot_at table.slots n).count → slice_get free n ≡ Some false
    held_flag held =
        let count = ap (λ (s : Slot). s.count) slot_is in
        flag_is ∙ ap Some (ne_eqb now.count 0 (λ none. absurd (omega arith)))

    -- nothing holds it any more
    pub freed-entries : (k : ℕ) → k ≡ 0
        → AreEntries shmem chunk total (set free n true) (set entries n (record now { count = k; piece = None }))
    freed-entries k last =
        AreEntries-set are n (record now { count = k; piece = None }) within (set free n true) (ap (set free n) (sym (eq-eqb _ _ last)))
        (record { buffer = entry_is.buffer; piece = λ p none. cc; free = λ _. refl })

    module _ (held : 0 < (slot_at table.slots n).count) where
      pub freed-table : now.count - 1 ≡ 0
          → table_of shmem chunk total (set entries n (record now { count = now.count - 1; piece = None }))
          ≡ with_slot table n (released (slot_at table.slots n))
      freed-table last =
          let count = ap (λ (s : Slot). s.count) slot_is in
          let one : ((slot_at table.slots n).count == 1) ≡ true = eq-eqb _ _ (omega arith) in
          changed _ (rw (one, last) refl)

      -- something else holds it
      pub lowered-table : now.count - 1 ≢ 0
          → table_of shmem chunk total (set entries n (record now { count = now.count - 1 }))
          ≡ with_slot table n (released (slot_at table.slots n))
      lowered-table more =
          let count = ap (λ (s : Slot). s.count) slot_is in
          let one : ((slot_at table.slots n).count == 1) ≡ false = ne_eqb _ _ (λ e. more (omega arith)) in
          changed _ (rw one (rw slot_is refl))

    -- ---- a piece

    pub buffer_size : n < table.shmem → length now.buffer.items ≡ table.chunk
    buffer_size in_memory =
        let mem = ap (λ (t : Table). t.shmem) is in
        entry_is.buffer (omega arith) ∙ ap (λ (t : Table). t.chunk) is

    module _ (p : FilledPiece) (buffer : Vec ℕ Global) where
      pub filled-entries : 0 < (slot_at table.slots n).count → p.len ≤ table.chunk
          → (n < table.shmem → length buffer.items ≡ table.chunk)
          → AreEntries shmem chunk total free (set entries n (record now { piece = Some p; buffer = buffer }))
      filled-entries held fits size =
          let count = ap (λ (s : Slot). s.count) slot_is in
          let mem = ap (λ (t : Table). t.shmem) is in
          let bytes = ap (λ (t : Table). t.chunk) is in
          held_still held (omega arith) (record {
            buffer = λ lt. size (omega arith) ∙ sym bytes;
            piece = λ q at. let same : p ≡ q = cc in subst (λ (r : FilledPiece). r.len ≤ chunk) same (omega arith);
            free = λ none. absurd (omega arith);
          })

      pub filled-table : {bytes : List ℕ} → take p.len buffer.items ≡ bytes
          → table_of shmem chunk total (set entries n (record now { piece = Some p; buffer = buffer }))
          ≡ with_slot table n (filled (record { id = p.id; len = p.len; bytes = Some bytes }) (slot_at table.slots n))
      filled-table first = changed _ (rw (slot_is, first) refl)

    -- a piece is read from a slot of shared memory
    module _ (from size : ℕ) (inside : HasPieceOf (slot_at table.slots n) (from + size)) where
      read_piece : (p : FilledPiece) × (now.piece ≡ Some p) × (from + size ≤ p.len)
      read_piece = piece_of now.piece (from + size) now.count now.buffer (subst (λ (s : Slot). HasPieceOf s (from + size)) slot_is inside)

      pub read_bound : n < table.shmem → from + size ≤ length now.buffer.items
      read_bound in_memory =
          let fits = entry_is.piece read_piece.0 read_piece.1 in
          let bytes = ap (λ (t : Table). t.chunk) is in
          omega (arith, fits, buffer_size in_memory, bytes, read_piece.2)

      pub read_bytes : {out : List ℕ} → out ≡ slice_range now.buffer.items from (from + size)
          → IfSome (bytes_of_slot (slot_at table.slots n)) (λ bytes. out ≡ slice_range bytes from (from + size))
      read_bytes is =
          rw (slot_is, read_piece.1) (is ∙ sym (slice_range-take read_piece.0.len now.buffer.items from (from + size) read_piece.2))

    -- ---- the lowest free slot is taken

    module _ {free_again : List Bool} (unheld : slice_get free n ≡ Some true) (taken : free_again ≡ set free n false) where
      pub taken-entries : AreEntries shmem chunk total free_again (set entries n (record now { count = 1 }))
      taken-entries =
          AreEntries-set are n (record now { count = 1 }) within free_again taken
          (record { buffer = entry_is.buffer; piece = entry_is.piece; free = λ none. absurd (omega arith) })

      pub taken-table : table_of shmem chunk total (set entries n (record now { count = 1 })) ≡ with_slot table n taken_slot
      taken-table =
          let same = sym flag_is ∙ unheld in
          let set_flag : is_unheld now ≡ true = cc in
          changed _ (rw (entry_is.free (eqb-true _ _ set_flag)) refl)

      pub taken-lowest : free_places free ≡ n ∷ free_places free_again
          → free_slots table.slots ≡ n ∷ free_slots (slots_of (set entries n (record now { count = 1 })) total)
      taken-lowest lowest =
          let e : Entry = record now { count = 1 } in
          let rest = replicate (total - length entries) true in
          let before : List ℕ → List ℕ = λ xs. xs ++ free_from (length entries) rest in
          ap free_slots (sym slots_is) ∙ free_slots-slots_of entries total
          ∙ ap before (ap free_places (sym are.flags) ∙ lowest)
          ∙ ap (λ flags. n ∷ before (free_places flags)) taken-entries.flags
          ∙ ap (λ m. n ∷ free_places (map is_unheld (set entries n e)) ++ free_from m (replicate (total - m) true))
          (sym (length-set entries n e))
          ∙ ap (λ xs. n ∷ xs) (sym (free_slots-slots_of (set entries n e) total))

  -- where a slot with an entry is free, its flag is set
  pub some_flag : length table.slots < table.made + length (free_slots table.slots) → 0 < length (free_places free)
  some_flag some =
      let flags = free_flags are in
      let slots = ap (λ (t : Table). length t.slots) is in
      let unheld = ap (λ (t : Table). length (free_slots t.slots)) is in
      let made = ap (λ (t : Table). t.made) is in
      omega (arith, flags, slots, unheld, made, length-slots_of entries total are.few)

  -- ---- one more entry

  module _ (e : Entry) (more : table.made < length table.slots) (count : e.count ≡ 0) (piece : e.piece ≡ None) where
    room : length entries < total
    room =
        let slots = ap (λ (t : Table). length t.slots) is in
        let made = ap (λ (t : Table). t.made) is in
        omega (arith, slots, made, length-slots_of entries total are.few)

    pub made-entries : (length entries < shmem → length e.buffer.items ≡ chunk)
        → AreEntries shmem chunk total (free ++ true ∷ []) (entries ++ e ∷ [])
    made-entries buffer =
        AreEntries-push are e room count
        (record { buffer = buffer; piece = λ p is. cc; free = λ _. piece })

    pub made-table : {made : ℕ} → length (entries ++ e ∷ []) ≡ made
        → table_of shmem chunk total (entries ++ e ∷ []) ≡ record table { made = made }
    made-table {made} size =
        let free_one : entry_slot e ≡ free_slot = rw (count, piece) refl in
        ap (λ m. record { shmem = shmem; chunk = chunk; made = m; slots = slots_of (entries ++ e ∷ []) total }) size
        ∙ ap (λ slots. record { shmem = shmem; chunk = chunk; made = made; slots = slots }) (slots_of-push entries total e room free_one)
        ∙ ap (λ (t : Table). record t { made = made }) is

-- a slot with a flag has an entry
pub flag_within : {shmem chunk total : ℕ} {free : List Bool} {entries : List Entry} → AreEntries shmem chunk total free entries
    → (n : ℕ) {b : Bool} → slice_get free n ≡ Some b → n < length entries
flag_within {free = free} are n {b} at = omega (arith, slice_get_within free n b at, length-flags are)

-- ---- lists of slots

pub length-with_taken : (numbers : List ℕ) (slots : List Slot) → length (with_taken numbers slots) ≡ length slots
length-with_taken [] slots = refl
length-with_taken (n ∷ numbers) slots = length-with_taken numbers (set slots n taken_slot) ∙ length-set slots n taken_slot

pub length-free_slots-le : (slots : List Slot) → length (free_slots slots) ≤ length slots
length-free_slots-le slots = omega (arith, length-free_from-le 0 (map is_free slots), length-map slots is_free)

-- so many slots are free that the next one to be taken has an entry
pub next_has_entry : (was now : Table) (numbers : List ℕ) (k counter : ℕ)
    → now ≡ record { shmem = was.shmem; chunk = was.chunk; made = was.made; slots = with_taken numbers was.slots }
    → free_slots was.slots ≡ numbers ++ free_slots now.slots → length numbers ≡ counter → counter < k
    → length was.slots + k ≤ was.made + length (free_slots was.slots)
    → length now.slots < now.made + length (free_slots now.slots)
next_has_entry was now numbers k counter is lowest count more entries =
    let made = ap (λ (t : Table). t.made) is in
    let slots = ap (λ (t : Table). length t.slots) is in
    let size = length-with_taken numbers was.slots in
    let lengths = ap length lowest ∙ length-append numbers (free_slots now.slots) in
    omega (arith, made, slots, size, lengths)
