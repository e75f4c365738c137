-- What is kept of the slots that were ever taken, and the slots that it stands for.
use Rattle.std.specs.Prelude.{◌≡◌, ℕ, ◌-◌, ◌≤◌, ◌<◌, ◌==◌, Bool, List, ◌++◌, length, map, take, replicate, Some, None, slice_get, slice_set}
use Rattle.std.specs.Option.{option_map}
use Rattle.fs_types.specs.Pieces.{Piece}
use Rattle.slot_plain.specs.Slots.{Slot, free_slot, filled, slot_at}
use Rattle.slot_plain.specs.declared.entry.Entry.{Entry}
use Rattle.slot_plain.specs.declared.entry.FilledPiece.{FilledPiece}
use Rattle.slot_plain.specs.declared.least_tree.TheConstants.{NO_SLOT}

-- all slots of a log, and how many of them something is kept of
pub record Table : Type 0 where
  pub shmem : ℕ
  pub chunk : ℕ
  pub made : ℕ
  pub slots : List Slot

-- the slot of an entry, whose buffer begins with the bytes of its piece
abbrev pub entry_slot : Entry → Slot
entry_slot e = record {
  count = e.count;
  piece = option_map (λ p. record { id = p.id; len = p.len; bytes = Some (take p.len e.buffer.items) }) e.piece;
}

-- the slots of some entries, and free ones behind them, so many in all
abbrev pub slots_of : List Entry → ℕ → List Slot
slots_of entries total = map entry_slot entries ++ replicate (total - length entries) free_slot

-- the table of some entries, in a log of so many slots
abbrev pub table_of : ℕ → ℕ → ℕ → List Entry → Table
table_of shmem chunk total entries = record {
  shmem = shmem;
  chunk = chunk;
  made = length entries;
  slots = slots_of entries total;
}

-- an entry's flag
abbrev pub is_unheld : Entry → Bool
is_unheld e = e.count == 0

-- the entry of slot n: a slot of shared memory has a buffer of chunk bytes, a piece is no longer, and a free slot has none
pub record IsEntry (shmem chunk n : ℕ) (e : Entry) : Type 0 where
  pub buffer : n < shmem → length e.buffer.items ≡ chunk
  pub piece : (p : FilledPiece) → e.piece ≡ Some p → p.len ≤ chunk
  pub free : e.count ≡ 0 → e.piece ≡ None

-- the entries of a log's first slots, and their flags
pub record AreEntries (shmem chunk total : ℕ) (free : List Bool) (entries : List Entry) : Type 0 where
  pub few : length entries ≤ total
  pub numbers : total ≤ NO_SLOT
  pub flags : free ≡ map is_unheld entries
  pub each : (n : ℕ) (e : Entry) → slice_get entries n ≡ Some e → IsEntry shmem chunk n e

-- a slot has a piece of so many bytes, and nothing else changed; of the bytes in memory nothing is said
abbrev pub IsFilled : ℕ → Piece → ℕ → Table → Table → Type 0
IsFilled n id len old new =
    (bytes : List ℕ) × (new ≡ record {
      shmem = old.shmem;
      chunk = old.chunk;
      made = old.made;
      slots = slice_set old.slots n (filled (record { id = id; len = len; bytes = Some bytes }) (slot_at old.slots n));
    })
