-- A client's log: its slots, and the device that has the bytes of those behind shared memory.
use Rattle.std.specs.Prelude.{◌≡◌, ℕ, suc, ◌+◌, ◌-◌, ◌*◌, ◌≤◌, nat_lt, List, [], ◌∷◌, length, map, Option, Some, slice_range, slice_set}
use Rattle.std.specs.Prelude.{unwrap_or, MatchBool, if◌then◌else◌}
use Rattle.std.specs.Option.{option_map}
use Rattle.fs_types.specs.Pieces.{Piece}
use Rattle.fs_types.specs.Faults.{HasRisen, next_count}
use Rattle.fs_dev.specs.SpillDev.{Wrote, LeftOpen, WasWritten}
use Rattle.slot_plain.specs.Slots.{StoredPiece, Slot, filled, slot_at}
use Rattle.slot_plain.specs.Entries.{Table}

-- a device, as its trait shows it
pub record DeviceState : Type 0 where
  pub size : ℕ
  pub cells : Option (List (Option ℕ))
  pub faults : ℕ

-- a client's log
pub record Log : Type 0 where
  pub rank : ℕ
  -- how many slots are in shared memory, and the bytes of a slot
  pub shmem : ℕ
  pub chunk : ℕ
  pub slots : List Slot
  pub device : DeviceState
  -- how many calls on the device failed for this log
  pub faults : ℕ

-- where the bytes of a slot behind shared memory begin on the device
abbrev pub spill_place : ℕ → ℕ → ℕ → ℕ
spill_place shmem chunk n = (n - shmem) * chunk

-- the bytes of a range of the device, where it tells them
abbrev pub bytes_from : ℕ → ℕ → Option (List (Option ℕ)) → Option (List ℕ)
bytes_from at len cells = option_map (λ told. map (λ cell. unwrap_or cell 0) (slice_range told at (at + len))) cells

-- the piece of slot n, whose bytes are those of the device where the slot is behind shared memory
abbrev pub told_piece : ℕ → ℕ → Option (List (Option ℕ)) → ℕ → StoredPiece → StoredPiece
told_piece shmem chunk cells n p =
    if nat_lt n shmem then p
    else record { id = p.id; len = p.len; bytes = bytes_from (spill_place shmem chunk n) p.len cells }

abbrev pub told_slot : ℕ → ℕ → Option (List (Option ℕ)) → ℕ → Slot → Slot
told_slot shmem chunk cells n s =
    record { count = s.count; piece = option_map (told_piece shmem chunk cells n) s.piece }

-- the slots of a table, from slot n on
abbrev pub told_slots : ℕ → ℕ → Option (List (Option ℕ)) → ℕ → List Slot → List Slot
told_slots shmem chunk cells n [] = []
told_slots shmem chunk cells n (s ∷ slots) = told_slot shmem chunk cells n s ∷ told_slots shmem chunk cells (suc n) slots

-- the log of a table and a device
abbrev pub log_of : ℕ → Table → DeviceState → ℕ → Log
log_of rank t device faults = record {
  rank = rank;
  shmem = t.shmem;
  chunk = t.chunk;
  slots = told_slots t.shmem t.chunk device.cells 0 t.slots;
  device = device;
  faults = faults;
}

-- a device has room for the slots behind shared memory, and each piece there was written
pub record Backs (t : Table) (device : DeviceState) : Type 0 where
  pub room : (length t.slots - t.shmem) * t.chunk ≤ device.size
  pub fits : (n : ℕ) (p : StoredPiece) → (slot_at t.slots n).piece ≡ Some p → p.len ≤ t.chunk
  pub written : (n : ℕ) (p : StoredPiece) → t.shmem ≤ n → (slot_at t.slots n).piece ≡ Some p
      → WasWritten (spill_place t.shmem t.chunk n) p.len device.cells

-- the bytes of a piece in slot n, where they are told
abbrev pub told_in : Log → ℕ → List ℕ → Option (List ℕ)
told_in log n bytes = if nat_lt n log.shmem then Some bytes else option_map (λ _. bytes) log.device.cells

-- a device took these bytes from a place on, and nothing else changed
pub record WroteToSlot (at : ℕ) (text : List ℕ) (old new : DeviceState) : Type 0 where
  pub bytes : Wrote at text old.cells new.cells
  pub rest : new ≡ record { size = old.size; cells = new.cells; faults = old.faults }

-- slot n was filled with a piece of these bytes; those of a slot behind shared memory went to the device
pub record Fills (n : ℕ) (id : Piece) (text : List ℕ) (old new : Log) : Type 0 where
  pub slots : new.slots ≡ slice_set old.slots n
      (filled (record { id = id; len = length text; bytes = told_in old n text }) (slot_at old.slots n))
  pub device : MatchBool (nat_lt n old.shmem) (new.device ≡ old.device)
      (WroteToSlot (spill_place old.shmem old.chunk n) text old.device new.device)
  pub rest : new ≡ record old { slots = new.slots; device = new.device }

-- a write of len bytes to the device failed, so that slot n, which is behind shared memory, was not filled
pub record FailsToFill (n len : ℕ) (old new : Log) : Type 0 where
  pub spilled : old.shmem ≤ n
  pub range : LeftOpen (spill_place old.shmem old.chunk n) len old.device.cells new.device.cells
  pub size : new.device.size ≡ old.device.size
  pub risen : HasRisen old.device.faults new.device.faults
  pub rest : new ≡ record old { device = new.device; faults = next_count old.faults }

-- a read of slot n, which is behind shared memory, from the device failed
pub record FailsToRead (n : ℕ) (old new : Log) : Type 0 where
  pub spilled : old.shmem ≤ n
  pub risen : HasRisen old.device.faults new.device.faults
  pub rest : new ≡ record old {
    device = record { size = old.device.size; cells = old.device.cells; faults = new.device.faults };
    faults = next_count old.faults;
  }
