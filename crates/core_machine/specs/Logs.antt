-- The clients' logs, slot by slot: what a line puts into them, and how holds of their pieces come and go.
use Rattle.std.specs.Prelude.{◌≡◌, ℕ, suc, ◌+◌, ◌^◌, ◌<◌, ◌≤◌, ◌==◌, Bool, ◌&&◌, List, [], ◌∷◌, length, map, take, replicate, All, Contains}
use Rattle.std.specs.Prelude.{Option, Some, None, slice_get, if◌then◌else◌}
use Rattle.std.specs.List.{list_any}
use Rattle.std.specs.Option.{option_map}
use Rattle.slot_plain.specs.Log.{Log, DeviceState}
use Rattle.slot_plain.specs.Slots.{Slot, StoredPiece, free_slot, free_slots, slot_at, pinned, released}
use Rattle.fs_script.specs.Vocabulary.{Job, Piece, need, part}
use Rattle.fs_script.specs.declared.shape.Shape.{Shape}
use Rattle.core_machine.specs.declared.plain_hold.PlainHold.{PlainHold}

-- ---- slots

abbrev pub slot_of : Option Log → ℕ → Slot
slot_of None i = free_slot
slot_of (Some log) i = slot_at log.slots i

-- slot i of client r's log
abbrev pub slot_in : List Log → ℕ → ℕ → Slot
slot_in logs r i = slot_of (slice_get logs r) i

-- the piece that a slot has, if it has one
abbrev pub piece_in : Slot → Option Piece
piece_in s = option_map (λ p. p.id) s.piece

-- the pieces in a log
abbrev pub pieces_in : Log → List (Option Piece)
pieces_in log = map piece_in log.slots

-- all that is said of a log but of its slots
pub record Frame : Type 0 where
  pub rank : ℕ
  pub shmem : ℕ
  pub chunk : ℕ
  pub slots : ℕ
  pub device : DeviceState
  pub faults : ℕ

abbrev pub frame_of : Log → Frame
frame_of log = record {
  rank = log.rank;
  shmem = log.shmem;
  chunk = log.chunk;
  slots = length log.slots;
  device = log.device;
  faults = log.faults;
}

-- nothing but slots differs
abbrev pub SameFrames : List Log → List Log → Type 0
SameFrames old new = map frame_of new ≡ map frame_of old

-- ---- holds

abbrev pub is_of_slot : ℕ → ℕ → PlainHold → Bool
is_of_slot r i h = h.rank == r && h.slot == i

-- two holds are of one slot
abbrev pub are_of_one_slot : PlainHold → PlainHold → Bool
are_of_one_slot g h = is_of_slot h.rank h.slot g

-- a part of a line, as a slot has it: with all of its bytes
abbrev pub stored_part : Job → Piece → StoredPiece
stored_part s x = record { id = x; len = length (part s x.line x.part); bytes = Some (part s x.line x.part) }

-- the slot that a hold is of is held
abbrev pub IsHeld : List Log → PlainHold → Type 0
IsHeld logs h = 0 < (slot_in logs h.rank h.slot).count

-- the slot that a hold is of is held, and has the hold's piece
pub record IsHeldIn (s : Job) (logs : List Log) (h : PlainHold) : Type 0 where
  pub count : IsHeld logs h
  pub piece : (slot_in logs h.rank h.slot).piece ≡ Some (stored_part s h.piece)
  pub bytes : h.bytes ≡ length (part s h.piece.line h.piece.part)

-- what these holds are of is held once less, and nothing else changed
pub record ReleasesAll (dead : List PlainHold) (old new : List Log) : Type 0 where
  pub frames : SameFrames old new
  pub slots : (r i : ℕ) → slot_in new r i ≡ (if list_any (is_of_slot r i) dead then released (slot_in old r i) else slot_in old r i)

-- what these holds are of is held once more, and nothing else changed
pub record PinsAll (pins : List PlainHold) (old new : List Log) : Type 0 where
  pub frames : SameFrames old new
  pub slots : (r i : ℕ) → slot_in new r i ≡ (if list_any (is_of_slot r i) pins then pinned (slot_in old r i) else slot_in old r i)

-- ---- what a line puts into slots

-- a slot that has part p of line n, and is held once
abbrev pub part_slot : Job → ℕ → ℕ → Slot
part_slot s n p = record { count = 1; piece = Some (stored_part s (record { line = n; part = p })) }

-- the hold of part p of line n in a slot of client r's log
abbrev pub part_hold : Job → ℕ → ℕ → ℕ → ℕ → PlainHold
part_hold s r n p i = record { piece = record { line = n; part = p }; bytes = length (part s n p); rank = r; slot = i }

-- the pieces in the log of a client, if it has one
abbrev pub pieces_of : Option Log → List (Option Piece)
pieces_of None = []
pieces_of (Some log) = pieces_in log

-- each of these holds is of a slot that has its piece
abbrev pub HoldsStand : Job → List Log → (Piece → Option PlainHold) → Type 0
HoldsStand s logs hold_at = (q : Piece) (h : PlainHold) → hold_at q ≡ Some h → (h.piece ≡ q) × IsHeldIn s logs h

-- all parts of line n are in the lowest slots of a log that were free, one in each, the first in the lowest, and nothing else
-- changed; there is a hold of each, in order
pub record FillsLine (s : Job) (n : ℕ) (old new : Log) (holds : List PlainHold) : Type 0 where
  pub enough : need s n ≤ length (free_slots old.slots)
  pub frame : frame_of new ≡ frame_of old
  pub filled : (p i : ℕ) → p < need s n → slice_get (free_slots old.slots) p ≡ Some i → slot_at new.slots i ≡ part_slot s n p
  pub others : (i : ℕ) → (Contains (take (need s n) (free_slots old.slots)) i → ⊥) → slot_at new.slots i ≡ slot_at old.slots i
  pub many : length holds ≡ need s n
  pub holds_are : (p i : ℕ) → p < need s n → slice_get (free_slots old.slots) p ≡ Some i
      → slice_get holds p ≡ Some (part_hold s old.rank n p i)

-- each slot that has a piece is held
abbrev pub AreHeldSlots : List Log → Type 0
AreHeldSlots logs = (r i : ℕ) (p : StoredPiece) → (slot_in logs r i).piece ≡ Some p → 0 < (slot_in logs r i).count

-- each slot that has none is free
abbrev pub AreFreeSlots : List Log → Type 0
AreFreeSlots logs = (r i : ℕ) → (slot_in logs r i).piece ≡ None → (slot_in logs r i).count ≡ 0

-- no piece is in two slots
abbrev pub AreInOneSlot : List Log → Type 0
AreInOneSlot logs = (r i q j : ℕ) (x y : StoredPiece) → (slot_in logs r i).piece ≡ Some x → (slot_in logs q j).piece ≡ Some y → x.id ≡ y.id
    → (r ≡ q) × (i ≡ j)

-- nothing of a log is spilled: all of its slots are in shared memory, and have so many bytes
pub record IsInMemory (s : Job) (log : Log) : Type 0 where
  pub shared : length log.slots ≤ log.shmem
  pub chunk : log.chunk ≡ s.shape.chunk
  pub few : length log.slots < 2 ^ 32

abbrev pub AreInMemory : Job → List Log → Type 0
AreInMemory s logs = All (IsInMemory s) logs

-- ---- logs at first

-- a device that has so many bytes, these cells, and so many calls that failed
abbrev pub device_state : ℕ → Option (List (Option ℕ)) → ℕ → DeviceState
device_state size cells faults = record { size = size; cells = cells; faults = faults }

-- the log of client r of a job of this shape, with a device, while nothing was put into it
abbrev pub fresh_log : Shape → ℕ → DeviceState → Log
fresh_log h r device = record {
  rank = r;
  shmem = h.shmem;
  chunk = h.chunk;
  slots = replicate (h.shmem + h.spill) free_slot;
  device = device;
  faults = 0;
}

-- those of client r and of the clients after it, one with each of these devices
abbrev pub fresh_logs : Shape → ℕ → List DeviceState → List Log
fresh_logs h r [] = []
fresh_logs h r (device ∷ devices) = fresh_log h r device ∷ fresh_logs h (suc r) devices
