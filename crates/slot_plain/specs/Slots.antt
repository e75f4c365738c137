-- The slots of a client's log: how often each is held, and the piece that it has.
use Rattle.std.specs.Prelude.{ℕ, ◌+◌, ◌-◌, ◌≤◌, option_and_then, IsSomeAnd, ◌==◌, nat_lt, Bool, List, map, count_by, fold, Option, Some}
use Rattle.std.specs.Prelude.{None, slice_set, slice_index_or, if◌then◌else◌}
use Rattle.fs_types.specs.Pieces.{Piece}
use Rattle.slot_plain.specs.FreePlaces.{free_places}

-- a piece in a slot, how many bytes it has, and these, where they are told
pub record StoredPiece : Type 0 where
  pub id : Piece
  pub len : ℕ
  pub bytes : Option (List ℕ)

-- how often a slot is held, and its piece, once it was filled
pub record Slot : Type 0 where
  pub count : ℕ
  pub piece : Option StoredPiece

-- a slot that nothing holds
abbrev pub free_slot : Slot
free_slot = record { count = 0; piece = None }

-- a slot that was taken, and not filled yet
abbrev pub taken_slot : Slot
taken_slot = record { count = 1; piece = None }

-- a slot that has a piece
abbrev pub filled : StoredPiece → Slot → Slot
filled piece s = record { count = s.count; piece = Some piece }

-- a slot that is held once more
abbrev pub pinned : Slot → Slot
pinned s = record { count = s.count + 1; piece = s.piece }

-- a slot that is held once less; where nothing else holds it, it is free
abbrev pub released : Slot → Slot
released s = if s.count == 1 then free_slot else record { count = s.count - 1; piece = s.piece }

-- the bytes of a slot's piece, where it has one and they are told
abbrev pub bytes_of_slot : Slot → Option (List ℕ)
bytes_of_slot s = option_and_then (λ p. p.bytes) s.piece

-- a slot has a piece of at least so many bytes
abbrev pub HasPieceOf : Slot → ℕ → Type 0
HasPieceOf s len = IsSomeAnd s.piece (λ p. len ≤ p.len)

abbrev pub is_free : Slot → Bool
is_free s = s.count == 0

abbrev pub is_held : Slot → Bool
is_held s = nat_lt 0 s.count

-- the slot of a number; past the end nothing holds it
abbrev pub slot_at : List Slot → ℕ → Slot
slot_at slots n = slice_index_or slots n free_slot

-- the numbers of the slots that are free, the lowest first
abbrev pub free_slots : List Slot → List ℕ
free_slots slots = free_places (map is_free slots)

-- how many slots something holds
abbrev pub held_count : List Slot → ℕ
held_count slots = count_by is_held slots

-- the slots, once those of these numbers are taken
abbrev pub with_taken : List ℕ → List Slot → List Slot
with_taken numbers slots = fold (λ changed n. slice_set changed n taken_slot) slots numbers
