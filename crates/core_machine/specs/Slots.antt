-- What holds a piece at a moment, and how often; which slots are free, and what goes into them.
use Rattle.std.specs.Prelude.{◌≡◌, ℕ, ◌+◌, ◌<◌, nat_lt, Bool, false, ◌||◌, List, [], ◌∷◌, length, map, filter, count_by, Contains}
use Rattle.std.specs.Prelude.{Option, Some, None, is_none, is_some, slice_get, slice_index_or, slice_set, if◌then◌else◌}
use Rattle.std.specs.List.{range_with_len}
use Rattle.slot_plain.specs.FreePlaces.{free_places}
use Rattle.fs_script.specs.Vocabulary.{Job, Piece, bears, is_live, is_pending, pieces_of_line, pieces_by, SlotLine}
use Rattle.core_machine.specs.Doing.{Doing, nothing, reading}
use Rattle.core_machine.specs.Moment.{Moment, answering, journal, log_of}

-- ---- what holds a piece

-- a piece of client r is live, or pending for the client
abbrev pub is_owned : Moment → ℕ → Piece → Bool
is_owned m r x = is_live m.job (answering m) (journal m) x || is_pending m.job (answering m) r x

-- a read under way names the pieces of the bytes that it shows
abbrev pub names : Doing → Piece → Bool
names nothing x = false
names (reading d) x = bears d.marks x

-- how many reads under way name a piece
abbrev pub readers_of : Moment → Piece → ℕ
readers_of m x = count_by (λ c. names c.doing x) m.clients

-- how often a piece of client r is held: once where it is live or pending, and once by each read that names it
abbrev pub holds_of : Moment → ℕ → Piece → ℕ
holds_of m r x = (if is_owned m r x then 1 else 0) + readers_of m x

-- ---- slots

-- how often the piece in a slot is held; a slot without one is free
abbrev pub holds_in : Moment → ℕ → Option Piece → ℕ
holds_in m r None = 0
holds_in m r (Some x) = holds_of m r x

-- how often the piece in slot i of client r's log is held
abbrev pub count_in : Moment → ℕ → ℕ → ℕ
count_in m r i = holds_in m r (slice_index_or (log_of m r) i None)

-- the slots that are free, the lowest first
abbrev pub empty_slots : List (Option Piece) → List ℕ
empty_slots log = free_places (map is_none log)

-- a log with pieces in these slots, one in each
abbrev pub with_pieces : List ℕ → List Piece → List (Option Piece) → List (Option Piece)
with_pieces [] xs log = log
with_pieces (i ∷ is) [] log = log
with_pieces (i ∷ is) (x ∷ xs) log = with_pieces is xs (slice_set log i (Some x))

-- a log with the pieces of line n in its lowest free slots, the first piece in the lowest
abbrev pub with_line : Job → ℕ → List (Option Piece) → List (Option Piece)
with_line s n log = with_pieces (empty_slots log) (pieces_of_line s n) log

-- a slot whose piece nothing holds is free
abbrev pub still_held : Moment → ℕ → Option Piece → Option Piece
still_held m r slot = if nat_lt 0 (holds_in m r slot) then slot else None

-- the moment, once the slots of all pieces that nothing holds are free
abbrev pub without_dead : Moment → Moment
without_dead m = record m { logs = map (λ r. map (still_held m r) (log_of m r)) (range_with_len 0 m.job.shape.clients) }

-- what a report says of a client's slots; no call on a device can fail yet
abbrev pub census : Moment → ℕ → SlotLine
census m r = record { rank = r; held = count_by is_some (log_of m r); free = length (empty_slots (log_of m r)); faults = 0 }

-- ---- the law of slots

-- the pieces that client r's lines write, and that are held
abbrev pub held_pieces : Moment → ℕ → List Piece
held_pieces m r = filter (λ x. nat_lt 0 (holds_of m r x)) (pieces_by m.job r)

-- in client r's log stand the pieces of the client that are held, each in one slot, and no others
pub record HoldsExactly (m : Moment) (r : ℕ) : Type 0 where
  pub sized : length (log_of m r) ≡ m.job.shape.shmem + m.job.shape.spill
  pub held : (x : Piece) → Contains (log_of m r) (Some x) → 0 < holds_of m r x
  pub own : (x : Piece) → Contains (log_of m r) (Some x) → Contains (pieces_by m.job r) x
  pub once : (i j : ℕ) (x : Piece) → slice_get (log_of m r) i ≡ Some (Some x) → slice_get (log_of m r) j ≡ Some (Some x) → i ≡ j
  pub each : (x : Piece) → Contains (pieces_by m.job r) x → 0 < holds_of m r x → Contains (log_of m r) (Some x)
