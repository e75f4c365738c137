-- Reading a header: its form first, and then the limits of its numbers.
use Rattle.std.specs.Prelude.{ℕ, ◌+◌, ◌*◌, ◌%◌, ◌==◌, Bool, ◌&&◌, nat_le, nat_eq, List, [], ◌∷◌, length, drop, codes, Result, Ok, Err, ok_or, if◌then◌else◌}
use Rattle.std.specs.List.{starts_with}
use Rattle.fs_types.specs.PathText.{is_between}
use Rattle.fs_script.specs.declared.limits.TheConstants.{SERVER_LIMIT, CLIENT_LIMIT, LEAST_CHUNK, MOST_CHUNK, CHUNK_UNIT, MEMORY_SLOTS, MEMORY_BYTES, SPILL_SLOTS, SPILL_BYTES}
use Rattle.fs_script.specs.declared.shape.Shape.{Shape}
use Rattle.fs_script.specs.declared.fault.ScriptFault.{ScriptFault}
use Rattle.fs_script.specs.declared.fault.ScriptFault.TheVariants as faults
use Rattle.fs_script.specs.Reading.Steps.{◌>>=◌}
use Rattle.fs_script.specs.Reading.Tokens.{words_of}
use Rattle.fs_script.specs.Reading.Numbers.{number_of}

-- the number behind a name such as `servers=`
abbrev pub field : List ℕ → List ℕ → Result ℕ ScriptFault
field name word =
    if starts_with nat_eq word name then ok_or (number_of (drop (length name) word)) faults.BadHeader
    else Err faults.BadHeader

-- whether so many slots for each client are, over all clients, no more slots and no more bytes than these
abbrev pub are_few : ℕ → ℕ → ℕ → ℕ → ℕ → Bool
are_few clients chunk slots most_slots most_bytes = nat_le (clients * slots) most_slots && nat_le (clients * slots * chunk) most_bytes

-- whether a job may have slots of this size
abbrev pub is_chunk : ℕ → Bool
is_chunk chunk = is_between LEAST_CHUNK MOST_CHUNK chunk && chunk % CHUNK_UNIT == 0

-- whether a job may have these numbers
abbrev pub is_shape : Shape → Bool
is_shape h = is_between 1 SERVER_LIMIT h.servers && is_between 1 CLIENT_LIMIT h.clients && is_chunk h.chunk && nat_le 1 (h.shmem + h.spill)
    && are_few h.clients h.chunk h.shmem MEMORY_SLOTS MEMORY_BYTES && are_few h.clients h.chunk h.spill SPILL_SLOTS SPILL_BYTES

abbrev pub within_limits : Shape → Result Shape ScriptFault
within_limits h = if is_shape h then Ok h else Err (faults.OverLimit 1)

-- the shape that five words say
abbrev pub shape_of : List ℕ → List ℕ → List ℕ → List ℕ → List ℕ → Result Shape ScriptFault
shape_of a b c d e = do
  servers ← field (codes "servers=") a
  clients ← field (codes "clients=") b
  chunk ← field (codes "chunk=") c
  shmem ← field (codes "shmem=") d
  spill ← field (codes "spill=") e
  within_limits (record { servers = servers; clients = clients; chunk = chunk; shmem = shmem; spill = spill })

abbrev pub shape_of_words : List (List ℕ) → Result Shape ScriptFault
shape_of_words (a ∷ b ∷ c ∷ d ∷ e ∷ []) = shape_of a b c d e
shape_of_words words = Err faults.BadHeader

-- the shape that a header says
abbrev pub header_of : List ℕ → Result Shape ScriptFault
header_of line = if starts_with nat_eq line (codes "unifyfs 1 ") then shape_of_words (words_of (drop 10 line)) else Err faults.BadHeader
