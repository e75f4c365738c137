-- What a sink of bytes takes when not all are written.
use Rattle.std.specs.Prelude.{ℕ, ◌≡◌, ◌<◌, List, length, take, Option}
use Rattle.fs_dev.specs.Told.{then_bytes}

-- the sink took some of the first bytes, and not all
abbrev pub TookFront : List ℕ → Option (List ℕ) → Option (List ℕ) → Type 0
TookFront bytes had held = (n : ℕ) × (n < length bytes) × (held ≡ then_bytes had (take n bytes))
