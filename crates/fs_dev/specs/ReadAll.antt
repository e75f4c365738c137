-- How much was taken from a source that is read to its end.
use Rattle.std.specs.Prelude.{ℕ, ◌≡◌, ◌<◌, ◌≤◌, List, length, Option}
use Rattle.fs_dev.specs.Told.{bytes_then}

-- the bytes taken from a source are more than the limit
abbrev pub TookMoreThan : ℕ → Option (List ℕ) → Option (List ℕ) → Type 0
TookMoreThan limit had left =
    (taken : List ℕ) × (had ≡ bytes_then taken left) × (limit < length taken)

-- the bytes taken from a source are no more than the limit
abbrev pub TookAtMost : ℕ → Option (List ℕ) → Option (List ℕ) → Type 0
TookAtMost limit had left =
    (taken : List ℕ) × (had ≡ bytes_then taken left) × (length taken ≤ limit)
