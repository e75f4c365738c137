-- Bytes that are told by those objects that keep them in memory: `None` where nothing is told.
use Rattle.std.specs.Prelude.{ℕ, ◌≡◌, List, [], ◌++◌, Option, Some, None, IfSome}

-- these bytes and then the rest, where the rest is told
abbrev pub bytes_then : List ℕ → Option (List ℕ) → Option (List ℕ)
bytes_then bytes None = None
bytes_then bytes (Some rest) = Some (bytes ++ rest)

-- what there was and then these bytes, where it is told
abbrev pub then_bytes : Option (List ℕ) → List ℕ → Option (List ℕ)
then_bytes None bytes = None
then_bytes (Some had) bytes = Some (had ++ bytes)

-- no byte is left, where it is told
abbrev pub IsAtEnd : Option (List ℕ) → Type 0
IsAtEnd left = IfSome left (λ rest. rest ≡ [])
