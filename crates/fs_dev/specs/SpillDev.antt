-- The cells of a device: at each place the byte that was written, or `None` where nothing may be
-- read.
use Rattle.std.specs.Prelude.{ℕ, ◌≡◌, ◌+◌, List, ◌++◌, length, take, drop, map, All, Option, Some, IsSome, IfSome, slice_range}
use Rattle.std.specs.Option.{option_map, ForSome}

-- the same cells but for these, which lie from this place on
abbrev pub put_cells : ℕ → List (Option ℕ) → List (Option ℕ) → List (Option ℕ)
put_cells at cells held = take at held ++ cells ++ drop (at + length cells) held

-- the bytes stand in their range, and the rest is as it was, where it is told
abbrev pub Wrote : ℕ → List ℕ → Option (List (Option ℕ)) → Option (List (Option ℕ)) → Type 0
Wrote at bytes old new = new ≡ option_map (put_cells at (map Some bytes)) old

-- the range of n bytes is left open, and the rest is as it was, where it is told
abbrev pub LeftOpen : ℕ → ℕ → Option (List (Option ℕ)) → Option (List (Option ℕ)) → Type 0
LeftOpen at n old new =
    (cells : List (Option ℕ)) × (length cells ≡ n) × (new ≡ option_map (put_cells at cells) old)

-- all n bytes from this place on were written, where that is told
abbrev pub WasWritten : ℕ → ℕ → Option (List (Option ℕ)) → Type 0
WasWritten at n told = ForSome told (λ cells. All IsSome (slice_range cells at (at + n)))

-- these are the bytes from this place on, where they are told
abbrev pub HoldsAt : ℕ → List ℕ → Option (List (Option ℕ)) → Type 0
HoldsAt at bytes told =
    IfSome told (λ cells. slice_range cells at (at + length bytes) ≡ map Some bytes)
