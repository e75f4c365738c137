-- Picks: the numbers by which a seed chooses whose turn it is.
use Rattle.std.specs.Prelude.{ℕ, zero, suc, ◌+◌, ◌*◌, ◌/◌, ◌%◌, ◌^◌, List, map}
use Rattle.std.specs.List.{range_with_len}
use Rattle.core_run.specs.declared.picks.TheConstants.{MULTIPLIER}

-- the state of the generator after k steps: it begins with the seed, and a step multiplies it, adds the seed, and keeps 64 bits
abbrev pub state_after : ℕ → ℕ → ℕ
state_after seed zero = seed
state_after seed (suc k) = (state_after seed k * MULTIPLIER + seed) % 2 ^ 64

-- pick number k, from 1 on: the high 32 bits of the state after k steps
abbrev pub pick_number : ℕ → ℕ → ℕ
pick_number seed k = state_after seed k / 2 ^ 32

-- the first n picks of a seed
unfoldable pub first_picks : ℕ → ℕ → List ℕ
first_picks seed n = map (pick_number seed) (range_with_len 1 n)
