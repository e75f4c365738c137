-- Counts of failed calls.
use Rattle.std.specs.Prelude.{ℕ, ◌+◌, ◌-◌, ◌^◌, ◌≤◌, min}

-- one more than a count, which stands still at the end of its type
abbrev pub next_count : ℕ → ℕ
next_count count = min (count + 1) (2 ^ 64 - 1)

-- a count rose, or stands still at the end of its type
pub record HasRisen (before now : ℕ) : Type 0 where
  pub no_less : before ≤ now
  pub raised : next_count before ≤ now
