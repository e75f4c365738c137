-- The room of a hold: how much can be given to pins of it. `None` is a room without end.
use Rattle.std.specs.Prelude.{ℕ, ◌+◌, ◌-◌, ◌≤◌, nat_le, Bool, false, Option, Some, None}

-- a room is at most a number; one without end never is
abbrev pub is_at_most : Option ℕ → ℕ → Bool
is_at_most None n = false
is_at_most (Some room) n = nat_le room n

-- a room is at least a number; one without end always is
abbrev pub IsAtLeast : ℕ → Option ℕ → Type 0
IsAtLeast n None = Unit {0}
IsAtLeast n (Some room) = n ≤ room

-- what is left of a room after a pin that was given so much of it: that, and 1 for the pin
abbrev pub lowered : ℕ → Option ℕ → Option ℕ
lowered given None = None
lowered given (Some room) = Some (room - (given + 1))
