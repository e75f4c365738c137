-- Why slots are not taken.
use Rattle.std.specs.Prelude.{◌≡◌, ℕ, ◌<◌}
use Rattle.slot_plain.specs.declared.take_no.TakeNo.{TakeNo}
use Rattle.slot_plain.specs.declared.take_no.TakeNo.TheVariants.{NoSpace, Want}

-- a refusal to take so many slots where so many are free: too few are, or memory ran out
abbrev pub IsTakeNo : ℕ → ℕ → TakeNo → Type 0
IsTakeNo wanted unheld (NoSpace need free) = (need ≡ wanted) × (free ≡ unheld) × (unheld < wanted)
IsTakeNo wanted unheld Want = Unit {0}
