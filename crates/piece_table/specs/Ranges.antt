-- The fragments that lie whole in a range of a file, those that reach past both of its ends, and how many end in it.
use Rattle.std.specs.Prelude.{ℕ, Bool, ◌&&◌, nat_le, nat_lt, List, filter, count_by, sum_by}
use Rattle.fs_types.specs.Fragments.{end_of}
use Rattle.fs_types.specs.Pieces.{Fragment}

-- a fragment lies whole between two places
abbrev pub is_covered : ℕ → ℕ → Fragment → Bool
is_covered at end f = nat_le at f.at && nat_le (end_of f) end

-- a fragment begins before a place and ends behind another
abbrev pub reaches_past : ℕ → ℕ → Fragment → Bool
reaches_past at end f = nat_lt f.at at && nat_lt end (end_of f)

-- the fragments that lie whole between two places
abbrev pub covered : ℕ → ℕ → List Fragment → List Fragment
covered at end fs = filter (is_covered at end) fs

-- the fragments that reach past both
abbrev pub reaching : ℕ → ℕ → List Fragment → List Fragment
reaching at end fs = filter (reaches_past at end) fs

-- a fragment ends behind a place, and not past another
abbrev pub ends_within : ℕ → ℕ → Fragment → Bool
ends_within at end f = nat_lt at (end_of f) && nat_le (end_of f) end

-- how many fragments end behind a place and not past another
abbrev pub ending_count : ℕ → ℕ → List Fragment → ℕ
ending_count at end fs = count_by (ends_within at end) fs

-- how many fragments have their last byte in the range of each of these, in all
abbrev pub ends_under : List Fragment → List Fragment → ℕ
ends_under over fs = sum_by (λ f. ending_count f.at (end_of f) fs) over
