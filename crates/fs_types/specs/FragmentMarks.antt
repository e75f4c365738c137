-- The marks that fragments of a file have: at a place within one, the byte of its piece that stands there.
use Rattle.std.specs.Prelude.{ℕ, ◌+◌, ◌-◌, nat_le, nat_lt, Bool, ◌&&◌, List, [], ◌∷◌, map, Option, Some, None, if◌then◌else◌}
use Rattle.std.specs.List.{range_with_len}
use Rattle.fs_types.specs.Fragments.{end_of}
use Rattle.fs_types.specs.Marks.{Mark}
use Rattle.fs_types.specs.Pieces.{Fragment}

-- a place is in a fragment
abbrev pub is_within : Fragment → ℕ → Bool
is_within f k = nat_le f.at k && nat_lt k (end_of f)

-- the mark of a fragment at a place that is in it
abbrev pub mark_within : Fragment → ℕ → Mark
mark_within f k = record { line = f.piece.line; part = f.piece.part; place = f.from + (k - f.at) }

-- the mark that some fragments have at a place, and none where none of them is
abbrev pub mark_at : List Fragment → ℕ → Option Mark
mark_at [] k = None
mark_at (f ∷ fs) k = if is_within f k then Some (mark_within f k) else mark_at fs k

-- the marks of the first len places
abbrev pub marks_of_fragments : List Fragment → ℕ → List (Option Mark)
marks_of_fragments fs len = map (mark_at fs) (range_with_len 0 len)
