-- The runs of some marks: what a read of them fetches, one run of bytes of one piece after the other.
use Rattle.std.specs.Prelude.{◌≡◌, ℕ, ◌+◌, ◌==◌, Bool, false, ◌&&◌, List, [], ◌∷◌, Option, Some, None, if◌then◌else◌}
use Rattle.fs_types.specs.Fragments.{piece_eq, end_of}
use Rattle.fs_types.specs.Marks.{Mark}
use Rattle.fs_types.specs.Pieces.{Fragment}
use Rattle.fs_script.specs.Live.{piece_of}

-- the byte of a mark at a place, as a run of its own
abbrev pub byte_run : ℕ → Mark → Fragment
byte_run at m = record { at = at; len = 1; piece = piece_of m; from = m.place }

-- run f goes on in run g: g begins where f ends, in the file as in the piece, which is the same
abbrev pub goes_on : Fragment → Fragment → Bool
goes_on f g = g.at == end_of f && piece_eq g.piece f.piece && g.from == f.from + f.len

-- a run before others: one with the first of them, where it goes on in that
abbrev pub with_run : Fragment → List Fragment → List Fragment
with_run f [] = f ∷ []
with_run f (g ∷ gs) = if goes_on f g then record { at = f.at; len = f.len + g.len; piece = f.piece; from = f.from } ∷ gs else f ∷ g ∷ gs

-- the runs of marks of which the first is at this place
abbrev pub runs_from : ℕ → List (Option Mark) → List Fragment
runs_from at [] = []
runs_from at (None ∷ marks) = runs_from (at + 1) marks
runs_from at (Some m ∷ marks) = with_run (byte_run at m) (runs_from (at + 1) marks)

-- the runs of these marks, each as long as it can be, in the order of their places
abbrev pub runs : List (Option Mark) → List Fragment
runs marks = runs_from 0 marks

-- no run goes on where the next one begins
abbrev pub AreMaximal : List Fragment → Type 0
AreMaximal [] = Unit {0}
AreMaximal (f ∷ []) = Unit {0}
AreMaximal (f ∷ g ∷ gs) = (goes_on f g ≡ false) × AreMaximal (g ∷ gs)
