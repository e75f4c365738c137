-- The runs of bytes that parts of a range make.
use Rattle.std.specs.Prelude.{ℕ, ◌+◌, ◌-◌, List, [], ◌∷◌, fold, map, if◌then◌else◌}
use Rattle.fs_script.specs.Vocabulary.{Fragment, goes_on}

-- two runs of which the first goes on in the second, as one
abbrev pub joined : Fragment → Fragment → Fragment
joined f g = record { at = f.at; len = f.len + g.len; piece = f.piece; from = f.from }

-- a run behind others: one with the last of them, where that goes on in it
abbrev pub with_last : List Fragment → Fragment → List Fragment
with_last [] g = g ∷ []
with_last (f ∷ []) g = if goes_on f g then joined f g ∷ [] else f ∷ g ∷ []
with_last (f ∷ h ∷ fs) g = f ∷ with_last (h ∷ fs) g

-- a part of a range, with its place counted from where the range begins
abbrev pub counted_from : ℕ → Fragment → Fragment
counted_from off f = record { at = f.at - off; len = f.len; piece = f.piece; from = f.from }

-- the runs that parts of a range make, in their order
abbrev pub joined_from : ℕ → List Fragment → List Fragment
joined_from off parts = fold with_last [] (map (counted_from off) parts)
