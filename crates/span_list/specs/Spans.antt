-- Fragments of a file in order of place: what stands before a place and from a place on, and what putting a fragment
-- over them, cutting them and asking for the next one gives.
use Rattle.std.specs.Prelude.{ℕ, ◌+◌, ◌-◌, ◌^◌, ◌<◌, ◌≤◌, min, max, nat_lt, nat_le, Bool, List, [], ◌∷◌, ◌++◌, Option, All, AllPairs, find}
use Rattle.std.specs.Prelude.{if◌then◌else◌}
use Rattle.std.specs.List.{flat_map}
use Rattle.fs_types.specs.Fragments.{end_of}
use Rattle.fs_types.specs.Pieces.{Fragment}
use Rattle.fs_types.specs.declared.limits.TheConstants.{LONGEST_FILE}

-- a fragment that may be kept: it has a byte, ends within the longest file, and ends in its piece at a place of 32 bits
pub record IsSpan (f : Fragment) : Type 0 where
  pub has_bytes : 0 < f.len
  pub in_file : end_of f ≤ LONGEST_FILE
  pub in_piece : f.from + f.len < 2 ^ 32

-- such fragments, of which each ends before a later one begins
pub record AreSpans (fs : List Fragment) : Type 0 where
  pub each : All IsSpan fs
  pub in_order : AllPairs (λ f g. end_of f ≤ g.at) fs

-- a fragment ends after a place
abbrev pub ends_after : ℕ → Fragment → Bool
ends_after at f = nat_lt at (end_of f)

-- no byte of a fragment stands before a place
abbrev pub begins_from : ℕ → Fragment → Bool
begins_from at f = nat_le at f.at

-- what of a fragment stands before a place, as a list of none or one
abbrev pub rest_before : ℕ → Fragment → List Fragment
rest_before at f = if begins_from at f then [] else record f { len = min f.len (at - f.at) } ∷ []

-- what of a fragment stands from a place on, as a list of none or one; its first byte is the one of its piece that stood there
abbrev pub rest_from : ℕ → Fragment → List Fragment
rest_from at f =
    let begin : ℕ = max at f.at in
    if ends_after at f
    then record { at = begin; len = end_of f - begin; piece = f.piece; from = f.from + (begin - f.at) } ∷ []
    else []

-- the fragments without their bytes from a place on
abbrev pub cut_fragments : ℕ → List Fragment → List Fragment
cut_fragments size fs = flat_map (rest_before size) fs

-- The fragment put over the others: each of them loses the bytes of its range, one that reaches past both of its ends
-- becomes two, and it stands whole between what stands before it and what stands behind it.
abbrev pub put_fragment : Fragment → List Fragment → List Fragment
put_fragment f fs = flat_map (rest_before f.at) fs ++ f ∷ flat_map (rest_from (end_of f)) fs

-- the first whole fragment that ends after a place, if any
abbrev pub next_fragment : ℕ → List Fragment → Option Fragment
next_fragment at fs = find (ends_after at) fs
