-- The laws of look-ups: where the parts of a range stand, and which pieces are found, each once.
use Rattle.std.specs.Prelude.{◌≡◌, ℕ, ◌≤◌, max, min, nat_lt, Bool, false, List, ◌++◌, map, filter, All, AllPairs}
use Rattle.fs_types.specs.Fragments.{end_of, piece_eq}
use Rattle.fs_types.specs.Pieces.{Fragment, Piece}
use Rattle.fs_types.specs.declared.hold.Hold as hold
use Rattle.span_list.specs.Spans.{AreSpans}
use Rattle.piece_table.specs.HeldSpans.{Held, is_named}
use Rattle.owner_book.specs.Lookups.{Pins, is_one_of, parts_in, pieces_named}

-- fragments lie in a range, from a place to before another, and each ends before a later one begins
pub record AreInRange (from to : ℕ) (parts : List Fragment) : Type 0 where
  pub spans : AreSpans parts
  pub within : All (λ f. (from ≤ f.at) × (end_of f ≤ to)) parts

-- some byte of a fragment stands in a range
abbrev pub stands_in : ℕ → ℕ → Fragment → Bool
stands_in from to f = nat_lt (max from f.at) (min to (end_of f))

-- these are the pieces of which bytes stand in a range, each once
pub record ArePiecesIn (from to : ℕ) (fs : List Fragment) (ps : List Piece) : Type 0 where
  pub named : (q : Piece) → is_one_of ps q ≡ is_named (filter (stands_in from to) fs) q
  pub once : AllPairs (λ p q. piece_eq p q ≡ false) ps

-- the parts of a range stand in order of place
abbrev pub PartsAreInRange : Type 0
PartsAreInRange = (from to : ℕ) (fs : List Fragment) → AreSpans fs → AreInRange from to (parts_in from to fs)

-- the pieces that they name are those of the range
abbrev pub PiecesAreOfRange : Type 0
PiecesAreOfRange = (from to : ℕ) (fs : List Fragment) → AreSpans fs → ArePiecesIn from to fs (pieces_named (parts_in from to fs))

-- and so are those of the pins, with the bare ones
abbrev pub PinsAreOfRange : {H : Type 0} → hold.Ghosts H → Type 0
PinsAreOfRange {H} met =
    (from to : ℕ) (x : Held H) (holds : List H) (bare : List Piece) → AreSpans x.fragments
    → Pins met x (pieces_named (parts_in from to x.fragments)) holds bare
    → ArePiecesIn from to x.fragments (map met.piece holds ++ bare)
