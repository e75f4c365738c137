-- The pieces of a table: how many fragments name each, and its hold.
use Rattle.std.specs.Prelude.{◌≡◌, ℕ, ◌<◌, Bool, IsTrue, List, length, Option, Some, option_map, if◌then◌else◌}
use Rattle.std.specs.Option.{option_map_or}
use Rattle.std.specs.List.{IsDistinct}
use Rattle.std.specs.Map.{keys_of, lookup}
use Rattle.fs_types.specs.Fragments.{piece_eq}
use Rattle.fs_types.specs.Pieces.{Piece}
use Rattle.piece_table.specs.declared.piece_table.Counted.{Counted}

-- pieces, each with its number and its hold, and how many more fit without taking memory
pub record Pieces (H : Type 0) : Type 0 where
  pub entries : List (Piece × Counted H)
  pub spare : ℕ

module _ {H : Type 0} where
  -- what a table has of a piece
  abbrev pub counted_of : Pieces H → Piece → Option (Counted H)
  counted_of t q = lookup (piece_eq q) t.entries

  -- the number of a piece that may be there: none where it isn't
  abbrev pub number_in : Option (Counted H) → ℕ
  number_in found = option_map_or (λ c. c.number) found 0

  -- the hold of a piece that may be there
  abbrev pub hold_in : Option (Counted H) → Option H
  hold_in found = option_map (λ c. c.hold) found

  -- how many fragments name a piece
  abbrev pub number_of : Pieces H → Piece → ℕ
  number_of t q = number_in (counted_of t q)

  -- the hold of a piece
  abbrev pub hold_of : Pieces H → Piece → Option H
  hold_of t q = hold_in (counted_of t q)

  -- no piece is there twice, and each that is there is named by some fragment
  pub record AreCounted (entries : List (Piece × Counted H)) : Type 0 where
    pub apart : IsDistinct piece_eq (keys_of entries)
    pub number : (q : Piece) (c : Counted H) → lookup (piece_eq q) entries ≡ Some c → 0 < c.number

  -- each hold is of the piece that it stands for
  abbrev pub AreTheirs : (H → Piece) → (Piece → Option H) → Type 0
  AreTheirs piece_of hold_at = (q : Piece) (h : H) → hold_at q ≡ Some h → piece_of h ≡ q

  -- each hold is ready
  abbrev pub AreReady : (H → Bool) → (Piece → Option H) → Type 0
  AreReady is_ready hold_at = (q : Piece) (h : H) → hold_at q ≡ Some h → IsTrue (is_ready h)

  -- the table with another hold of a piece, where it has that piece: the numbers of all pieces stay, and the other holds
  pub record HoldSet (p : Piece) (h : H) (old new : Pieces H) : Type 0 where
    pub numbers : (q : Piece) → number_of new q ≡ number_of old q
    pub holds : (q : Piece) → hold_of new q ≡ (if piece_eq p q then Some h else hold_of old q)
    pub len : length new.entries ≡ length old.entries
    pub spare : new.spare ≡ old.spare
