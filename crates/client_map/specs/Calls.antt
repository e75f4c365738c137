-- What the calls of a map ask and leave.
use Rattle.std.specs.Prelude.{◌≡◌, ℕ, Bool, List, if◌then◌else◌}
use Rattle.std.specs.Str.{bytes_eq}
use Rattle.fs_types.specs.Pieces.{Piece}
use Rattle.piece_table.specs.HeldSpans.{AreHeld, Held}
use Rattle.client_map.specs.Kept.{MapKept, pending_in}

module _ {H : Type 0} where
  -- this is pending on one path, and on every other what was
  pub record Changes (old new : MapKept H) (p : List ℕ) (x : Held H) : Type 0 where
    pub chunk : new.chunk ≡ old.chunk
    pub paths : (q : List ℕ) → pending_in new q ≡ (if bytes_eq q p then x else pending_in old q)

  -- on every path is pending what was
  pub record IsAsBefore (old new : MapKept H) : Type 0 where
    pub chunk : new.chunk ≡ old.chunk
    pub paths : (q : List ℕ) → pending_in new q ≡ pending_in old q

  -- each piece that is pending on a path has a ready hold of its own, in which its fragments lie, and no other piece has one
  abbrev pub HasHolds : (H → Bool) → (H → Piece) → (H → ℕ) → MapKept H → List ℕ → Type 0
  HasHolds is_ready piece byte_count map p = AreHeld is_ready piece byte_count (pending_in map p)

  -- so it is on each path
  abbrev pub AllHaveHolds : (H → Bool) → (H → Piece) → (H → ℕ) → MapKept H → Type 0
  AllHaveHolds is_ready piece byte_count map = (q : List ℕ) → HasHolds is_ready piece byte_count map q
