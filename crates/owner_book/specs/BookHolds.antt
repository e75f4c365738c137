-- All holds of a book, path by path.
use Rattle.std.specs.Prelude.{◌≡◌, ℕ, false, List, All, AllPairs, None}
use Rattle.std.specs.List.{flat_map, list_any}
use Rattle.fs_types.specs.Pieces.{Piece}
use Rattle.piece_table.specs.HeldSpans.{AreGone}
use Rattle.owner_book.specs.Kept.{Book, BookPath, held_at, none_held, path_in}
use Rattle.owner_book.specs.Names.{same_file}

-- the holds of one path
pub record Share (H : Type 0) : Type 0 where
  pub gfid : ℕ
  pub path : List ℕ
  pub holds : List H

module _ {H : Type 0} (piece : H → Piece) where
  -- these are the holds of a path's file, one of each piece that it names, and no other
  abbrev pub AreHoldsOf : BookPath H → List H → Type 0
  AreHoldsOf x holds = AreGone piece (held_at x) none_held holds

  -- Shares put together: each has the holds of its path's file, no two are of one path, and a path that has none has no file.
  pub record AreAllHolds (book : Book H) (all : List H) : Type 0 where
    pub shares : List (Share H)
    pub together : all ≡ flat_map (λ s. s.holds) shares
    pub each : All (λ s. AreHoldsOf (path_in book s.gfid s.path) s.holds) shares
    pub once : AllPairs (λ s t. same_file s.gfid s.path t.gfid t.path ≡ false) shares
    pub others : (g : ℕ) (q : List ℕ) → list_any (λ s. same_file g q s.gfid s.path) shares ≡ false → (path_in book g q).file ≡ None
