-- What a shelf keeps, and what it has of each path.
use Rattle.std.specs.Global.{Global}
use Rattle.std.specs.Prelude.{ℕ, Bool, List, Option, None, Vec, unwrap_or}
use Rattle.std.specs.Map.{lookup}
use Rattle.std.specs.Str.{bytes_eq}
use Rattle.fs_types.specs.declared.push.Replica.{Replica}
use Rattle.shelf_store.specs.declared.shelf_path.ShelfPath.{ShelfPath}

-- what is kept of paths, each under its bytes
abbrev pub KeptShelf : Type 0 → Type 0
KeptShelf H = List (Vec ℕ Global × ShelfPath H)

-- a key is of these bytes
abbrev pub is_path : List ℕ → Vec ℕ Global → Bool
is_path p key = bytes_eq p key.items

module _ {H : Type 0} where
  -- a path on which nothing was put, and nothing dropped: its floor is 0, and no replica stands there
  abbrev pub untouched : ShelfPath H
  untouched = record { floor = 0; replica = None }

  -- what a shelf has of a path
  unfoldable pub path_in : KeptShelf H → List ℕ → ShelfPath H
  path_in shelf p = unwrap_or (lookup (is_path p) shelf) untouched

  -- the version below which no replica is put on a path
  abbrev pub floor_in : KeptShelf H → List ℕ → ℕ
  floor_in shelf p = (path_in shelf p).floor

  -- the replica that stands on a path, if one does
  abbrev pub replica_in : KeptShelf H → List ℕ → Option (Replica H)
  replica_in shelf p = (path_in shelf p).replica
