-- What the calls of a shelf answer and leave.
use Rattle.std.specs.Prelude.{◌≡◌, ◌≢◌, ℕ, ◌<◌, ◌≤◌, max, nat_le, List, Option, Some, None, if◌then◌else◌}
use Rattle.fs_types.specs.declared.push.Replica.{Replica}
use Rattle.shelf_store.specs.declared.put.Put.{Put}
use Rattle.shelf_store.specs.declared.put.Put.TheVariants.{Kept, Older, Want}
use Rattle.shelf_store.specs.declared.shelf_path.ShelfPath.{ShelfPath}
use Rattle.shelf_store.specs.Kept.{KeptShelf, path_in, replica_in, untouched}

module _ {H : Type 0} where
  -- a replica, where its version is at least this
  abbrev pub from_version : ℕ → Option (Replica H) → Option (Replica H)
  from_version v None = None
  from_version v (Some r) = if nat_le v r.version then Some r else None

  -- a replica, where its version is below this
  abbrev pub below_version : ℕ → Option (Replica H) → Option (Replica H)
  below_version v None = None
  below_version v (Some r) = if nat_le v r.version then None else Some r

  -- the version of a replica, and 0 where there is none
  abbrev pub version_of : Option (Replica H) → ℕ
  version_of None = 0
  version_of (Some r) = r.version

  -- the least version that may be put on a path: the greater of its floor and of the version that stands there
  abbrev pub least : ShelfPath H → ℕ
  least x = max x.floor (version_of x.replica)

  -- a path on which this replica stands
  abbrev pub with_replica : Replica H → ShelfPath H → ShelfPath H
  with_replica r x = record { floor = x.floor; replica = Some r }

  -- a path of which what is below a version was dropped: its floor is the greater of both, and no replica stands below it
  abbrev pub with_floor : ℕ → ShelfPath H → ShelfPath H
  with_floor v x = record { floor = max x.floor v; replica = from_version (max x.floor v) x.replica }

  -- of one path a shelf has this now, and of every other what it had
  pub record Changes (old new : KeptShelf H) (p : List ℕ) (x : ShelfPath H) : Type 0 where
    pub there : path_in new p ≡ x
    pub others : (q : List ℕ) → q ≢ p → path_in new q ≡ path_in old q

  -- of every path it has what it had
  abbrev pub IsAsBefore : KeptShelf H → KeptShelf H → Type 0
  IsAsBefore old new = (q : List ℕ) → path_in new q ≡ path_in old q

  -- a put that is kept: the replica's version is not below what may be put there, and what stood there comes out
  pub record IsKept (r : Replica H) (old new : KeptShelf H) (out : Option (Replica H)) : Type 0 where
    pub allowed : least (path_in old r.path) ≤ r.version
    pub replaced : out ≡ replica_in old r.path
    pub changes : Changes old new r.path (with_replica r (path_in old r.path))

  -- what a put of a replica answers, and what it leaves
  abbrev pub IsPut : Replica H → KeptShelf H → KeptShelf H → Put H → Type 0
  IsPut r old new (Kept out) = IsKept r old new out
  IsPut r old new (Older back v) =
      (back ≡ r) × (v ≡ least (path_in old r.path)) × (r.version < v) × IsAsBefore old new
  IsPut r old new (Want back) = (back ≡ r) × (path_in old r.path ≡ untouched) × IsAsBefore old new

  -- the same of the path alone
  abbrev pub IsPutThere : Replica H → ShelfPath H → ShelfPath H → Put H → Type 0
  IsPutThere r old new (Kept out) = (least old ≤ r.version) × (out ≡ old.replica) × (new ≡ with_replica r old)
  IsPutThere r old new (Older back v) = (back ≡ r) × (v ≡ least old) × (r.version < v) × (new ≡ old)
  IsPutThere r old new (Want back) = ⊥
