-- What was put on a shelf and dropped there since it was new, and what the shelf has of each path then.
use Rattle.std.specs.Prelude.{◌≡◌, ℕ, ◌≤◌, ◌<◌, ◌⊎◌, ◌↔◌, List, [], ◌∷◌, ◌++◌, Contains, Option, Some, None, IsSome}
use Rattle.fs_types.specs.declared.push.Replica.{Replica}
use Rattle.shelf_store.specs.declared.put.Put.{Put}
use Rattle.shelf_store.specs.declared.put.Put.TheVariants.{Kept, Older, Want}
use Rattle.shelf_store.specs.declared.shelf_path.ShelfPath.{ShelfPath}
use Rattle.shelf_store.specs.Calls.{Changes, IsAsBefore, IsPut, from_version, with_floor, with_replica}
use Rattle.shelf_store.specs.Kept.{KeptShelf, floor_in, path_in, replica_in, untouched}

-- a replica came to its path, as it was put there, and was kept or was older, or as it was left behind a loan of the one that
-- stood there; or what is below a version was dropped from a path
pub data Deed (H : Type 0) : Type 0 where
  putting : Replica H → Deed H
  dropping : List ℕ → ℕ → Deed H

module _ {H : Type 0} where
  -- of the versions below which a path was dropped none is greater than this, and it is one of them, or 0
  pub record IsGreatestDropped (deeds : List (Deed H)) (p : List ℕ) (floor : ℕ) : Type 0 where
    pub greatest : (v : ℕ) → Contains deeds (dropping p v) → v ≤ floor
    pub dropped : (floor ≡ 0) ⊎ Contains deeds (dropping p floor)

  -- this very replica was put, and each that was put on its path since is of a lower version
  pub record IsLastPut (deeds : List (Deed H)) (r : Replica H) : Type 0 where
    pub before : List (Deed H)
    pub since : List (Deed H)
    pub parts : deeds ≡ before ++ putting r ∷ since
    pub lower : (s : Replica H) → s.path ≡ r.path → Contains since (putting s) → s.version < r.version

  -- a replica is of its path, its version is at least the floor, and of those of the greatest version that were put there it
  -- is the last
  pub record IsGreatestPut (deeds : List (Deed H)) (p : List ℕ) (floor : ℕ) (r : Replica H) : Type 0 where
    pub own : r.path ≡ p
    pub allowed : floor ≤ r.version
    pub last : IsLastPut deeds r
    pub greatest : (s : Replica H) → s.path ≡ p → Contains deeds (putting s) → s.version ≤ r.version

  -- the replica that stands on a path is such a one; where none stands, all that were put are of versions below the floor
  abbrev pub IsWhatStands : List (Deed H) → List ℕ → ℕ → Option (Replica H) → Type 0
  IsWhatStands deeds p floor (Some r) = IsGreatestPut deeds p floor r
  IsWhatStands deeds p floor None = (s : Replica H) → s.path ≡ p → Contains deeds (putting s) → s.version < floor

  -- a path is what these deeds make of it
  pub record StandsAt (deeds : List (Deed H)) (p : List ℕ) (x : ShelfPath H) : Type 0 where
    pub floor : IsGreatestDropped deeds p x.floor
    pub replica : IsWhatStands deeds p x.floor x.replica

  -- so it is on each path of a shelf
  abbrev pub StandsFor : List (Deed H) → KeptShelf H → Type 0
  StandsFor deeds shelf = (p : List ℕ) → StandsAt deeds p (path_in shelf p)

  -- the deeds after a put, which is none where memory ran out
  abbrev pub after_put : List (Deed H) → Replica H → Put H → List (Deed H)
  after_put deeds r (Kept out) = deeds ++ putting r ∷ []
  after_put deeds r (Older back v) = deeds ++ putting r ∷ []
  after_put deeds r (Want back) = deeds

  -- a replica has the path and the version of another one
  pub record IsOfSameVersion (r s : Replica H) : Type 0 where
    pub path : s.path ≡ r.path
    pub version : s.version ≡ r.version

-- nothing was put, and nothing dropped
abbrev pub NewStands : Type 0 → Type 0
NewStands H = (shelf : KeptShelf H) → ((p : List ℕ) → path_in shelf p ≡ untouched) → StandsFor [] shelf

-- a replica was put
abbrev pub PutStands : Type 0 → Type 0
PutStands H =
    (deeds : List (Deed H)) (old new : KeptShelf H) (r : Replica H) (answer : Put H) → IsPut r old new answer → StandsFor deeds old
    → StandsFor (after_put deeds r answer) new

-- a deed more: what is below a version was dropped
abbrev pub DroppedStands : Type 0 → Type 0
DroppedStands H =
    (deeds : List (Deed H)) (old new : KeptShelf H) (p : List ℕ) (v : ℕ) → Changes old new p (with_floor v (path_in old p))
    → StandsFor deeds old → StandsFor (deeds ++ dropping p v ∷ []) new

-- a deed more: a replica was lent, and one of the same path and version was left behind, which came to the path so
abbrev pub LentStands : Type 0 → Type 0
LentStands H =
    (deeds : List (Deed H)) (old new : KeptShelf H) (p : List ℕ) (r s : Replica H) → replica_in old p ≡ Some r → IsOfSameVersion r s
    → Changes old new p (with_replica s (path_in old p)) → StandsFor deeds old → StandsFor (deeds ++ putting s ∷ []) new

-- no deed more: memory ran out
abbrev pub SameStands : Type 0 → Type 0
SameStands H = (deeds : List (Deed H)) (old new : KeptShelf H) → IsAsBefore old new → StandsFor deeds old → StandsFor deeds new

-- a front allows one of the replicas that were put on a path: its version is at least the front, and it was not dropped
pub record Allows {H : Type 0} (deeds : List (Deed H)) (p : List ℕ) (front : ℕ) : Type 0 where
  pub replica : Replica H
  pub own : replica.path ≡ p
  pub put : Contains deeds (putting replica)
  pub at_front : front ≤ replica.version
  pub stays : (v : ℕ) → Contains deeds (dropping p v) → v ≤ replica.version

-- a look-up finds a replica exactly where the front allows one
abbrev pub FindsWhatIsAllowed : Type 0 → Type 0
FindsWhatIsAllowed H =
    (deeds : List (Deed H)) (shelf : KeptShelf H) (p : List ℕ) (front : ℕ) → StandsFor deeds shelf
    → IsSome (from_version front (replica_in shelf p)) ↔ Allows deeds p front

-- and what it finds is the last of those of the greatest version that were put there
abbrev pub FindsTheGreatest : Type 0 → Type 0
FindsTheGreatest H =
    (deeds : List (Deed H)) (shelf : KeptShelf H) (p : List ℕ) (front : ℕ) (r : Replica H) → StandsFor deeds shelf
    → from_version front (replica_in shelf p) ≡ Some r → IsGreatestPut deeds p (floor_in shelf p) r

-- whatever is put and dropped, the floor of a path is not lower than it was
abbrev pub FloorsNeverFall : Type 0 → Type 0
FloorsNeverFall H =
    (deeds since : List (Deed H)) (old new : KeptShelf H) (p : List ℕ) → StandsFor deeds old → StandsFor (deeds ++ since) new
    → floor_in old p ≤ floor_in new p

-- and a replica that stands there is of no lower version than one that stood there
abbrev pub VersionsNeverFall : Type 0 → Type 0
VersionsNeverFall H =
    (deeds since : List (Deed H)) (old new : KeptShelf H) (p : List ℕ) (r s : Replica H) → StandsFor deeds old
    → StandsFor (deeds ++ since) new → replica_in old p ≡ Some r → replica_in new p ≡ Some s → r.version ≤ s.version
