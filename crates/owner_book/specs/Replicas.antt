-- A replica of a path's file: the whole file at its version, with a pin of each piece that it names.
use Rattle.std.specs.Prelude.{◌≡◌, ℕ, Bool, List}
use Rattle.std.specs.List.{list_any}
use Rattle.fs_types.specs.declared.hold.Hold as hold
use Rattle.fs_types.specs.declared.push.Replica.{Replica}
use Rattle.piece_table.specs.HeldSpans.{Held}
use Rattle.owner_book.specs.Calls.{attr, version}
use Rattle.owner_book.specs.Kept.{BookPath, held_at}
use Rattle.owner_book.specs.Lookups.{ArePinned, lacks_room, pieces_named}

module _ {H : Type 0} (met : hold.Ghosts H) where
  -- some piece that the fragments name has a hold with too little room for a pin with so much
  abbrev pub some_lacks : ℕ → Held H → Bool
  some_lacks given x = list_any (lacks_room met given x) (pieces_named x.fragments)

  -- the replica shows the path's file at its version, with a pin of each piece, which has at least this room
  pub record IsReplica (given : ℕ) (p : List ℕ) (x : BookPath H) (r : Replica H) : Type 0 where
    pub path : r.path ≡ p
    pub version : r.version ≡ version x
    pub size : r.size ≡ (attr x).size
    pub fragments : r.frags.items ≡ (held_at x).fragments
    pub pins : ArePinned met given (held_at x) (pieces_named r.frags.items) r.holds.items
