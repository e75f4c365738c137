-- What a path and a shelf end as, once the loan of a replica has ended.
use Rattle.std.specs.Prelude.{◌≡◌, List, ℕ, Option, OnSome}
use Rattle.std.specs.Borrow.{Fml, RattleType, MutBor, LendsSo}
use Rattle.fs_types.specs.contracts.push.Replica as replica
use Rattle.fs_types.specs.declared.push.Replica.{Replica}
use Rattle.shelf_store.specs.contracts.shelf.Shelf as shelf
use Rattle.shelf_store.specs.contracts.shelf_path.ShelfPath as path
use Rattle.shelf_store.specs.declared.shelf_path.ShelfPath.{ShelfPath}
use Rattle.shelf_store.specs.Calls.{Changes, IsAsBefore, with_replica}
use Rattle.shelf_store.specs.Kept.{KeptShelf, path_in}

module _ (H : RattleType) where
  -- what was left behind r stands there; without r all is as it was
  abbrev pub lends_there : MutBor (ShelfPath H.Denot) → Option (MutBor (Replica H.Denot)) → Fml
  lends_there s r = LendsSo (path.the_row H) (replica.the_row H) s r
      (λ n w. OnSome r (n ≡ with_replica w s.now)) (λ n. n ≡ s.now)

  -- what was left behind r stands on the path, and all else is as it was; without r all is as it was
  abbrev pub lends_replica : MutBor (KeptShelf H.Denot) → List ℕ → Option (MutBor (Replica H.Denot)) → Fml
  lends_replica s p r = LendsSo (shelf.the_row H) (replica.the_row H) s r
      (λ n w. OnSome r (Changes s.now n p (with_replica w (path_in s.now p)))) (IsAsBefore s.now)
