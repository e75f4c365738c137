-- The definitions at single values.
use Rattle.fs_types.proofs.Common.{◌≡◌, ◌≤◌, ◌<◌, ℕ, List, [], ◌∷◌, Some, None, Vec, Global, ap, arith, codes, refl, slice_index_or}
use Rattle.fs_types.proofs.Common.{zero, suc}
use Rattle.std.proofs.Common.{lit<}
use Rattle.fs_types.specs.Pieces.{Fragment}
use Rattle.fs_types.specs.declared.push.Replica.{Replica}
use Rattle.shelf_store.specs.Calls.{IsPutThere, below_version, from_version, least, with_floor, with_replica}
use Rattle.shelf_store.specs.Deeds.{Allows, Deed, IsGreatestDropped, IsGreatestPut, dropping, putting}
use Rattle.shelf_store.specs.Kept.{untouched}
use Rattle.shelf_store.proofs.Stands.{same-put}
use Rattle.shelf_store.specs.declared.put.Put.TheVariants.{Kept, Older}
use Rattle.shelf_store.specs.declared.shelf_path.ShelfPath.{ShelfPath}

abbrev a : List ℕ
a = codes "/unifyfs/a"

module _ {H : Type 0} (frags : Vec Fragment Global) (holds : Vec H Global) where
  -- the file of that path at a version
  abbrev file : ℕ → Replica H
  file v = record { path = a; version = v; size = 5; frags = frags; holds = holds }

  -- what was put and dropped on the path: version 4 came, then what is below 6 was dropped, and then version 5 came
  abbrev deeds : List (Deed H)
  deeds = putting (file 4) ∷ dropping a 6 ∷ putting (file 5) ∷ []

  -- ---- put, drop_below, put

  abbrev put : ShelfPath H
  put = with_replica (file 4) untouched

  abbrev dropped : ShelfPath H
  dropped = with_floor 6 put

  put_stands : put ≡ record { floor = 0; replica = Some (file 4) }
  put_stands = refl

  put_is_the_least : least put ≡ 4
  put_is_the_least = refl

  drop_leaves_none : dropped ≡ record { floor = 6; replica = None }
  drop_leaves_none = refl

  drop_takes_out : below_version 6 put.replica ≡ Some (file 4)
  drop_takes_out = refl

  floor_is_the_least : least dropped ≡ 6
  floor_is_the_least = refl

  older_than_the_floor : IsPutThere (file 5) dropped dropped (Older (file 5) 6)
  older_than_the_floor = (refl, refl, lit< tt, refl)

  put_at_the_floor : with_replica (file 6) dropped ≡ record { floor = 6; replica = Some (file 6) }
  put_at_the_floor = refl

  -- ---- drops that take nothing out

  drop_at_the_version : with_floor 4 put ≡ record { floor = 4; replica = Some (file 4) }
  drop_at_the_version = refl

  nothing_comes_out : below_version 4 put.replica ≡ None
  nothing_comes_out = refl

  lower_drop : with_floor 2 dropped ≡ dropped
  lower_drop = refl

  -- ---- fronts

  found_at_the_version : from_version 4 put.replica ≡ Some (file 4)
  found_at_the_version = refl

  not_found_above : from_version 5 put.replica ≡ None
  not_found_above = refl

  -- ---- what can't be: of floor 7 and version 9

  abbrev both : ShelfPath H
  both = with_floor 7 (with_replica (file 9) untouched)

  older_gives_the_greater : IsPutThere (file 6) both both (Older (file 6) 7) → ⊥
  older_gives_the_greater is = let lower : ◌≡◌ {A = ℕ} 7 9 = is.1 in omega arith

  between_floor_and_version_is_older : IsPutThere (file 8) both (with_replica (file 8) both) (Kept (Some (file 9))) → ⊥
  between_floor_and_version_is_older is = let kept : 9 ≤ 8 = is.0 in omega arith

  same_version_is_not_older : IsPutThere (file 9) both both (Older (file 9) 9) → ⊥
  same_version_is_not_older is = let below : 9 < 9 = is.2 in omega arith

  -- ---- after put, drop_below, put

  replica_below_the_floor : IsGreatestPut deeds a 6 (file 4) → ⊥
  replica_below_the_floor is = let allowed : 6 ≤ 4 = is.allowed in omega arith

  lower_version_than_was_put : IsGreatestPut deeds a 0 (file 4) → ⊥
  lower_version_than_was_put is = let lower : 5 ≤ 4 = is.greatest (file 5) refl (2, lit< tt, refl) in omega arith

  lowered_floor : IsGreatestDropped deeds a 5 → ⊥
  lowered_floor is = let lower : 6 ≤ 5 = is.greatest 6 (1, lit< tt, refl) in omega arith

  -- a replica that was put is of one of the two versions
  put_versions : (k : ℕ) (r : Replica H) → k < 3 → slice_index_or deeds k (putting r) ≡ putting r → r.version < 6
  put_versions zero r short is = let four : ◌≡◌ {A = ℕ} 4 r.version = ap (λ t. t.version) (same-put (file 4) r is) in omega arith
  put_versions (suc zero) r short is = let other : dropping a 6 ≡ putting r = is in absurd cc
  put_versions (suc (suc zero)) r short is =
      let five : ◌≡◌ {A = ℕ} 5 r.version = ap (λ t. t.version) (same-put (file 5) r is) in omega arith
  put_versions (suc (suc (suc k))) r short is = omega arith

  no_front_allows_any : (front : ℕ) → Allows deeds a front → ⊥
  no_front_allows_any front allows =
      let dropped : 6 ≤ allows.replica.version = allows.stays 6 (1, lit< tt, refl) in
      let put = put_versions allows.put.0 allows.replica allows.put.1 allows.put.2 in
      omega arith
