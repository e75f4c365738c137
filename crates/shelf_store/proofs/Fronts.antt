-- What a front finds, and that floors and versions never fall.
use Rattle.fs_types.proofs.Common.{◌≡◌, ℕ, List, ◌++◌, Option, Some, None, IsSome, arith, inl, inr, refl, sym, subst}
use Rattle.fs_types.proofs.Common.{Contains-append_left, false≢true}
use Rattle.fs_types.specs.declared.push.Replica.{Replica}
use Rattle.shelf_store.specs.Calls.{from_version}
use Rattle.shelf_store.specs.Deeds.{Allows, Deed, IsGreatestDropped, IsGreatestPut, IsWhatStands, StandsFor, dropping, putting}
use Rattle.shelf_store.specs.Deeds.{FindsTheGreatest, FindsWhatIsAllowed, FloorsNeverFall, VersionsNeverFall}
use Rattle.shelf_store.specs.Kept.{KeptShelf, floor_in, replica_in}
use Rattle.shelf_store.proofs.CallerLemmas.{found-stands, version-cases}
use Rattle.shelf_store.proofs.Stands.{last-there}

module _ {H : Type 0} where
  -- what is found is allowed
  allowed-found : (deeds : List (Deed H)) (p : List ℕ) (floor front : ℕ) (o : Option (Replica H)) → IsGreatestDropped deeds p floor
      → IsWhatStands deeds p floor o → IsSome (from_version front o) → Allows deeds p front
  allowed-found deeds p floor front None dropped is found = absurd (false≢true found)
  allowed-found deeds p floor front (Some r) dropped is found = elim (version-cases front r) [
    | inl high ↦ record {
      replica = r;
      own = is.own;
      put = last-there deeds r is.last;
      at_front = high.0;
      stays = λ v there. omega (arith, dropped.greatest v there, is.allowed);
    }
    | inr low ↦ absurd (false≢true (subst IsSome low.1 found))
  ]

  -- what is allowed is found
  found-allowed : (deeds : List (Deed H)) (p : List ℕ) (floor front : ℕ) (o : Option (Replica H)) → IsGreatestDropped deeds p floor
      → IsWhatStands deeds p floor o → Allows deeds p front → IsSome (from_version front o)
  found-allowed deeds p floor front None dropped is allows = absurd (elim dropped.dropped [
    | inl none ↦ omega (arith, is allows.replica allows.own allows.put)
    | inr there ↦ omega (arith, is allows.replica allows.own allows.put, allows.stays floor there)
  ])
  found-allowed deeds p floor front (Some r) dropped is allows = elim (version-cases front r) [
    | inl high ↦ subst IsSome (sym high.1) refl
    | inr low ↦ absurd (omega (arith, low.0, is.greatest allows.replica allows.own allows.put, allows.at_front))
  ]

  pub finds-what_is_allowed : FindsWhatIsAllowed H
  finds-what_is_allowed deeds shelf p front stands = (
    allowed-found deeds p (floor_in shelf p) front (replica_in shelf p) (stands p).floor (stands p).replica,
    found-allowed deeds p (floor_in shelf p) front (replica_in shelf p) (stands p).floor (stands p).replica,
  )

  -- what stands on a path
  greatest-there : (deeds : List (Deed H)) (shelf : KeptShelf H) (p : List ℕ) (r : Replica H) → StandsFor deeds shelf
      → replica_in shelf p ≡ Some r → IsGreatestPut deeds p (floor_in shelf p) r
  greatest-there deeds shelf p r stands there = subst (IsWhatStands deeds p (floor_in shelf p)) there (stands p).replica

  pub finds-the_greatest : FindsTheGreatest H
  finds-the_greatest deeds shelf p front r stands found =
      greatest-there deeds shelf p r stands (found-stands front (replica_in shelf p) r found).0

  pub floors-never_fall : FloorsNeverFall H
  floors-never_fall deeds since old new p before after = elim (before p).floor.dropped [
    | inl none ↦ omega arith
    | inr there ↦ (after p).floor.greatest (floor_in old p) (Contains-append_left deeds since (dropping p (floor_in old p)) there)
  ]

  pub versions-never_fall : VersionsNeverFall H
  versions-never_fall deeds since old new p r s before after was is =
      let stood = greatest-there deeds old p r before was in
      (greatest-there (deeds ++ since) new p s after is).greatest r stood.own
      (Contains-append_left deeds since (putting r) (last-there deeds r stood.last))
