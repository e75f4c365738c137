-- What callers need of the words of contracts: which path changed, and when a replica has a version.
use Rattle.fs_types.proofs.Common.{◌≡◌, ◌≢◌, ◌⊎◌, ◌<◌, ◌≤◌, ℕ, Bool, true, false, List, Option, Some, None, nat_le, bytes_eq, bytes_eq-Decides}
use Rattle.fs_types.proofs.Common.{ap, arith, inl, inr, refl, sym, true≢false, ◌∙◌, leb-true, same_Some, subst, if◌then◌else◌}
use Rattle.std.proofs.lemmas.Bool.{leb-false}
use Rattle.fs_types.specs.declared.push.Replica.{Replica}
use Rattle.shelf_store.specs.Calls.{Changes, below_version, from_version}
use Rattle.shelf_store.specs.Kept.{KeptShelf, path_in}
use Rattle.shelf_store.specs.declared.shelf_path.ShelfPath.{ShelfPath}

-- two paths are one, or aren't
pub path-cases : (p q : List ℕ) → (q ≡ p) ⊎ (q ≢ p)
path-cases p q = by (bytes_eq q p) refl
  where
    by : (same : Bool) → bytes_eq q p ≡ same → (q ≡ p) ⊎ (q ≢ p)
    by true e = inl ((bytes_eq-Decides q p).0 e)
    by false e = inr (λ same. true≢false (sym ((bytes_eq-Decides q p).1 same) ∙ e))

module _ {H : Type 0} where
  -- a path is the one that changed, or has what it had
  pub changed-cases : {old new : KeptShelf H} {p : List ℕ} {x : ShelfPath H} → Changes old new p x → (q : List ℕ)
      → ((q ≡ p) × (path_in new q ≡ x)) ⊎ ((q ≢ p) × (path_in new q ≡ path_in old q))
  changed-cases {old} {new} {p} {x} changes q = elim (path-cases p q) [
    | inl here ↦ inl (here, ap (path_in new) here ∙ changes.there)
    | inr apart ↦ inr (apart, changes.others q apart)
  ]

  -- a replica has a version of at least this, or one below
  pub version-cases : (v : ℕ) (r : Replica H)
      → ((v ≤ r.version) × (from_version v (Some r) ≡ Some r) × (below_version v (Some r) ≡ None))
      ⊎ ((r.version < v) × (from_version v (Some r) ≡ None) × (below_version v (Some r) ≡ Some r))
  version-cases v r = by (nat_le v r.version) refl
    where
      by : (b : Bool) → nat_le v r.version ≡ b
          → ((v ≤ r.version) × ((if b then Some r else None) ≡ Some r) × ((if b then None else Some r) ≡ None))
          ⊎ ((r.version < v) × ((if b then Some r else None) ≡ None) × ((if b then None else Some r) ≡ Some r))
      by true e = inl (leb-true _ _ e, refl, refl)
      by false e = inr (omega (arith, leb-false _ _ e), refl, refl)

  -- what is found from a version on stands there
  pub found-stands : (v : ℕ) (o : Option (Replica H)) (r : Replica H) → from_version v o ≡ Some r → (o ≡ Some r) × (v ≤ r.version)
  found-stands v None r e = absurd cc
  found-stands v (Some s) r e = elim (version-cases v s) [
    | inl high ↦ (sym high.1 ∙ e, let same : s ≡ r = same_Some _ _ (sym high.1 ∙ e) in subst (λ x. v ≤ x.version) same high.0)
    | inr low ↦ absurd (let gone : None ≡ Some r = sym low.1 ∙ e in cc)
  ]
