-- Shelves stand for what was put and dropped, and go on standing for it with each deed.
use Rattle.fs_types.proofs.Common.{◌≡◌, ◌≢◌, ◌⊎◌, ◌<◌, ◌≤◌, ℕ, max, List, [], ◌∷◌, ◌++◌, Contains, Option, Some, None, arith, inl, inr, refl}
use Rattle.fs_types.proofs.Common.{ap, append_assoc, sym, subst, ◌∙◌, cases_lt, Contains-append_left, Contains-push}
use Rattle.std.proofs.lemmas.List.Elements.{Contains-push_cases}
use Rattle.fs_types.specs.declared.push.Replica.{Replica}
use Rattle.shelf_store.specs.declared.put.Put.TheVariants.{Kept, Older, Want}
use Rattle.shelf_store.specs.declared.shelf_path.ShelfPath.{ShelfPath}
use Rattle.shelf_store.specs.Calls.{from_version, least, version_of, with_floor, with_replica}
use Rattle.shelf_store.specs.Deeds.{Deed, putting, dropping, IsGreatestDropped, IsGreatestPut, IsLastPut, IsWhatStands, StandsAt}
use Rattle.shelf_store.specs.Deeds.{DroppedStands, LentStands, PutStands}
use Rattle.shelf_store.specs.Kept.{floor_in, path_in}
use Rattle.shelf_store.proofs.CallerLemmas.{changed-cases, path-cases, version-cases}

module _ {H : Type 0} where
  -- a deed that drops nothing of a path leaves its greatest version
  dropped-kept : (deeds : List (Deed H)) (d : Deed H) (p : List ℕ) (floor : ℕ) → ((v : ℕ) → d ≢ dropping p v) → IsGreatestDropped deeds p floor
      → IsGreatestDropped (deeds ++ d ∷ []) p floor
  dropped-kept deeds d p floor other is = record {
    greatest = λ v there. elim (Contains-push_cases deeds d (dropping p v) there) [
      | inl before ↦ is.greatest v before
      | inr last ↦ absurd (other v last)
    ];
    dropped = elim is.dropped [
      | inl none ↦ inl none
      | inr before ↦ inr (Contains-append_left deeds (d ∷ []) (dropping p floor) before)
    ];
  }

  -- one that drops what is below a version leaves the greater of both
  dropped-more : (deeds : List (Deed H)) (p : List ℕ) (floor v : ℕ) → IsGreatestDropped deeds p floor
      → IsGreatestDropped (deeds ++ dropping p v ∷ []) p (max floor v)
  dropped-more deeds p floor v is = record {
    greatest = λ w there. elim (Contains-push_cases deeds (dropping p v) (dropping p w) there) [
      | inl before ↦ omega (arith, is.greatest w before)
      | inr last ↦ let same : v ≡ w = cc in omega arith
    ];
    dropped = elim (max-cases floor v) [
      | inl first ↦ elim is.dropped [
        | inl none ↦ inl (first ∙ none)
        | inr before ↦ inr (Contains-append_left deeds (dropping p v ∷ []) (dropping p (max floor v))
            (subst (λ w. Contains deeds (dropping p w)) (sym first) before))
      ]
      | inr second ↦ inr (subst (λ w. Contains (deeds ++ dropping p v ∷ []) (dropping p w)) (sym second) (Contains-push deeds (dropping p v)))
    ];
  }
    where
      max-cases : (m n : ℕ) → (max m n ≡ m) ⊎ (max m n ≡ n)
      max-cases m n = elim (cases_lt m n) [ inl below ↦ inr (omega arith) | inr past ↦ inl (omega arith) ]

  -- a replica that was put and not outdone was put
  pub last-there : (deeds : List (Deed H)) (r : Replica H) → IsLastPut deeds r → Contains deeds (putting r)
  last-there deeds r is =
      subst (λ ds. Contains ds (putting r)) (append_assoc is.before (putting r ∷ []) is.since ∙ sym is.parts)
      (Contains-append_left (is.before ++ putting r ∷ []) is.since (putting r) (Contains-push is.before (putting r)))

  -- it stays so with a deed that puts no other of its version or a greater one on its path
  last-kept : (deeds : List (Deed H)) (d : Deed H) (r : Replica H)
      → ((s : Replica H) → s.path ≡ r.path → d ≡ putting s → s.version < r.version) → IsLastPut deeds r → IsLastPut (deeds ++ d ∷ []) r
  last-kept deeds d r low is = record {
    before = is.before;
    since = is.since ++ d ∷ [];
    parts = ap (λ ds. ds ++ d ∷ []) is.parts ∙ append_assoc is.before (putting r ∷ is.since) (d ∷ []);
    lower = λ s here there. elim (Contains-push_cases is.since d (putting s) there) [
      | inl before ↦ is.lower s here before
      | inr last ↦ low s here last
    ];
  }

  -- a deed that puts nothing on a path leaves what stands there
  stands-kept : (deeds : List (Deed H)) (d : Deed H) (p : List ℕ) (floor : ℕ) (o : Option (Replica H))
      → ((s : Replica H) → s.path ≡ p → d ≢ putting s) → IsWhatStands deeds p floor o → IsWhatStands (deeds ++ d ∷ []) p floor o
  stands-kept deeds d p floor None other is = λ s here there. elim (Contains-push_cases deeds d (putting s) there) [
    | inl before ↦ is s here before
    | inr last ↦ absurd (other s here last)
  ]
  stands-kept deeds d p floor (Some r) other is = record {
    own = is.own;
    allowed = is.allowed;
    last = last-kept deeds d r (λ s here e. absurd (other s (here ∙ is.own) e)) is.last;
    greatest = λ s here there. elim (Contains-push_cases deeds d (putting s) there) [
      | inl before ↦ is.greatest s here before
      | inr last ↦ absurd (other s here last)
    ];
  }

  -- no version that was put is above what may be put now
  below-least : (deeds : List (Deed H)) (p : List ℕ) (x : ShelfPath H) → StandsAt deeds p x → (s : Replica H) → s.path ≡ p
      → Contains deeds (putting s) → s.version ≤ least x
  below-least deeds p x stands s here there = by x.replica stands.replica
    where
      by : (o : Option (Replica H)) → IsWhatStands deeds p x.floor o → s.version ≤ max x.floor (version_of o)
      by None is = omega (arith, is s here there)
      by (Some r) is = omega (arith, is.greatest s here there)

  -- deeds that put are the same for the same replica alone
  pub same-put : (r s : Replica H) → putting r ≡ putting s → r ≡ s
  same-put r s e = cc

  same-version : (r s : Replica H) → putting r ≡ putting s → r.version ≡ s.version
  same-version r s e = ap (λ t. t.version) (same-put r s e)

  -- a replica that may be put is the last of the greatest version then
  stands-put : (deeds : List (Deed H)) (x : ShelfPath H) (r : Replica H) → least x ≤ r.version → StandsAt deeds r.path x
      → StandsAt (deeds ++ putting r ∷ []) r.path (with_replica r x)
  stands-put deeds x r allowed stands = record {
    floor = dropped-kept deeds (putting r) r.path x.floor (λ v e. cc) stands.floor;
    replica = record {
      own = refl;
      allowed = omega arith;
      last = record {
        before = deeds;
        since = [];
        parts = refl;
        lower = λ s here there. let none : there.0 < 0 = there.1 in omega arith;
      };
      greatest = λ s here there. elim (Contains-push_cases deeds (putting r) (putting s) there) [
        | inl before ↦ omega (arith, below-least deeds r.path x stands s here before)
        | inr last ↦ omega (arith, same-version r s last)
      ];
    };
  }

  -- one that is older leaves what stands
  stands-older : (deeds : List (Deed H)) (x : ShelfPath H) (r : Replica H) → r.version < least x → StandsAt deeds r.path x
      → StandsAt (deeds ++ putting r ∷ []) r.path x
  stands-older deeds x r below stands = record {
    floor = dropped-kept deeds (putting r) r.path x.floor (λ w e. cc) stands.floor;
    replica = by x.replica below stands.replica;
  }
    where
      by : (o : Option (Replica H)) → r.version < max x.floor (version_of o) → IsWhatStands deeds r.path x.floor o
          → IsWhatStands (deeds ++ putting r ∷ []) r.path x.floor o
      by None low is = λ s here there. elim (Contains-push_cases deeds (putting r) (putting s) there) [
        | inl before ↦ is s here before
        | inr last ↦ omega (arith, same-version r s last)
      ]
      by (Some t) low is = record {
        own = is.own;
        allowed = is.allowed;
        last = last-kept deeds (putting r) t (λ s here e. omega (arith, same-version r s e, is.allowed)) is.last;
        greatest = λ s here there. elim (Contains-push_cases deeds (putting r) (putting s) there) [
          | inl before ↦ is.greatest s here before
          | inr last ↦ omega (arith, same-version r s last, is.allowed)
        ];
      }

  -- what is dropped below a version leaves what stands from there on
  stands-dropped : (deeds : List (Deed H)) (p : List ℕ) (x : ShelfPath H) (v : ℕ) → StandsAt deeds p x
      → StandsAt (deeds ++ dropping p v ∷ []) p (with_floor v x)
  stands-dropped deeds p x v stands = record {
    floor = dropped-more deeds p x.floor v stands.floor;
    replica = stands-kept deeds (dropping p v) p (max x.floor v) (from_version (max x.floor v) x.replica) (λ s here e. cc)
        (by x.replica stands.replica);
  }
    where
      by : (o : Option (Replica H)) → IsWhatStands deeds p x.floor o
          → IsWhatStands deeds p (max x.floor v) (from_version (max x.floor v) o)
      by None is = λ s here there. omega (arith, is s here there)
      by (Some r) is = elim (version-cases (max x.floor v) r) [
        | inl high ↦ subst (IsWhatStands deeds p (max x.floor v)) (sym high.1)
            (record { own = is.own; allowed = high.0; last = is.last; greatest = is.greatest })
        | inr low ↦ subst (IsWhatStands deeds p (max x.floor v)) (sym low.1) (λ s here there. omega (arith, is.greatest s here there, low.0))
      ]

  -- a deed on one path leaves what stands on another
  stands-other : (deeds : List (Deed H)) (d : Deed H) (q : List ℕ) (x : ShelfPath H) → ((s : Replica H) → s.path ≡ q → d ≢ putting s)
      → ((v : ℕ) → d ≢ dropping q v) → StandsAt deeds q x → StandsAt (deeds ++ d ∷ []) q x
  stands-other deeds d q x no_put no_drop stands = record {
    floor = dropped-kept deeds d q x.floor no_drop stands.floor;
    replica = stands-kept deeds d q x.floor x.replica no_put stands.replica;
  }

  -- what stands on one path stands on it under its other name
  at-path : (deeds : List (Deed H)) (p q : List ℕ) (x y : ShelfPath H) → q ≡ p → y ≡ x → StandsAt deeds p x → StandsAt deeds q y
  at-path deeds p q x y here is stands =
      subst (StandsAt deeds q) (sym is) (subst (λ r. StandsAt deeds r x) (sym here) stands)

  pub put-stands : PutStands H
  put-stands deeds old new r (Kept out) put stands q = elim (changed-cases put.changes q) [
    | inl here ↦ at-path (deeds ++ putting r ∷ []) r.path q _ _ here.0 here.1
        (stands-put deeds (path_in old r.path) r put.allowed (stands r.path))
    | inr apart ↦ subst (StandsAt (deeds ++ putting r ∷ []) q) (sym apart.1)
        (stands-other deeds (putting r) q (path_in old q) (λ s here e. apart.0 (sym here ∙ sym (ap (λ t. t.path) (same-put r s e))))
        (λ v e. cc) (stands q))
  ]
  put-stands deeds old new r (Older back v) put stands q =
      subst (StandsAt (deeds ++ putting r ∷ []) q) (sym (put.3 q)) (elim (path-cases r.path q) [
        | inl here ↦ at-path (deeds ++ putting r ∷ []) r.path q (path_in old r.path) (path_in old q) here (ap (path_in old) here)
            (stands-older deeds (path_in old r.path) r (omega (arith, put.1, put.2)) (stands r.path))
        | inr apart ↦ stands-other deeds (putting r) q (path_in old q) (λ s here e. apart (sym here ∙ sym (ap (λ t. t.path) (same-put r s e))))
            (λ w e. cc) (stands q)
      ])
  put-stands deeds old new r (Want back) put stands q = subst (StandsAt deeds q) (sym (put.2 q)) (stands q)

  pub dropped-stands : DroppedStands H
  dropped-stands deeds old new p v changes stands q = elim (changed-cases changes q) [
    | inl here ↦ at-path (deeds ++ dropping p v ∷ []) p q _ _ here.0 here.1 (stands-dropped deeds p (path_in old p) v (stands p))
    | inr apart ↦ subst (StandsAt (deeds ++ dropping p v ∷ []) q) (sym apart.1)
        (stands-other deeds (dropping p v) q (path_in old q) (λ s here e. cc) (λ w e. apart.0 (let same : q ≡ p = cc in same)) (stands q))
  ]

  -- what is left behind a loan may be put
  pub lent-stands : LentStands H
  lent-stands deeds old new p r s there same changes stands q = elim (changed-cases changes q) [
    | inl here ↦ at-path (deeds ++ putting s ∷ []) s.path q _ _ (here.0 ∙ sym own) here.1
        (stands-put deeds (path_in old p) s fits (subst (λ t. StandsAt deeds t (path_in old p)) (sym own) (stands p)))
    | inr apart ↦ subst (StandsAt (deeds ++ putting s ∷ []) q) (sym apart.1)
        (stands-other deeds (putting s) q (path_in old q)
        (λ t here e. apart.0 (sym here ∙ sym (ap (λ u. u.path) (same-put s t e)) ∙ own)) (λ v e. cc) (stands q))
  ]
    where
      was : IsGreatestPut deeds p (floor_in old p) r
      was = subst (IsWhatStands deeds p (floor_in old p)) there (stands p).replica

      own : s.path ≡ p
      own = same.path ∙ was.own

      fits : least (path_in old p) ≤ s.version
      fits = let version : version_of (path_in old p).replica ≡ r.version = ap version_of there in omega (arith, was.allowed, same.version)
