-- The journals that are kept, as one path's state is changed.
use Rattle.fs_types.proofs.Common.{common_steps, firsts-zip, length-map, ◌≡◌, ℕ, zero, suc, Bool, true, false, cond, List, [], ◌∷◌}
use Rattle.fs_types.proofs.Common.{◌++◌, length, set, map, Some, refl, sym, ap, subst, ◌∙◌, arith, zip, slice_get, AllByRecursion, bytes_eq}
use Rattle.fs_types.proofs.Common.{nat_cmp, is_lt, slice_cmp, map-set, set-get_or, same_Some}
use Rattle.fs_types.proofs.Common.{get_or_from_slice_get}
use Rattle.fs_script.specs.Vocabulary.{AreRising}
use Rattle.fs_script.proofs.CallerLemmas.{slice_get-map_some}
use Rattle.core_machine.specs.Vocabulary.{PathState, with_entry, journals_of}
use Rattle.fs_script.proofs.CallerLemmas.{not_among, same_bytes, other_bytes}
use Rattle.core_machine.proofs.Refines.Owners.{grown}

-- ---- journals beside their paths

-- paths that come after p keep their journals as p gets a line
with_entry-behind : (p : List ℕ) (n : ℕ) (ps js : List (List ℕ)) → AllByRecursion (λ q. is_lt (slice_cmp nat_cmp p q) ≡ true) ps
    → with_entry p n (zip ps js) ≡ zip ps js
with_entry-behind p n [] js behind = refl
with_entry-behind p n (q ∷ qs) [] behind = refl
with_entry-behind p n (q ∷ qs) (k ∷ ks) behind =
    let other : bytes_eq q p ≡ false = other_bytes q p (λ e. not_among p (q ∷ qs) 0 behind (ap Some e)) in
    rw other (ap (λ rest. (q, k) ∷ rest) (with_entry-behind p n qs ks behind.1))

with_entry-zip : (p : List ℕ) (n : ℕ) (ps js : List (List ℕ)) (i : ℕ) (j : List ℕ) → AreRising ps → slice_get ps i ≡ Some p
    → slice_get js i ≡ Some j → with_entry p n (zip ps js) ≡ zip ps (set js i (j ++ n ∷ []))
with_entry-zip p n [] js i j rising at is = absurd cc
with_entry-zip p n (q ∷ qs) [] i j rising at is = absurd cc
with_entry-zip p n (q ∷ qs) (k ∷ ks) zero j rising at is =
    let here : q ≡ p = same_Some q p at in
    let behind = subst (λ (w : List ℕ). AllByRecursion (λ r. is_lt (slice_cmp nat_cmp w r) ≡ true) qs) here rising.0 in
    rw (same_bytes q p here) (ap (λ rest. (q, k ++ n ∷ []) ∷ rest) (with_entry-behind p n qs ks behind)
    ∙ ap (λ (l : List ℕ). (q, l ++ n ∷ []) ∷ zip qs ks) (same_Some k j is))
with_entry-zip p n (q ∷ qs) (k ∷ ks) (suc i) j rising at is =
    let other : bytes_eq q p ≡ false = other_bytes q p (λ e. not_among q qs i rising.0 (at ∙ ap Some (sym e))) in
    rw other (ap (λ rest. (q, k) ∷ rest) (with_entry-zip p n qs ks i j rising.1 at is))

abbrev pub journal_kept : PathState → List ℕ
journal_kept x = x.owned.path.journal

-- the journals that are kept, as the place of the line's path is changed
pub journals_of-set : (paths : List (List ℕ)) (states : List PathState) (p : List ℕ) (n i : ℕ) (x y : PathState) (commits : Bool)
    → AreRising paths → slice_get paths i ≡ Some p → slice_get states i ≡ Some x
    → journal_kept y ≡ grown (journal_kept x) n commits → journals_of paths (set states i y)
    ≡ cond commits (with_entry p n (journals_of paths states)) (journals_of paths states)
journals_of-set paths states p n i x y true rising at is grows = grind (arith, common_steps, map-set, with_entry-zip, slice_get-map_some)
journals_of-set paths states p n i x y false rising at is grows =
    ap (zip paths) (map-set journal_kept states i y) ∙ ap (λ (j : List ℕ). zip paths (set (map journal_kept states) i j)) grows
    ∙ ap (zip paths) (ap (set (map journal_kept states) i)
    (sym (get_or_from_slice_get (map journal_kept states) i (journal_kept x) (journal_kept x)
    (slice_get-map_some journal_kept states i x is))) ∙ set-get_or (map journal_kept states) i (journal_kept x))

-- the paths are those beside the journals
pub paths-beside : (paths : List (List ℕ)) (states : List PathState) → length states ≡ length paths
    → map (λ j. j.0) (journals_of paths states) ≡ paths
paths-beside paths states size = firsts-zip paths (map journal_kept states) (length-map states journal_kept ∙ size)
