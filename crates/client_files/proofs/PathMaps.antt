-- Values under their paths: what a map has at each path once it has another value at one of them.
use Rattle.std.specs.Global.{Global}
use Rattle.std.specs.Map.{AreApart, IsKeyTest, KeepsOthers}
use Rattle.fs_types.proofs.Common.{◌≡◌, ℕ, Bool, true, false, List, Option, Some, None, is_some, Vec, bytes_eq, bytes_eq-Decides}
use Rattle.fs_types.proofs.Common.{ap, sym, subst, ◌∙◌, false_from_ne_true}
use Rattle.indexmap.specs.IndexMap.{IndexMap, UpdatesBy, get_by}
use Rattle.std.specs.Borrow.{MutBor}
use Rattle.std.specs.Option.{option_copied_mut}
use Rattle.std.specs.Prelude.{OnSome, unwrap_or}
use Rattle.client_files.specs.Kept.{KeptFiles, path_in, untouched}
use Rattle.client_files.specs.PathMap.{Changes, Entries, entry_at}
use Rattle.client_files.specs.declared.file_path.FilePath.{FilePath}

-- paths of the same bytes are one
abbrev pub same_path : Vec ℕ Global → Vec ℕ Global → Bool
same_path x y = bytes_eq x.items y.items

-- a look-up by bytes is one by a path
IsKeyTest-bytes : (p : List ℕ) → IsKeyTest same_path (λ x. bytes_eq p x.items)
IsKeyTest-bytes p x y is = ap (λ q. bytes_eq q y.items) ((bytes_eq-Decides p x.items).0 is)

-- look-ups by other bytes find other paths
AreApart-bytes : (p q : List ℕ) → bytes_eq q p ≡ false → AreApart {K = Vec ℕ Global} (λ x. bytes_eq p x.items) (λ x. bytes_eq q x.items)
AreApart-bytes p q other x is = subst (λ r. bytes_eq q r ≡ false) ((bytes_eq-Decides p x.items).0 is) other

-- a map has the new value at the one path alone
pub changes-updated : {T S : Type 0} (before : Entries T) (old new : IndexMap (Vec ℕ Global) T S) (bytes p : List ℕ) (x : T)
    → old.entries ≡ before → bytes ≡ p → UpdatesBy same_path (λ k. bytes_eq bytes k.items) old new (Some x)
    → Changes (entry_at before) (entry_at new.entries) p (Some x)
unfolding entry_at KeepsOthers
changes-updated before old new bytes p x was is updates = record {
  there = ap (entry_at new.entries) (sym is) ∙ updates.1;
  others = λ q other.
      let apart : bytes_eq q bytes ≡ false = false_from_ne_true (bytes_eq q bytes) (λ same. other ((bytes_eq-Decides q bytes).0 same ∙ is)) in
      updates.3 (λ k. bytes_eq q k.items) (IsKeyTest-bytes q) (AreApart-bytes bytes q apart) ∙ ap (λ m. entry_at m q) was;
}

-- what is found under the bytes of a path is what it has
pub value-at : {T S : Type 0} (map : Entries T) (entries : IndexMap (Vec ℕ Global) T S) (bytes p : List ℕ) → entries.entries ≡ map
    → bytes ≡ p → get_by (λ k. bytes_eq bytes k.items) entries ≡ entry_at map p
unfolding entry_at
value-at map entries bytes p was is = ap (entry_at entries.entries) is ∙ ap (λ m. entry_at m p) was

-- a map has the new value at the one path alone where a value was found, lent, and left behind as the new one
pub lent-updated : {T S : Type 0} (before : Entries T) (old new : IndexMap (Vec ℕ Global) T S) (bytes p : List ℕ) (x : T)
    (r : Option (MutBor T)) → old.entries ≡ before → bytes ≡ p → option_copied_mut r ≡ get_by (λ k. bytes_eq bytes k.items) old
    → (is_some (get_by (λ k. bytes_eq bytes k.items) old) ≡ true → UpdatesBy same_path (λ k. bytes_eq bytes k.items) old new (Some x))
    → OnSome r (Changes (entry_at before) (entry_at new.entries) p (Some x))
lent-updated before old new bytes p x None was is found updates = tt
lent-updated before old new bytes p x (Some r) was is found updates =
    changes-updated before old new bytes p x was is (updates (ap is_some (sym found)))

-- what follows where a value is lent, where one was
pub when-lent : {A P : Type 0} (o : Option A) (x : A) → o ≡ Some x → OnSome o P → P
when-lent {A} {P} o x is follows = subst (λ r. OnSome r P) is follows

-- what is kept of one path is what was made of it
pub path-changed : (before old new : KeptFiles) (p : List ℕ) (was now : FilePath) (f : FilePath → FilePath) → old ≡ before
    → entry_at old p ≡ Some was → Changes (entry_at old) (entry_at new) p (Some now) → now ≡ f was
    → Changes (path_in before) (path_in new) p (f (path_in before p))
unfolding path_in
path-changed before old new p was now f view there changes made =
    subst (λ m. Changes (path_in m) (path_in new) p (f (path_in m p))) view
    (record {
      there = ap (λ o. unwrap_or o untouched) changes.there ∙ made ∙ ap (λ o. f (unwrap_or o untouched)) (sym there);
      others = λ q other. ap (λ o. unwrap_or o untouched) (changes.others q other);
    })
