-- Paths under their bytes: what a shelf has of each once something else is kept of one.
use Rattle.std.specs.Prelude.{OnErr, OnSome}
use Rattle.std.specs.Map.{AreApart, IsKeyTest, KeepsOthers}
use Rattle.fs_types.proofs.Common.{◌≡◌, ℕ, Bool, true, false, List, Option, Some, None, Vec, Global, bytes_eq, bytes_eq-Decides}
use Rattle.fs_types.proofs.Common.{ap, sym, subst, ◌∙◌, is_some, false_from_ne_true, true≢false, unwrap_or, refl, Result, Ok, Err}
use Rattle.indexmap.specs.IndexMap.{IndexMap, UpdatesBy, get_by}
use Rattle.shelf_store.specs.Calls.{Changes, IsAsBefore}
use Rattle.shelf_store.specs.Kept.{KeptShelf, is_path, path_in, untouched}
use Rattle.shelf_store.specs.declared.shelf_path.ShelfPath.{ShelfPath}

-- keys of the same bytes are one
abbrev pub same_path : Vec ℕ Global → Vec ℕ Global → Bool
same_path x y = is_path x.items y

-- a look-up by bytes is one by a key
IsKeyTest-path : (p : List ℕ) → IsKeyTest same_path (is_path p)
IsKeyTest-path p x y is = ap (λ q. bytes_eq q y.items) ((bytes_eq-Decides p x.items).0 is)

-- look-ups by other bytes find other keys
AreApart-paths : (p q : List ℕ) → bytes_eq q p ≡ false → AreApart {K = Vec ℕ Global} (is_path p) (is_path q)
AreApart-paths p q other x is = subst (λ r. bytes_eq q r ≡ false) ((bytes_eq-Decides p x.items).0 is) other

-- nothing is found where nothing is there
pub not-found : {X : Type 0} (o : Option X) → is_some o ≡ false → o ≡ None
not-found None none = refl
not-found (Some x) none = absurd (true≢false none)

-- what holds anyway holds after an error
pub on-err : {T E P : Type 0} (r : Result T E) → P → OnErr r P
on-err (Ok x) p = tt
on-err (Err e) p = p

pub OnSome-weaker : {X P Q : Type 0} (o : Option X) → (P → Q) → OnSome o P → OnSome o Q
OnSome-weaker None f p = tt
OnSome-weaker (Some x) f p = f p

module _ {H S : Type 0} (shelf : KeptShelf H) (old : IndexMap (Vec ℕ Global) (ShelfPath H) S) (view : old.entries ≡ shelf)
    (bytes p : List ℕ) (is : bytes ≡ p) where
  -- what a shelf has of a path that is found, and of one that isn't
  pub found : path_in shelf p ≡ unwrap_or (get_by (is_path bytes) old) untouched
  unfolding path_in
  found = sym (ap (λ m. path_in m p) view) ∙ ap (path_in old.entries) (sym is)

  pub found-there : (x : ShelfPath H) → get_by (is_path bytes) old ≡ Some x → path_in shelf p ≡ x
  found-there x there = found ∙ ap (λ o. unwrap_or o untouched) there

  pub found-none : get_by (is_path bytes) old ≡ None → path_in shelf p ≡ untouched
  found-none none = found ∙ ap (λ o. unwrap_or o untouched) none

  -- something else is kept of the path, and of no other
  pub changes-updated : (new : IndexMap (Vec ℕ Global) (ShelfPath H) S) (x : ShelfPath H)
      → UpdatesBy same_path (is_path bytes) old new (Some x) → Changes shelf new.entries p x
  unfolding path_in KeepsOthers
  changes-updated new x updates = record {
    there = ap (path_in new.entries) (sym is) ∙ ap (λ o. unwrap_or o untouched) updates.1;
    others = λ q other.
        let apart : bytes_eq q bytes ≡ false = false_from_ne_true (bytes_eq q bytes) (λ same. other ((bytes_eq-Decides q bytes).0 same ∙ is)) in
        ap (λ o. unwrap_or o untouched) (updates.3 (is_path q) (IsKeyTest-path q) (AreApart-paths bytes q apart))
        ∙ ap (λ m. path_in m q) view;
  }

  -- the same once what was found of the path was lent, and came back changed
  pub changes-lent : (new : IndexMap (Vec ℕ Global) (ShelfPath H) S) (was now : ShelfPath H) → get_by (is_path bytes) old ≡ Some was
      → (is_some (get_by (is_path bytes) old) ≡ true → UpdatesBy same_path (is_path bytes) old new (Some now))
      → Changes shelf new.entries p now
  changes-lent new was now there updates = changes-updated new now (updates (ap is_some there))

module _ {H : Type 0} where
  pub same-entries : (old new : KeptShelf H) → new ≡ old → IsAsBefore old new
  same-entries old new same q = ap (λ m. path_in m q) same

  -- a change to what was there is none
  pub unchanged : (old new : KeptShelf H) (p : List ℕ) (x : ShelfPath H) → Changes old new p x → x ≡ path_in old p → IsAsBefore old new
  unchanged old new p x changes same q = by (bytes_eq q p) refl
    where
      by : (b : Bool) → bytes_eq q p ≡ b → path_in new q ≡ path_in old q
      by true e =
          let here : q ≡ p = (bytes_eq-Decides q p).0 e in
          ap (path_in new) here ∙ changes.there ∙ same ∙ ap (path_in old) (sym here)
      by false e = changes.others q (λ same. true≢false (sym ((bytes_eq-Decides q p).1 same) ∙ e))

  -- a change of what is as before is a change of that
  pub changes-before : (old mid new : KeptShelf H) (p : List ℕ) (x : ShelfPath H) → IsAsBefore old mid → Changes mid new p x
      → Changes old new p x
  changes-before old mid new p x before changes = record {
    there = changes.there;
    others = λ q other. changes.others q other ∙ before q;
  }

  -- what was made of what a shelf has of a path
  pub changes-as : (old new : KeptShelf H) (p : List ℕ) (was now : ShelfPath H) (f : ShelfPath H → ShelfPath H) → path_in old p ≡ was
      → now ≡ f was → Changes old new p now → Changes old new p (f (path_in old p))
  changes-as old new p was now f is e = subst (Changes old new p) (e ∙ ap f (sym is))
