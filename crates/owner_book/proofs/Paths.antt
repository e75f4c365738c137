-- Files under their keys: what a book has of each path once it keeps something else for one of them.
use Rattle.fs_types.proofs.Common.{◌≡◌, ℕ, Bool, true, false, if◌then◌else◌, List, Option, Some, None, is_some, refl}
use Rattle.fs_types.proofs.Common.{◌∙◌, sym, ap, subst, true≢false, Decides-eqb, bytes_eq-Decides, Result, Ok, Err, OnOk, IfOk, cond_both}
use Rattle.std.specs.Option.{OnSome}
use Rattle.std.specs.Result.{OnErr}
use Rattle.std.specs.Bool.{Decides}
use Rattle.std.specs.Cmp.{IsEquivalence}
use Rattle.std.specs.Map.{IsKeyTest, AreApart, KeepsOthers}
use Rattle.std.proofs.lemmas.Bool.Decides.{Decides-and}
use Rattle.indexmap.specs.IndexMap.{IndexMap, get_by, UpdatesBy}
use Rattle.owner_book.specs.declared.file_key.FileKey.{FileKey}
use Rattle.owner_book.specs.Names.{names_key, same_file}
use Rattle.owner_book.specs.Kept.{Book, BookPath, PathKept, no_path, path_found, path_in, path_of}
use Rattle.owner_book.specs.Calls.{Changes, IsAsBefore}

-- keys of one gfid and one path are one
abbrev pub same_key : FileKey → FileKey → Bool
same_key x y = names_key x.gfid x.path.items y

-- one gfid and path are another's
Decides-name : (g h : ℕ) (p q : List ℕ) → Decides (same_file g p h q) ((g ≡ h) × (p ≡ q))
Decides-name g h p q = Decides-and _ _ (Decides-eqb g h) (bytes_eq-Decides p q)

pub same_file-itself : (g : ℕ) (p : List ℕ) → same_file g p g p ≡ true
same_file-itself g p = (Decides-name g g p p).1 (refl, refl)

-- what there is by another name where that is this one, and by this one where it isn't, is what there is by this one
either-name : {X : Type 0} (at : ℕ → List ℕ → X) (g : ℕ) (q : List ℕ) (gfid : ℕ) (p : List ℕ)
    → (if same_file g q gfid p then at gfid p else at g q) ≡ at g q
either-name at g q gfid p =
    cond_both (same_file g q gfid p) (at gfid p) (at g q) (λ x. x ≡ at g q)
    (λ is. let names = (Decides-name g gfid q p).0 is in sym (ap (λ (h : ℕ). at h q) names.0 ∙ ap (at gfid) names.1)) (λ _. refl)

-- a look-up by gfid and path is one by a key
IsKeyTest-names : (g : ℕ) (p : List ℕ) → IsKeyTest same_key (names_key g p)
IsKeyTest-names g p x y is =
    let at = (Decides-name g x.gfid p x.path.items).0 is in
    rw (at.0, at.1) refl

-- so keys are told apart by an equivalence
same_file-comm : (g h : ℕ) (p q : List ℕ) → same_file g p h q ≡ same_file h q g p
same_file-comm g h p q = by (same_file g p h q) (same_file h q g p) refl refl where
  by : (b c : Bool) → same_file g p h q ≡ b → same_file h q g p ≡ c → b ≡ c
  by true true first second = refl
  by false false first second = refl
  by true false first second =
      let names = (Decides-name g h p q).0 first in
      absurd (true≢false (sym ((Decides-name h g q p).1 (sym names.0, sym names.1)) ∙ second))
  by false true first second =
      let names = (Decides-name h g q p).0 second in
      absurd (true≢false (sym ((Decides-name g h p q).1 (sym names.0, sym names.1)) ∙ first))

pub IsEquivalence-same_key : IsEquivalence same_key
IsEquivalence-same_key = record {
  refl = λ x. same_file-itself x.gfid x.path.items;
  symm = λ x y. same_file-comm x.gfid y.gfid x.path.items y.path.items;
  congr = λ x y z. IsKeyTest-names x.gfid x.path.items y z;
}

-- two look-ups that differ find different keys
AreApart-names : (g h : ℕ) (p q : List ℕ) → same_file h q g p ≡ false → AreApart (names_key g p) (names_key h q)
AreApart-names g h p q other k is = by (names_key h q k) refl
  where
    by : (b : Bool) → names_key h q k ≡ b → names_key h q k ≡ false
    by false e = e
    by true e =
        let here = (Decides-name g k.gfid p k.path.items).0 is in
        let there = (Decides-name h k.gfid q k.path.items).0 e in
        let same = (Decides-name h g q p).1 (there.0 ∙ sym here.0, there.1 ∙ sym here.1) in
        absurd (true≢false (sym same ∙ other))

-- what is found is one of two, and so is the path
path_found-if : {H : Type 0} (b : Bool) (x : PathKept H) (y : Option (PathKept H))
    → path_found (if b then Some x else y) ≡ (if b then path_of x else path_found y)
path_found-if true x y = refl
path_found-if false x y = refl

module _ {H S : Type 0} where
  -- what is found where something is kept under one name
  found-after : (old new : IndexMap FileKey (PathKept H) S) (gfid : ℕ) (p : List ℕ) (x : PathKept H)
      → UpdatesBy same_key (names_key gfid p) old new (Some x) → (g : ℕ) (q : List ℕ)
      → get_by (names_key g q) new ≡ (if same_file g q gfid p then Some x else get_by (names_key g q) old)
  unfolding KeepsOthers
  found-after old new gfid p x updates g q = by (same_file g q gfid p) refl
    where
      by : (b : Bool) → same_file g q gfid p ≡ b
          → get_by (names_key g q) new ≡ (if same_file g q gfid p then Some x else get_by (names_key g q) old)
      by true e =
          let same = (Decides-name g gfid q p).0 e in
          ap (λ (h : ℕ). get_by (names_key h q) new) same.0 ∙ ap (λ (r : List ℕ). get_by (names_key gfid r) new) same.1 ∙ updates.1
          ∙ sym (ap (λ b. if b then Some x else get_by (names_key g q) old) e)
      by false e =
          updates.3 (names_key g q) (IsKeyTest-names g q) (AreApart-names gfid g p q e)
          ∙ sym (ap (λ b. if b then Some x else get_by (names_key g q) old) e)

  -- the book has that of the one path alone
  pub changes-updated : (old new : IndexMap FileKey (PathKept H) S) (gfid : ℕ) (p : List ℕ) (x : PathKept H)
      → UpdatesBy same_key (names_key gfid p) old new (Some x) → Changes old.entries new.entries gfid p (path_of x)
  changes-updated old new gfid p x updates g q =
      ap path_found (found-after old new gfid p x updates g q) ∙ path_found-if (same_file g q gfid p) x (get_by (names_key g q) old)

module _ {H : Type 0} where
  -- what the book has of the path that changed
  pub at-changed : (old new : Book H) (gfid : ℕ) (p : List ℕ) (x : BookPath H) → Changes old new gfid p x → path_in new gfid p ≡ x
  at-changed old new gfid p x changes =
      changes gfid p ∙ ap (λ b. if b then x else path_in old gfid p) (same_file-itself gfid p)

  -- a change to what was there is none
  pub unchanged : (old new : Book H) (gfid : ℕ) (p : List ℕ) (x : BookPath H) → Changes old new gfid p x → x ≡ path_in old gfid p
      → IsAsBefore old new
  unchanged old new gfid p x changes same g q =
      changes g q ∙ ap (λ y. if same_file g q gfid p then y else path_in old g q) same ∙ either-name (path_in old) g q gfid p

  -- a book that is as it was has of one path what it has
  pub changes-itself : (old new : Book H) (gfid : ℕ) (p : List ℕ) → IsAsBefore old new → Changes old new gfid p (path_in new gfid p)
  changes-itself old new gfid p same g q =
      sym (either-name (path_in new) g q gfid p) ∙ ap (λ y. if same_file g q gfid p then path_in new gfid p else y) (same g q)

  -- and one in which a path changed has of it what it has then
  pub changes-here : (old new : Book H) (gfid : ℕ) (p : List ℕ) (x : BookPath H) → Changes old new gfid p x
      → Changes old new gfid p (path_in new gfid p)
  changes-here old new gfid p x changes = subst (Changes old new gfid p) (sym (at-changed old new gfid p x changes)) changes

-- ---- what a call on a path that is kept makes of the book

pub OnOk-map : {X E : Type 0} {A B : Type 0} (r : Result X E) → (A → B) → OnOk r A → OnOk r B
OnOk-map (Ok x) f a = f a
OnOk-map (Err e) f a = tt

pub OnErr-map : {X E : Type 0} {A B : Type 0} (r : Result X E) → (A → B) → OnErr r A → OnErr r B
OnErr-map (Ok x) f a = tt
OnErr-map (Err e) f a = f a

pub OnSome-map : {X A B : Type 0} (o : Option X) → (A → B) → OnSome o A → OnSome o B
OnSome-map (Some x) f a = f a
OnSome-map None f a = tt

pub IfOk-map : {X E : Type 0} {A B : X → Type 0} (r : Result X E) → ((x : X) → A x → B x) → IfOk r A → IfOk r B
IfOk-map (Ok x) f a = f x a
IfOk-map (Err e) f a = tt

module _ {H S : Type 0} (book : Book H) (old : IndexMap FileKey (PathKept H) S) (kept : old.entries ≡ book) (gfid : ℕ) (bytes p : List ℕ)
    (is : bytes ≡ p) where
  -- what the book has of a path that is found
  pub found-there : (was : PathKept H) → get_by (names_key gfid bytes) old ≡ Some was → path_in book gfid p ≡ path_of was
  found-there was there =
      ap (λ b. path_in b gfid p) (sym kept) ∙ ap (λ (q : List ℕ). path_in old.entries gfid q) (sym is) ∙ ap path_found there

  -- and of one that isn't there
  pub found-none : get_by (names_key gfid bytes) old ≡ None → path_in book gfid p ≡ no_path
  found-none there =
      ap (λ b. path_in b gfid p) (sym kept) ∙ ap (λ (q : List ℕ). path_in old.entries gfid q) (sym is) ∙ ap path_found there

  -- what is found was lent, and came back changed
  pub changes-lent : (new : IndexMap FileKey (PathKept H) S) (was x : PathKept H) → get_by (names_key gfid bytes) old ≡ Some was
      → (is_some (get_by (names_key gfid bytes) old) ≡ true → UpdatesBy same_key (names_key gfid bytes) old new (Some x))
      → Changes book new.entries gfid p (path_of x)
  changes-lent new was x there updates =
      subst (λ b. Changes b new.entries gfid p (path_of x)) kept
      (subst (λ (q : List ℕ). Changes old.entries new.entries gfid q (path_of x)) is
      (changes-updated old new gfid bytes x (updates (ap is_some there))))

-- what the book has before and after what was found of a path was lent, and came back changed
pub record Lent {H : Type 0} (old new : Book H) (gfid : ℕ) (p : List ℕ) (was now : PathKept H) : Type 0 where
  pub was_is : path_in old gfid p ≡ path_of was
  pub now_is : path_in new gfid p ≡ path_of now
  pub changes : Changes old new gfid p (path_of now)

pub lent-is : {H S : Type 0} (book : Book H) (old new : IndexMap FileKey (PathKept H) S) (gfid : ℕ) (bytes p : List ℕ) (was now : PathKept H)
    → old.entries ≡ book → bytes ≡ p → get_by (names_key gfid bytes) old ≡ Some was
    → (is_some (get_by (names_key gfid bytes) old) ≡ true → UpdatesBy same_key (names_key gfid bytes) old new (Some now))
    → Lent book new.entries gfid p was now
lent-is book old new gfid bytes p was now kept is there updates =
    let changes = changes-lent book old kept gfid bytes p is new was now there updates in
    record {
      was_is = found-there book old kept gfid bytes p is was there;
      now_is = at-changed book new.entries gfid p (path_of now) changes;
      changes = changes;
    }

module _ {H : Type 0} {old new : Book H} {gfid : ℕ} {p : List ℕ} {was now : PathKept H} (lent : Lent old new gfid p was now) where
  -- what the path became is what the book has of it
  pub lent-changed : (f : BookPath H → BookPath H) → path_of now ≡ f (path_of was) → Changes old new gfid p (f (path_in old gfid p))
  lent-changed f e = subst (Changes old new gfid p) (e ∙ ap f (sym lent.was_is)) lent.changes

  -- the book has of every other path what it had
  pub lent-here : Changes old new gfid p (path_in new gfid p)
  lent-here = changes-here old new gfid p (path_of now) lent.changes

  -- where the path is as it was, so is the book
  pub lent-same : path_of now ≡ path_of was → IsAsBefore old new
  lent-same e = unchanged old new gfid p (path_of now) lent.changes (e ∙ sym lent.was_is)

  -- what holds of the path before and after holds of what the book has of it
  pub lent-both : (F : BookPath H → BookPath H → Type 0) → F (path_of was) (path_of now) → F (path_in old gfid p) (path_in new gfid p)
  lent-both F f = subst (λ x. F x (path_in new gfid p)) (sym lent.was_is) (subst (F (path_of was)) (sym lent.now_is) f)
