-- Paths under their texts: what is pending on each once something else is kept of one.
use Rattle.fs_types.proofs.Common.{◌≡◌, ℕ, Bool, true, false, if◌then◌else◌, List, Option, Some, None, is_some, refl, Vec, Global}
use Rattle.fs_types.proofs.Common.{◌∙◌, sym, ap, subst, true≢false, bytes_eq, bytes_eq-Decides}
use Rattle.std.specs.Prelude.{OnSome}
use Rattle.std.specs.Map.{IsKeyTest, AreApart, KeepsOthers}
use Rattle.indexmap.specs.IndexMap.{IndexMap, get_by, UpdatesBy}
use Rattle.piece_table.specs.HeldSpans.{Held, Kept, held}
use Rattle.client_map.specs.Kept.{MapKept, is_text, nothing_pending, pending_found, pending_in}
use Rattle.client_map.specs.Calls.{Changes, IsAsBefore}

abbrev Text : Type 0
Text = Vec ℕ Global

-- keys of one text are one
abbrev pub same_text : Text → Text → Bool
same_text x y = is_text x.items y

pub bytes_eq-itself : (p : List ℕ) → bytes_eq p p ≡ true
bytes_eq-itself p = (bytes_eq-Decides p p).1 refl

-- a look-up by a text is one by a key
IsKeyTest-text : (p : List ℕ) → IsKeyTest same_text (is_text p)
IsKeyTest-text p x y is = rw ((bytes_eq-Decides p x.items).0 is) refl

-- two look-ups that differ find different keys
AreApart-texts : (p q : List ℕ) → bytes_eq q p ≡ false → AreApart (is_text p) (is_text q)
AreApart-texts p q other k is = by (is_text q k) refl
  where
    by : (b : Bool) → is_text q k ≡ b → is_text q k ≡ false
    by false e = e
    by true e =
        let here = (bytes_eq-Decides p k.items).0 is in
        let there = (bytes_eq-Decides q k.items).0 e in
        absurd (true≢false (sym ((bytes_eq-Decides q p).1 (there ∙ sym here)) ∙ other))

module _ {H S : Type 0} where
  -- what is found where something is kept under one text
  found-after : (old new : IndexMap Text (Kept H) S) (p : List ℕ) (x : Kept H) → UpdatesBy same_text (is_text p) old new (Some x)
      → (q : List ℕ) → pending_found (get_by (is_text q) new) ≡ (if bytes_eq q p then held x else pending_found (get_by (is_text q) old))
  unfolding KeepsOthers
  found-after old new p x updates q = by (bytes_eq q p) refl
    where
      by : (b : Bool) → bytes_eq q p ≡ b
          → pending_found (get_by (is_text q) new) ≡ (if b then held x else pending_found (get_by (is_text q) old))
      by true e =
          ap (λ (r : List ℕ). pending_found (get_by (is_text r) new)) ((bytes_eq-Decides q p).0 e) ∙ ap pending_found updates.1
      by false e = ap pending_found (updates.3 (is_text q) (IsKeyTest-text q) (AreApart-texts p q e))

pub OnSome-weaker : {X P Q : Type 0} (o : Option X) → (P → Q) → OnSome o P → OnSome o Q
OnSome-weaker None f p = tt
OnSome-weaker (Some x) f p = f p

-- what is kept where the table of paths is this
abbrev pub map_of : {H S : Type 0} → ℕ → IndexMap Text (Kept H) S → MapKept H
map_of chunk paths = record { chunk = chunk; paths = paths.entries }

module _ {H : Type 0} where
  -- what is pending on the path that changed
  pub at-changed : (old new : MapKept H) (p : List ℕ) (x : Held H) → Changes old new p x → pending_in new p ≡ x
  at-changed old new p x changes = changes.paths p ∙ ap (λ b. if b then x else pending_in old p) (bytes_eq-itself p)

  -- and on every other path
  pub at-other : (old new : MapKept H) (p : List ℕ) (x : Held H) → Changes old new p x → (q : List ℕ) → bytes_eq q p ≡ false
      → pending_in new q ≡ pending_in old q
  at-other old new p x changes q other = changes.paths q ∙ ap (λ b. if b then x else pending_in old q) other

  -- a change to what was there is none
  pub unchanged : (old new : MapKept H) (p : List ℕ) (x : Held H) → Changes old new p x → x ≡ pending_in old p → IsAsBefore old new
  unchanged old new p x changes same = record {
    chunk = changes.chunk;
    paths = λ q. changes.paths q ∙ by q (bytes_eq q p) refl;
  }
    where
      by : (q : List ℕ) (b : Bool) → bytes_eq q p ≡ b → (if b then x else pending_in old q) ≡ pending_in old q
      by q false e = refl
      by q true e = same ∙ ap (pending_in old) (sym ((bytes_eq-Decides q p).0 e))

  -- and none is a change to what was there
  pub changes-none : (old new : MapKept H) (p : List ℕ) (x : Held H) → new ≡ old → pending_in old p ≡ x → Changes old new p x
  changes-none old new p x same was = record {
    chunk = ap (λ m. m.chunk) same;
    paths = λ q. ap (λ m. pending_in m q) same ∙ by q (bytes_eq q p) refl;
  }
    where
      by : (q : List ℕ) (b : Bool) → bytes_eq q p ≡ b → pending_in old q ≡ (if b then x else pending_in old q)
      by q false e = refl
      by q true e = ap (pending_in old) ((bytes_eq-Decides q p).0 e) ∙ was

module _ {H S : Type 0} (map : MapKept H) (chunk : ℕ) (old : IndexMap Text (Kept H) S) (view : map_of chunk old ≡ map) (bytes p : List ℕ)
    (is : bytes ≡ p) where
  -- what is pending on a path that is found, and on one that isn't
  pub found-there : (was : Kept H) → get_by (is_text bytes) old ≡ Some was → pending_in map p ≡ held was
  found-there was there =
      ap (λ m. pending_in m p) (sym view) ∙ ap (λ (q : List ℕ). pending_found (get_by (is_text q) old)) (sym is)
      ∙ ap pending_found there

  pub found-none : get_by (is_text bytes) old ≡ None → pending_in map p ≡ nothing_pending
  found-none none =
      ap (λ m. pending_in m p) (sym view) ∙ ap (λ (q : List ℕ). pending_found (get_by (is_text q) old)) (sym is)
      ∙ ap pending_found none

  -- something is kept under the text of the path
  pub changes-updated : (new : IndexMap Text (Kept H) S) (x : Kept H) → UpdatesBy same_text (is_text bytes) old new (Some x)
      → Changes map (map_of chunk new) p (held x)
  changes-updated new x updates =
      subst (λ m. Changes m (map_of chunk new) p (held x)) view
      (subst (λ (q : List ℕ). Changes (map_of chunk old) (map_of chunk new) q (held x)) is
      (record { chunk = refl; paths = found-after old new bytes x updates }))

-- what is pending on a path before and after what was found of it was lent, and came back changed
pub record Lent {H : Type 0} (old new : MapKept H) (p : List ℕ) (was now : Kept H) : Type 0 where
  pub was_is : pending_in old p ≡ held was
  pub now_is : pending_in new p ≡ held now
  pub changes : Changes old new p (held now)

pub lent-is : {H S : Type 0} (map : MapKept H) (chunk : ℕ) (old new : IndexMap Text (Kept H) S) (bytes p : List ℕ) (was now : Kept H)
    → map_of chunk old ≡ map → bytes ≡ p → get_by (is_text bytes) old ≡ Some was
    → (is_some (get_by (is_text bytes) old) ≡ true → UpdatesBy same_text (is_text bytes) old new (Some now))
    → Lent map (map_of chunk new) p was now
lent-is map chunk old new bytes p was now view is there updates =
    let changes = changes-updated map chunk old view bytes p is new now (updates (ap is_some there)) in
    record {
      was_is = found-there map chunk old view bytes p is was there;
      now_is = at-changed map (map_of chunk new) p (held now) changes;
      changes = changes;
    }

-- the same from what was as before
pub lent-before : {H : Type 0} (old mid new : MapKept H) (p : List ℕ) (was now : Kept H) → IsAsBefore old mid → Lent mid new p was now
    → Lent old new p was now
lent-before old mid new p was now before lent = record {
  was_is = sym (before.paths p) ∙ lent.was_is;
  now_is = lent.now_is;
  changes = record {
    chunk = lent.changes.chunk ∙ before.chunk;
    paths = λ q. lent.changes.paths q ∙ ap (λ x. if bytes_eq q p then held now else x) (before.paths q);
  };
}

module _ {H : Type 0} {old new : MapKept H} {p : List ℕ} {was now : Kept H} (lent : Lent old new p was now) where
  -- what the path became is what is pending there
  pub lent-changed : (f : Held H → Held H) → held now ≡ f (held was) → Changes old new p (f (pending_in old p))
  lent-changed f e = subst (Changes old new p) (e ∙ ap f (sym lent.was_is)) lent.changes

  -- on every other path is pending what was
  pub lent-here : Changes old new p (pending_in new p)
  lent-here = subst (Changes old new p) (sym lent.now_is) lent.changes

  -- where the path is as it was, so is the map
  pub lent-same : held now ≡ held was → IsAsBefore old new
  lent-same e = unchanged old new p (held now) lent.changes (e ∙ sym lent.was_is)

  -- what holds of the path before and after holds of what is pending there
  pub lent-both : (F : Held H → Held H → Type 0) → F (held was) (held now) → F (pending_in old p) (pending_in new p)
  lent-both F f = subst (λ x. F x (pending_in new p)) (sym lent.was_is) (subst (F (held was)) (sym lent.now_is) f)
