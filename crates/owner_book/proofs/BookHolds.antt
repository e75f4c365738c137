-- The holds of the paths of a book, one path after the other.
use Rattle.fs_types.proofs.Common.{◌≡◌, ℕ, Bool, true, false, ◌||◌, List, [], ◌∷◌, ◌++◌, map, All, All-cons, All-nil, All-push, Some, None, Result, Ok, Err}
use Rattle.fs_types.proofs.Common.{OnOk, refl, sym, ap, ◌∙◌, subst, append-nil, none-some, arith, append_assoc, cond-false}
use Rattle.fs_types.proofs.Common.{flat_map, get_or-map, length, length-map, list_any, map_push, slice_get, true≢false}
use Rattle.std.specs.Prelude.{AllPairs}
use Rattle.fs_types.specs.Fragments.{piece_eq}
use Rattle.fs_types.specs.Pieces.{Fragment, Piece}
use Rattle.span_list.proofs.CallerLemmas.{AllPairs-append, AllPairs-nil, AllPairs-one}
use Rattle.piece_table.specs.HeldSpans.{HandsOver, Held, is_named}
use Rattle.std.specs.List.{AllByRecursion, IsDistinct}
use Rattle.std.specs.Map.{keys_of, lookup}
use Rattle.std.proofs.lemmas.Grind.{flat_map-append}
use Rattle.std.proofs.lemmas.Map.Entries.{lookup_from_place}
use Rattle.owner_book.specs.declared.file_key.FileKey.{FileKey}
use Rattle.owner_book.specs.BookHolds.{AreAllHolds, AreHoldsOf, Share}
use Rattle.owner_book.specs.Kept.{Book, PathKept, held_at, none_held, path_found, path_in, path_of}
use Rattle.owner_book.specs.Names.{names_key, same_file}
use Rattle.owner_book.proofs.Paths.{IsEquivalence-same_key, same_key}

-- of two facts of an answer a third
pub OnOk-with : {X E A B C : Type 0} (r : Result X E) → (A → B → C) → OnOk r A → OnOk r B → OnOk r C
OnOk-with (Ok x) f a b = f a b
OnOk-with (Err e) f a b = tt

module _ {H : Type 0} (piece : H → Piece) where
  -- what comes out where no fragments are left is all
  pub handed-all : (old new : Held H) (before after : List H) → new.fragments ≡ [] → HandsOver piece old new before after
      → HandsOver piece old none_held before after
  handed-all old new before after none handed = (
    handed.0,
    handed.1,
    record {
      held = handed.2.held;
      unnamed = subst (λ (fs : List Fragment). All (λ h. is_named fs (piece h) ≡ false) handed.0) none handed.2.unnamed;
      each = λ q h is _. handed.2.each q h is (ap (λ (fs : List Fragment). is_named fs q) none);
      once = handed.2.once;
    },
  )

  -- of no fragments nothing comes out
  pub handed-none : (before : List H) → HandsOver piece none_held none_held before before
  handed-none before = (
    [],
    sym (append-nil before),
    record {
      held = All-nil (λ h. None ≡ Some h);
      unnamed = All-nil (λ h. false ≡ false);
      each = λ q h is _. absurd (none-some h is);
      once = AllPairs-nil (λ g h. piece_eq (piece g) (piece h) ≡ false);
    },
  )

-- ---- the paths so far

-- what a path is known by
abbrev named_by : {H : Type 0} → FileKey × PathKept H → ℕ × List ℕ
named_by e = (e.0.gfid, e.0.path.items)

abbrev shared_by : {H : Type 0} → Share H → ℕ × List ℕ
shared_by s = (s.gfid, s.path)

-- of a book's paths these were walked, and those are left: the shares of those walked were put together
pub record Walked {H : Type 0} (piece : H → Piece) (book left : Book H) (all : List H) : Type 0 where
  pub walked : Book H
  pub split : book ≡ walked ++ left
  pub shares : List (Share H)
  pub together : all ≡ flat_map (λ s. s.holds) shares
  pub each : All (λ s. AreHoldsOf piece (path_in book s.gfid s.path) s.holds) shares
  pub names : map shared_by shares ≡ map named_by walked

-- what stands behind some elements is found there
at-split : {X : Type 0} (xs : List X) (x : X) (ys : List X) → slice_get (xs ++ x ∷ ys) (length xs) ≡ Some x
at-split [] x ys = refl
at-split (z ∷ xs) x ys = at-split xs x ys

-- two names that differ
abbrev NamesDiffer : ℕ × List ℕ → ℕ × List ℕ → Type 0
NamesDiffer m n = same_file m.0 m.1 n.0 n.1 ≡ false

-- where a key is none of a book's, its name is none of theirs
name-apart : {H : Type 0} (k : FileKey) (book : Book H) → AllByRecursion (λ y. same_key k y ≡ false) (keys_of book)
    → All (NamesDiffer (k.gfid, k.path.items)) (map named_by book)
name-apart k [] apart = All-nil (NamesDiffer (k.gfid, k.path.items))
name-apart k (e ∷ book) apart =
    All-cons (NamesDiffer (k.gfid, k.path.items)) (named_by e) (map named_by book) apart.0 (name-apart k book apart.1)

-- and where no two keys are one, no two names are
names-apart : {H : Type 0} (book : Book H) → IsDistinct same_key (keys_of book) → AllPairs NamesDiffer (map named_by book)
unfolding IsDistinct
names-apart [] distinct = AllPairs-nil NamesDiffer
names-apart (e ∷ book) distinct =
    let apart : All (NamesDiffer (named_by e)) (map named_by book) = name-apart e.0 book distinct.0 in
    AllPairs-append NamesDiffer (named_by e ∷ []) (map named_by book) (AllPairs-one NamesDiffer (named_by e)) (names-apart book distinct.1)
    (All-cons (λ m. All (NamesDiffer m) (map named_by book)) (named_by e) [] apart (All-nil (λ m. All (NamesDiffer m) (map named_by book))))

-- a book in which no two keys are one has of a key's path what it keeps there
pub kept-at : {H : Type 0} (book walked left : Book H) (e : FileKey × PathKept H) → IsDistinct same_key (keys_of book)
    → book ≡ walked ++ e ∷ left → path_in book e.0.gfid e.0.path.items ≡ path_of e.1
kept-at book walked left e distinct split =
    ap path_found (lookup_from_place IsEquivalence-same_key book (length walked) e.0 e.1 distinct
    (ap (λ es. slice_get es (length walked)) split ∙ at-split walked e left))

-- the first test that passes
list_any-map : {X Y : Type 0} (p : Y → Bool) (f : X → Y) (xs : List X) → list_any (λ x. p (f x)) xs ≡ list_any p (map f xs)
list_any-map p f [] = refl
list_any-map p f (x ∷ xs) = ap (λ b. p (f x) || b) (list_any-map p f xs)

-- a path that isn't named isn't found
none-found : {H : Type 0} (book : Book H) (g : ℕ) (q : List ℕ) → list_any (λ n. same_file g q n.0 n.1) (map named_by book) ≡ false
    → lookup (names_key g q) book ≡ None
none-found [] g q none = refl
none-found (e ∷ book) g q none = by (names_key g q e.0) refl (none-found book g q) where
  by : (b : Bool) → names_key g q e.0 ≡ b
      → (list_any (λ n. same_file g q n.0 n.1) (map named_by book) ≡ false → lookup (names_key g q) book ≡ None)
      → lookup (names_key g q) (e ∷ book) ≡ None
  by true is none_later = absurd (true≢false (sym (ap (λ b. b || list_any (λ n. same_file g q n.0 n.1) (map named_by book)) is) ∙ none))
  by false is none_later =
      cond-false (names_key g q e.0) (Some e.1) (lookup (names_key g q) book) is
      ∙ none_later (sym (ap (λ b. b || list_any (λ n. same_file g q n.0 n.1) (map named_by book)) is) ∙ none)

module _ {H : Type 0} (piece : H → Piece) where
  pub walked-none : (book : Book H) (all : List H) → all ≡ [] → Walked piece book book all
  walked-none book all none = record {
    walked = [];
    split = refl;
    shares = [];
    together = none;
    each = All-nil (λ s. AreHoldsOf piece (path_in book s.gfid s.path) s.holds);
    names = refl;
  }

  -- one path more
  pub walked-more : (book left : Book H) (e : FileKey × PathKept H) (before after : List H) → IsDistinct same_key (keys_of book)
      → HandsOver piece (held_at (path_of e.1)) none_held before after → Walked piece book (e ∷ left) before → Walked piece book left after
  walked-more book left e before after distinct handed so_far =
      let share : Share H = record { gfid = e.0.gfid; path = e.0.path.items; holds = handed.0 } in
      let is = kept-at book so_far.walked left e distinct so_far.split in
      record {
        walked = so_far.walked ++ e ∷ [];
        split = so_far.split ∙ sym (append_assoc so_far.walked (e ∷ []) left);
        shares = so_far.shares ++ share ∷ [];
        together = handed.1 ∙ ap (λ hs. hs ++ handed.0) so_far.together
            ∙ ap (λ hs. flat_map (λ (s : Share H). s.holds) so_far.shares ++ hs) (sym (append-nil handed.0))
            ∙ sym (flat_map-append (λ (s : Share H). s.holds) so_far.shares (share ∷ []));
        each = All-push (λ s. AreHoldsOf piece (path_in book s.gfid s.path) s.holds) so_far.shares share so_far.each
            (subst (λ x. AreHoldsOf piece x handed.0) (sym is) handed.2);
        names = map_push shared_by so_far.shares share ∙ ap (λ ns. ns ++ shared_by share ∷ []) so_far.names
            ∙ sym (map_push named_by so_far.walked e);
      }

  -- all of them
  pub walked-all : (book left : Book H) (all : List H) → IsDistinct same_key (keys_of book) → left ≡ [] → Walked piece book left all
      → AreAllHolds piece book all
  walked-all book left all distinct none walked =
      let whole : book ≡ walked.walked = walked.split ∙ ap (λ es. walked.walked ++ es) none ∙ append-nil walked.walked in
      let names : map shared_by walked.shares ≡ map named_by book = walked.names ∙ ap (map named_by) (sym whole) in
      record {
        shares = walked.shares;
        together = walked.together;
        each = walked.each;
        once = λ i j d before within.
            let first = get_or-map shared_by walked.shares i d (shared_by d) (omega (arith, before, within)) in
            let second = get_or-map shared_by walked.shares j d (shared_by d) within in
            let apart = subst (AllPairs NamesDiffer) (sym names) (names-apart book distinct) in
            sym (λ k. same_file (first k).0 (first k).1 (second k).0 (second k).1)
            ∙ apart i j (shared_by d) before (omega (arith, within, length-map walked.shares shared_by));
        others = λ g q absent.
            ap (λ o. (path_found o).file) (none-found book g q (ap (list_any (λ n. same_file g q n.0 n.1)) (sym names)
            ∙ sym (list_any-map (λ n. same_file g q n.0 n.1) shared_by walked.shares) ∙ absent));
      }
