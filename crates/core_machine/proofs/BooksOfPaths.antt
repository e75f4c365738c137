-- What the books have of each path, once one of them changes one path.
use Rattle.fs_types.proofs.Common.{◌≡◌, arith, slice_get-get_or, get_or, ◌<◌, ℕ, ◌⊎◌, Bool, true, false, ◌&&◌, if◌then◌else◌, List, length, set, slice_get}
use Rattle.fs_types.proofs.Common.{Option, Some, nat_eq, bytes_eq, refl, sym, ap, subst, ◌∙◌, inl, inr}
use Rattle.fs_types.proofs.Common.{cases_eq, bytes_eq-Decides, eq-eqb, length-set, slice_get_within}
use Rattle.fs_types.proofs.Common.{All, None, and_from, and_parts, eqb-true, false_from_ne_true, get_or_from_slice_get}
use Rattle.placement.specs.Placement.{gfid, owner}
use Rattle.owner_book.specs.Calls.{Changes, IsAsBefore}
use Rattle.owner_book.specs.Kept.{Book, BookPath, no_path, path_in}
use Rattle.core_machine.specs.declared.plain_hold.PlainHold.{PlainHold}
use Rattle.owner_book.specs.Names.{same_file}
use Rattle.core_machine.specs.Books.{ChangesOne, ChangesPath, path_at, path_at_server}
use Rattle.fs_script.proofs.CallerLemmas.{slice_get-set_same, slice_get-set_other}

-- the server that owns a path, one of these
abbrev pub home : List (Book PlainHold) → List ℕ → ℕ
home books p = owner (gfid p) (length books)

-- what a path's own server has of it, where that changes one path
at_home : (old new : Book PlainHold) (p q : List ℕ) (x : BookPath PlainHold) → Changes old new (gfid p) p x
    → path_in new (gfid q) q ≡ (if bytes_eq q p then x else path_in old (gfid q) q)
at_home old new p q x changes = by (bytes_eq q p) refl
  where
    by : (b : Bool) → bytes_eq q p ≡ b → path_in new (gfid q) q ≡ (if bytes_eq q p then x else path_in old (gfid q) q)
    by true e =
        let same = eq-eqb (gfid q) (gfid p) (ap gfid ((bytes_eq-Decides q p).0 e)) in
        changes (gfid q) q ∙ (rw (same, e) refl)
    by false e = changes (gfid q) q ∙ (rw e (both_false (nat_eq (gfid q) (gfid p))))
      where
        both_false : (b : Bool) → (if b && false then x else path_in old (gfid q) q) ≡ path_in old (gfid q) q
        both_false true = refl
        both_false false = refl

-- one server's change of a path that it owns is the servers'
from_book : (books : List (Book PlainHold)) (p : List ℕ) (old new : Book PlainHold) (x : BookPath PlainHold)
    → slice_get books (home books p) ≡ Some old → Changes old new (gfid p) p x → ChangesPath books (set books (home books p) new) p x
from_book books p old new x is changes = record {
  sized = length-set books (home books p) new;
  changes = λ q. ap (λ n. path_at_server (slice_get (set books (home books p) new) (owner (gfid q) n)) q) (length-set books (home books p) new)
      ∙ by q (cases_eq (home books q) (home books p));
}
  where
    by : (q : List ℕ) → (home books q ≡ home books p) ⊎ (home books q ≡ home books p → ⊥)
        → path_at_server (slice_get (set books (home books p) new) (home books q)) q ≡ (if bytes_eq q p then x else path_at books q)
    by q (inl same) =
        ap (λ o. path_at_server (slice_get (set books (home books p) new) o) q) same
        ∙ ap (λ o. path_at_server o q) (slice_get-set_same books (home books p) new (slice_get_within books (home books p) old is))
        ∙ at_home old new p q x changes
        ∙ ap (λ o. if bytes_eq q p then x else path_at_server o q) (sym is ∙ ap (slice_get books) (sym same))
    by q (inr other) =
        let differ : bytes_eq q p ≡ false = false_from_ne_true (bytes_eq q p) (λ e. other (ap (home books) ((bytes_eq-Decides q p).0
        e))) in
        ap (λ o. path_at_server o q) (slice_get-set_other books (home books p) (home books q) new other)
        ∙ sym (ap (λ b. if b then x else path_at books q) differ)

-- the same, where the server and the gfid are found from the path
ChangesPath-at : (books : List (Book PlainHold)) (p : List ℕ) (o g : ℕ) (old new : Book PlainHold) (x : BookPath PlainHold)
    → o ≡ home books p → g ≡ gfid p → slice_get books o ≡ Some old → Changes old new g p x → ChangesPath books (set books o new) p x
ChangesPath-at books p o g old new x at is there changes =
    subst (λ o. ChangesPath books (set books o new) p x) (sym at)
    (from_book books p old new x (ap (slice_get books) (sym at) ∙ there) (subst (λ g. Changes old new g p x) is changes))

-- what the books have of a path is what its own server has
pub path-here : (books : List (Book PlainHold)) (p : List ℕ) (o g : ℕ) (book : Book PlainHold) → o ≡ home books p → g ≡ gfid p
    → slice_get books o ≡ Some book → path_at books p ≡ path_in book g p
path-here books p o g book at is there =
    ap (λ r. path_at_server r p) (ap (slice_get books) (sym at) ∙ there) ∙ ap (λ h. path_in book h p) (sym is)

-- ---- one path of a book

same_file-itself : (g : ℕ) (p : List ℕ) → same_file g p g p ≡ true
same_file-itself g p = and_from (nat_eq g g) (bytes_eq p p) (eq-eqb g g refl) ((bytes_eq-Decides p p).1 refl)

-- what the book has of the path that changed
pub path-changed : (old new : Book PlainHold) (g : ℕ) (p : List ℕ) (x : BookPath PlainHold) → Changes old new g p x → path_in new g p ≡ x
path-changed old new g p x changes = changes g p ∙ ap (λ b. if b then x else path_in old g p) (same_file-itself g p)

pub ChangesOne-changed : (old new : Book PlainHold) (g : ℕ) (p : List ℕ) (x : BookPath PlainHold) → Changes old new g p x
    → ChangesOne old new g p
ChangesOne-changed old new g p x changes =
    subst (λ y. Changes old new g p y) (sym (path-changed old new g p x changes)) changes

-- a book that is as it was
pub ChangesOne-same : (old new : Book PlainHold) (g : ℕ) (p : List ℕ) → IsAsBefore old new → ChangesOne old new g p
ChangesOne-same old new g p same h q = by (same_file h q g p) refl
  where
    by : (b : Bool) → same_file h q g p ≡ b → path_in new h q ≡ (if same_file h q g p then path_in new g p else path_in old h q)
    by true e =
        let both = and_parts (nat_eq h g) (bytes_eq q p) e in
        let at : h ≡ g = eqb-true h g both.0 in
        ap (λ i. path_in new i q) at ∙ ap (path_in new g) ((bytes_eq-Decides q p).0 both.1)
        ∙ sym (ap (λ b. if b then path_in new g p else path_in old h q) e)
    by false e = same h q ∙ sym (ap (λ b. if b then path_in new g p else path_in old h q) e)

-- ---- where a path is

-- the server at place o of all is that of a path with this gfid, and has this book
pub record IsHome (books : List (Book PlainHold)) (p : List ℕ) (o hash : ℕ) (book : Book PlainHold) : Type 0 where
  pub at : o ≡ home books p
  pub is : hash ≡ gfid p
  pub there : slice_get books o ≡ Some book

-- it is where the path's owner is computed to be
pub is-home : (books : List (Book PlainHold)) (p : List ℕ) (servers o hash : ℕ) (d : Book PlainHold) → length books ≡ servers → hash ≡ gfid p
    → o ≡ owner hash servers → o < servers → IsHome books p o hash (get_or books o d)
is-home books p servers o hash d many is at below = record {
  at = at ∙ ap (λ h. owner h servers) is ∙ ap (owner (gfid p)) (sym many);
  is = is;
  there = slice_get-get_or books o d (omega (arith, below, many));
}

-- one server's book changes one path that it owns
module _ {books : List (Book PlainHold)} {p : List ℕ} {o hash : ℕ} {book : Book PlainHold} (here : IsHome books p o hash book)
    (new : Book PlainHold) where
  -- what the books have of the path then
  pub path-then : path_at (set books o new) p ≡ path_in new hash p
  path-then = path-here (set books o new) p o hash new (here.at ∙ ap (owner (gfid p)) (sym (length-set books o new))) here.is
      (slice_get-set_same books o new (slice_get_within books o book here.there))

  pub changes-here : ChangesOne book new hash p → ChangesPath books (set books o new) p (path_at (set books o new) p)
  changes-here changes = subst (ChangesPath books (set books o new) p) (sym path-then)
      (ChangesPath-at books p o hash book new (path_in new hash p) here.at here.is here.there changes)

-- books of which one is as it was have of each path what they had
pub paths-same : (books : List (Book PlainHold)) (o : ℕ) (old new : Book PlainHold) → slice_get books o ≡ Some old → IsAsBefore old new
    → (q : List ℕ) → path_at (set books o new) q ≡ path_at books q
paths-same books o old new there same q =
    ap (λ n. path_at_server (slice_get (set books o new) (owner (gfid q) n)) q) (length-set books o new) ∙ by (cases_eq (home books q) o)
  where
    by : (home books q ≡ o) ⊎ (home books q ≡ o → ⊥) → path_at_server (slice_get (set books o new) (home books q)) q ≡ path_at books q
    by (inl at) =
        ap (λ h. path_at_server (slice_get (set books o new) h) q) at
        ∙ ap (λ r. path_at_server r q) (slice_get-set_same books o new (slice_get_within books o old there))
        ∙ same (gfid q) q ∙ ap (λ r. path_at_server r q) (sym there ∙ ap (slice_get books) (sym at))
    by (inr other) = ap (λ r. path_at_server r q) (slice_get-set_other books o (home books q) new other)

-- ---- at first

-- nothing was committed to any path of the book
abbrev pub IsNewBook : Book PlainHold → Type 0
IsNewBook book = (g : ℕ) (q : List ℕ) → path_in book g q ≡ no_path

-- of such books none has anything of a path
pub path-new : (books : List (Book PlainHold)) (p : List ℕ) → All IsNewBook books → path_at books p ≡ no_path
path-new books p all = by (slice_get books (home books p)) refl
  where
    by : (o : Option (Book PlainHold)) → slice_get books (home books p) ≡ o → path_at_server o p ≡ no_path
    by None is = refl
    by (Some book) is =
        let at = slice_get_within books (home books p) book is in
        subst IsNewBook (get_or_from_slice_get books (home books p) book book is) (all (home books p) book at) (gfid p) p
