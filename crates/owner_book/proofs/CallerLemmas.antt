-- What a caller cites of books: whatever the proofs of the crates above need is here.
use Rattle.fs_types.proofs.Common.{◌≡◌, ℕ, ◌≤◌, Bool, List}
use Rattle.fs_types.proofs.Common.{refl, sym, subst, cond_both, arith, none-some, Result, Ok, Err, OnOk}
use Rattle.std.specs.Result.{OnErr}
use Rattle.fs_types.specs.Fragments.{end_of}
use Rattle.fs_types.specs.Pieces.{Piece}
use Rattle.span_list.proofs.CallerLemmas.{AllPairs-nil}
use Rattle.piece_table.specs.HeldSpans.{AreHeld}
use Rattle.owner_book.specs.Calls.{Changes, IsAsBefore, created}
use Rattle.owner_book.specs.Commits.{AllHaveHolds, HasHolds}
use Rattle.owner_book.specs.Kept.{Book, BookPath, no_path, none_held, path_in}
use Rattle.owner_book.specs.Names.{same_file}
use Rattle.owner_book.proofs.Paths.{at-changed}
-- a path whose file was lent a hold has its holds where the one that came back is ready, and of the same piece and bytes
pub use Rattle.owner_book.proofs.HeldAnew.{holds-lent}
-- a file is the same by its gfid and path; what a book has of the path that changed; that it has of it what it has, also where the
-- book is as it was; and that a change to what was there is none
pub use Rattle.owner_book.proofs.Paths.{same_file-itself, at-changed, changes-here, changes-itself, unchanged}
-- the parts of a range are in order, have the marks that stand there, and are the same where the end is cut off at the greatest number
pub use Rattle.owner_book.proofs.Parts.{parts-spans, parts-in_range, parts-marks}
pub use Rattle.owner_book.proofs.Named.{parts-found}
-- the pieces that fragments name are there once, those that a look-up finds have their holds, and they are those of its range, as are
-- those of its pins with the bare ones
pub use Rattle.owner_book.proofs.Named.{one-of_named, pieces-apart, pieces-held, pieces-in_range, pins-in_range}
-- of holds, one of each such piece, the one found is the piece's own, and no two are of one piece; and what one hold more finds
pub use Rattle.owner_book.proofs.FoundHolds.{find-held, once-held, find-new, find-more}

module _ {H : Type 0} (is_ready : H → Bool) (piece : H → Piece) (byte_count : H → ℕ) where
  -- no fragments have their holds
  none-held : AreHeld is_ready piece byte_count none_held
  none-held = record {
    spans = record { each = λ k d below. absurd (omega (arith, below)); in_order = AllPairs-nil (λ f g. end_of f ≤ g.at) };
    named = λ q. refl;
    piece = λ q h is. absurd (none-some h is);
    ready = λ q h is. absurd (none-some h is);
    within = λ k d below. absurd (omega (arith, below));
  }

  -- a path without a file has its holds, and one whose file was made just now
  pub holds-none : HasHolds is_ready piece byte_count no_path
  holds-none = none-held

  pub holds-created : (line : ℕ) (x : BookPath H) → HasHolds is_ready piece byte_count (created line x)
  holds-created line x = none-held

  -- the paths of a new book have theirs
  pub holds-new : (book : Book H) → ((g : ℕ) (q : List ℕ) → path_in book g q ≡ no_path) → AllHaveHolds is_ready piece byte_count book
  holds-new book none g q = subst (HasHolds is_ready piece byte_count) (sym (none g q)) holds-none

  -- and those of a book that is as it was, or in which one path changed to one that has its own
  pub holds-same : (old new : Book H) → IsAsBefore old new → AllHaveHolds is_ready piece byte_count old
      → AllHaveHolds is_ready piece byte_count new
  holds-same old new same all g q = subst (HasHolds is_ready piece byte_count) (sym (same g q)) (all g q)

  pub holds-changed : (old new : Book H) (gfid : ℕ) (p : List ℕ) (x : BookPath H) → Changes old new gfid p x
      → HasHolds is_ready piece byte_count (path_in new gfid p) → AllHaveHolds is_ready piece byte_count old
      → AllHaveHolds is_ready piece byte_count new
  holds-changed old new gfid p x changes here all g q =
      let has = subst (HasHolds is_ready piece byte_count) (at-changed old new gfid p x changes) here in
      subst (HasHolds is_ready piece byte_count) (sym (changes g q))
      (cond_both (same_file g q gfid p) x (path_in old g q) (HasHolds is_ready piece byte_count) (λ _. has) (λ _. all g q))

  -- as those of a book of which a call changed one path, or was refused
  pub holds-called : {X E : Type 0} (result : Result X E) (old new : Book H) (gfid : ℕ) (p : List ℕ) (x : BookPath H)
      → OnOk result (Changes old new gfid p x) → OnErr result (IsAsBefore old new)
      → HasHolds is_ready piece byte_count (path_in new gfid p) → AllHaveHolds is_ready piece byte_count old
      → AllHaveHolds is_ready piece byte_count new
  holds-called (Ok _) old new gfid p x changes same here all = holds-changed old new gfid p x changes here all
  holds-called (Err _) old new gfid p x changes same here all = holds-same old new same all

  -- as one does whose file was made just now
  pub holds-made : (old new : Book H) (gfid : ℕ) (p : List ℕ) (line : ℕ) → Changes old new gfid p (created line (path_in old gfid p))
      → AllHaveHolds is_ready piece byte_count old → AllHaveHolds is_ready piece byte_count new
  holds-made old new gfid p line changes all =
      let now = at-changed old new gfid p (created line (path_in old gfid p)) changes in
      holds-changed old new gfid p (created line (path_in old gfid p)) changes
      (subst (HasHolds is_ready piece byte_count) (sym now) (holds-created line (path_in old gfid p))) all
