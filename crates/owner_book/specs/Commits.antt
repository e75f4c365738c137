-- What a commit makes of a path, and which holds it hands out.
use Rattle.std.specs.Prelude.{◌≡◌, ℕ, max, List, [], ◌∷◌, ◌++◌, fold, None, All, IsTrue, Bool, option_map, if◌then◌else◌}
use Rattle.fs_types.specs.Fragments.{IsWellFormedPush, end_of}
use Rattle.fs_types.specs.Pieces.{Fragment, Piece}
use Rattle.fs_types.specs.declared.push.Push.{Push}
use Rattle.piece_table.specs.HeldSpans.{AreGone, AreHeld, Held, is_named, pushed, put_fragments, while_named}
use Rattle.owner_book.specs.Kept.{Book, BookFile, BookPath, held_at, path_in}

-- how many bytes a file has once these fragments were put into one of so many
abbrev pub size_after : ℕ → List Fragment → ℕ
size_after size fs = fold (λ n f. max n (end_of f)) size fs

module _ {H : Type 0} where
  -- fragments put over others in their order, with their holds: every other piece has its hold while some fragment names it
  abbrev pub laid_over : Held H → Held H → Held H
  laid_over over old =
      let fragments : List Fragment = put_fragments over.fragments old.fragments in
      record {
        fragments = fragments;
        hold_of = λ q. if is_named over.fragments q then over.hold_of q else while_named fragments old.hold_of q;
      }

  -- a file over which a push was put
  abbrev pub with_push : (H → Piece) → Push H → BookFile H → BookFile H
  with_push piece push f = record {
    size = size_after f.size push.frags.items;
    frozen = f.frozen;
    held = laid_over (pushed piece push.frags.items push.holds.items) f.held;
  }

  -- a path once a line changed its file, if it has one, in this way
  abbrev pub with_line : ℕ → (BookFile H → BookFile H) → BookPath H → BookPath H
  with_line line change x = record { journal = x.journal ++ line ∷ []; file = option_map change x.file }

  -- a path once a line committed a push to its file
  abbrev pub with_commit : (H → Piece) → ℕ → Push H → BookPath H → BookPath H
  with_commit piece line push x = with_line line (with_push piece push) x

  -- each piece of the path's file has a ready hold of its own, and no other piece has one
  abbrev pub HasHolds : (H → Bool) → (H → Piece) → (H → ℕ) → BookPath H → Type 0
  HasHolds is_ready piece byte_count x = AreHeld is_ready piece byte_count (held_at x)

  -- each path of a book does
  abbrev pub AllHaveHolds : (H → Bool) → (H → Piece) → (H → ℕ) → Book H → Type 0
  AllHaveHolds is_ready piece byte_count book = (g : ℕ) (q : List ℕ) → HasHolds is_ready piece byte_count (path_in book g q)

  -- a push may be committed to a path: it is well formed, its holds are ready, and its pieces are new to the path's file
  pub record MayCommit (is_ready : H → Bool) (piece : H → Piece) (byte_count : H → ℕ) (push : Push H) (x : BookPath H) : Type 0 where
    pub well_formed : IsWellFormedPush piece byte_count push
    pub ready : All (λ h. IsTrue (is_ready h)) push.holds.items
    pub new_pieces : All (λ h. (held_at x).hold_of (piece h) ≡ None) push.holds.items

  -- these are the holds of the pieces of which no byte is left in the path's file, each once
  abbrev pub AreDead : (H → Piece) → BookPath H → BookPath H → List H → Type 0
  AreDead piece old new dead = AreGone piece (held_at old) (held_at new) dead
