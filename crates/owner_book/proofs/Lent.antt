-- What a file, a path and a book are once the loan of a hold has ended.
use Rattle.fs_types.proofs.Common.{◌≡◌, ◌∙◌, ap, ℕ, Bool, List, Option, Some, None}
use Rattle.std.specs.Prelude.{OnSome}
use Rattle.fs_types.specs.Pieces.{Piece}
use Rattle.piece_table.specs.HeldSpans.{Kept, SetsHold}
use Rattle.owner_book.specs.Kept.{BookPath, FileKept, PathKept, file_of, held_at, path_of}
use Rattle.owner_book.specs.HoldLends.{with_file_hold, with_hold}

module _ {H : Type 0} where
  pub file-lent : (id : Piece) (w : H) (size : ℕ) (frozen : Bool) (old new : Kept H) → SetsHold id w old new
      → file_of (record { size = size; frozen = frozen; kept = new })
      ≡ with_file_hold id w (file_of (record { size = size; frozen = frozen; kept = old }))
  file-lent id w size frozen old new sets = λ i. record {
    size = size;
    frozen = frozen;
    held = record { fragments = sets.fragments i; hold_of = λ q. sets.pieces.holds q i };
  }

  -- a path whose file was lent
  pub path-lent : {X : Type 0} (r : Option X) (id : Piece) (w : H) (journal : List ℕ) (old new : FileKept H)
      → OnSome r (file_of new ≡ with_file_hold id w (file_of old))
      → OnSome r (path_of (record { journal = journal; file = Some new }) ≡ with_hold id w (path_of (record { journal = journal; file = Some old })))
  path-lent None id w journal old new same = tt
  path-lent (Some x) id w journal old new same = λ i. record { journal = journal; file = Some (same i) }

  -- a path whose file is one that is seen to be there
  pub path-seen : (journal : List ℕ) (file : FileKept H) (there : Option (FileKept H)) (x : PathKept H) → Some file ≡ there
      → record { journal = journal; file = there } ≡ x → record { journal = journal; file = Some file } ≡ x
  path-seen journal file there x is same = (λ i. record { journal = journal; file = is i }) ∙ same

  -- and where that file came back as it was
  pub path-same : (journal : List ℕ) (old new : FileKept H) (x : PathKept H) → new ≡ old → record { journal = journal; file = Some old } ≡ x
      → record { journal = journal; file = Some new } ≡ x
  path-same journal old new x is same = (λ i. record { journal = journal; file = Some (is i) }) ∙ same

  -- the hold that was lent is the path's
  pub hold-seen : (h : Option H) (id : Piece) (x y : BookPath H) → h ≡ (held_at x).hold_of id → x ≡ y → h ≡ (held_at y).hold_of id
  hold-seen h id x y is same = is ∙ ap (λ z. (held_at z).hold_of id) same
