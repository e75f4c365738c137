-- What a file, a path and a book end as, once the loan of a hold has ended.
use Rattle.std.specs.Prelude.{◌≡◌, ℕ, List, Option, Some, OnSome, option_map, if◌then◌else◌}
use Rattle.std.specs.Borrow.{Fml, RattleType, MutBor, LendsSo}
use Rattle.fs_types.specs.Fragments.{piece_eq}
use Rattle.fs_types.specs.Pieces.{Piece}
use Rattle.fs_types.specs.declared.hold.Hold as hold
use Rattle.span_list.specs.declared.spans.Spans as spans
use Rattle.owner_book.specs.contracts.book.OwnerBook as book
use Rattle.owner_book.specs.contracts.owned_file.OwnedFile as file
use Rattle.owner_book.specs.contracts.owned_path.OwnedPath as path
use Rattle.owner_book.specs.Kept.{Book, BookFile, BookPath, FileKept, PathKept, file_of, path_in, path_of}
use Rattle.owner_book.specs.Calls.{Changes, IsAsBefore}

module _ {H : Type 0} where
  -- a file that has this hold of one piece, and every other as it was
  abbrev pub with_file_hold : Piece → H → BookFile H → BookFile H
  with_file_hold id h f = record {
    size = f.size;
    frozen = f.frozen;
    held = record { fragments = f.held.fragments; hold_of = λ q. if piece_eq id q then Some h else f.held.hold_of q };
  }

  -- a path whose file does
  abbrev pub with_hold : Piece → H → BookPath H → BookPath H
  with_hold id h x = record { journal = x.journal; file = option_map (with_file_hold id h) x.file }

module _ (H S : RattleType) (met : hold.Ghosts H.Denot) (kept_by : spans.Ghosts S.Denot) where
  -- the piece has the hold that was left behind r, and all else is as it was; without r all is as it was
  abbrev pub lends_in_file : MutBor (FileKept H.Denot) → Piece → Option (MutBor H.Denot) → Fml
  lends_in_file s id r = LendsSo (file.the_row H S met kept_by) H s r
      (λ n w. OnSome r (file_of n ≡ with_file_hold id w (file_of s.now))) (λ n. n ≡ s.now)

  -- the same of a path's file
  abbrev pub lends_in_path : MutBor (PathKept H.Denot) → Piece → Option (MutBor H.Denot) → Fml
  lends_in_path s id r = LendsSo (path.the_row H S met kept_by) H s r
      (λ n w. OnSome r (path_of n ≡ with_hold id w (path_of s.now))) (λ n. n ≡ s.now)

  -- the same of the file of one path of a book
  abbrev pub lends_hold_of : MutBor (Book H.Denot) → ℕ → List ℕ → Piece → Option (MutBor H.Denot) → Fml
  lends_hold_of s gfid p id r = LendsSo (book.the_row H S met kept_by) H s r
      (λ n w. OnSome r (Changes s.now n gfid p (with_hold id w (path_in s.now gfid p)))) (IsAsBefore s.now)
