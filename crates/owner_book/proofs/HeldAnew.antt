-- A path's file has its holds with another hold of one piece where that hold is ready, and of the piece and the bytes of the one
-- before.
use Rattle.fs_types.proofs.Common.{◌≡◌, ℕ, Bool, Option, Some, None, IsTrue, option_map, none-some}
use Rattle.fs_types.specs.Pieces.{Piece}
use Rattle.piece_table.specs.HeldSpans.{AreHeld}
use Rattle.piece_table.proofs.CallerLemmas.{held-anew}
use Rattle.owner_book.specs.Commits.{HasHolds}
use Rattle.owner_book.specs.HoldLends.{with_file_hold, with_hold}
use Rattle.owner_book.specs.Kept.{BookFile, BookPath, held_at, held_in}

in-file : {H : Type 0} (is_ready : H → Bool) (piece : H → Piece) (byte_count : H → ℕ) (id : Piece) (h w : H) (file : Option (BookFile H))
    → (held_in file).hold_of id ≡ Some h → IsTrue (is_ready w) → piece w ≡ piece h → byte_count w ≡ byte_count h
    → AreHeld is_ready piece byte_count (held_in file) → AreHeld is_ready piece byte_count (held_in (option_map (with_file_hold id w) file))
in-file is_ready piece byte_count id h w None there ready same_of same_bytes are = absurd (none-some h there)
in-file is_ready piece byte_count id h w (Some f) there ready same_of same_bytes are =
    held-anew is_ready piece byte_count id h w f.held there ready same_of same_bytes are

pub holds-lent : {H : Type 0} (is_ready : H → Bool) (piece : H → Piece) (byte_count : H → ℕ) (id : Piece) (h w : H) (x : BookPath H)
    → (held_at x).hold_of id ≡ Some h → IsTrue (is_ready w) → piece w ≡ piece h → byte_count w ≡ byte_count h
    → HasHolds is_ready piece byte_count x → HasHolds is_ready piece byte_count (with_hold id w x)
holds-lent is_ready piece byte_count id h w x = in-file is_ready piece byte_count id h w x.file
