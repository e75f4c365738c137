-- What a line writes to a path, and the parts that it is cut into.
use Rattle.std.specs.Prelude.{◌≡◌, ℕ, ◌+◌, ◌-◌, ◌*◌, ◌<◌, ◌≤◌, min, Bool, IsTrue, List, [], ◌∷◌, map, All, None}
use Rattle.std.specs.Int.{div_ceil}
use Rattle.std.specs.List.{range_with_len}
use Rattle.fs_types.specs.Fragments.{HeldPiece, held_pieces}
use Rattle.fs_types.specs.Pieces.{Fragment, Piece}
use Rattle.fs_types.specs.declared.limits.TheConstants.{LONGEST_FILE}
use Rattle.piece_table.specs.HeldSpans.{Held}

-- a write: its line, where its bytes begin in the file, and how many they are
pub record Write : Type 0 where
  pub line : ℕ
  pub off : ℕ
  pub len : ℕ

-- part k of a write where it stands in the file: the bytes from k * chunk on, and at most chunk of them
abbrev pub part_of : ℕ → Write → ℕ → Fragment
part_of chunk w k = record {
  at = w.off + k * chunk;
  len = min chunk (w.len - k * chunk);
  piece = record { line = w.line; part = k };
  from = 0;
}

-- how many parts a write has
abbrev pub part_count : ℕ → Write → ℕ
part_count chunk w = div_ceil w.len chunk

-- its parts, in order
abbrev pub parts_of : ℕ → Write → List Fragment
parts_of chunk w = map (part_of chunk w) (range_with_len 0 (part_count chunk w))

-- the pieces of its parts, in order, and how many bytes each has
abbrev pub pieces_of : ℕ → Write → List HeldPiece
pieces_of chunk w = held_pieces (λ f. f.piece) (λ f. f.len) (parts_of chunk w)

module _ {H : Type 0} (piece : H → Piece) where
  -- the line whose pieces some holds are of: that of the first
  abbrev pub line_of : List H → ℕ
  line_of [] = 0
  line_of (h ∷ hs) = (piece h).line

  -- what that line writes
  abbrev pub write_of : ℕ → ℕ → List H → Write
  write_of off len holds = record { line = line_of holds; off = off; len = len }

-- A write may be put over what is pending on a path: it has bytes, and ends within the longest file; and its holds are ready,
-- are those of its parts, in order, and of pieces that are new to the path.
pub record MayAdd {H : Type 0} (is_ready : H → Bool) (piece : H → Piece) (byte_count : H → ℕ) (chunk : ℕ) (w : Write) (holds : List H)
    (x : Held H) : Type 0 where
  pub has_bytes : 0 < w.len
  pub in_file : w.off + w.len ≤ LONGEST_FILE
  pub ready : All (λ h. IsTrue (is_ready h)) holds
  pub pieces : held_pieces piece byte_count holds ≡ pieces_of chunk w
  pub new_pieces : All (λ h. x.hold_of (piece h) ≡ None) holds
