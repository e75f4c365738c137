-- Fragments of a file with holds of the pieces that they name: what may be sent to the file's owner, and by it.
use Rattle.std.specs.Prelude.{◌≡◌, ◌≤◌, ◌<◌, ◌+◌, ◌==◌, ◌&&◌, ℕ, Bool, List, map, All, AllPairs, count_by}
use Rattle.fs_types.specs.Pieces.{Piece, Fragment}
use Rattle.fs_types.specs.declared.push.Push.{Push}
use Rattle.fs_types.specs.declared.push.Replica.{Replica}
use Rattle.fs_types.specs.declared.limits.TheConstants.{LONGEST_FILE}

-- two names of pieces are the same
abbrev pub piece_eq : Piece → Piece → Bool
piece_eq p q = p.line == q.line && p.part == q.part

-- a piece that is held, and how many bytes it has
pub record HeldPiece : Type 0 where
  pub piece : Piece
  pub bytes : ℕ

-- the pieces of some holds, by what a hold says of its piece and of how many bytes that has
abbrev pub held_pieces : {H : Type 0} → (H → Piece) → (H → ℕ) → List H → List HeldPiece
held_pieces piece bytes holds = map (λ h. record { piece = piece h; bytes = bytes h }) holds

-- how many of the fragments name a piece
abbrev pub fragment_count : Piece → List Fragment → ℕ
fragment_count p frags = count_by (λ f. piece_eq f.piece p) frags

-- how many of the holds are of a piece
abbrev pub hold_count : Piece → List HeldPiece → ℕ
hold_count p held = count_by (λ h. piece_eq h.piece p) held

-- where a fragment ends in its file
abbrev pub end_of : Fragment → ℕ
end_of f = f.at + f.len

-- a fragment ends within a held piece, where this is the one that it names
abbrev pub LiesWithin : Fragment → HeldPiece → Type 0
LiesWithin f h = h.piece ≡ f.piece → f.from + f.len ≤ h.bytes

-- Each fragment has a byte, ends before each later one begins, ends within the file, and lies in its piece. Each piece
-- that they name has exactly one hold, and no other piece has one.
pub record AreHeldFragments (file_end : ℕ) (frags : List Fragment) (held : List HeldPiece) : Type 0 where
  pub have_bytes : All (λ f. 0 < f.len) frags
  pub in_order : AllPairs (λ f g. end_of f ≤ g.at) frags
  pub in_file : All (λ f. end_of f ≤ file_end) frags
  pub in_piece : All (λ f. All (LiesWithin f) held) frags
  pub one_hold : All (λ f. hold_count f.piece held ≡ 1) frags
  pub named : All (λ h. 0 < fragment_count h.piece frags) held

-- a push is fragments of the longest file, with their holds
abbrev pub IsWellFormedPush : {H : Type 0} → (H → Piece) → (H → ℕ) → Push H → Type 0
IsWellFormedPush piece bytes push = AreHeldFragments LONGEST_FILE push.frags.items (held_pieces piece bytes push.holds.items)

-- a replica is fragments of a file of its size, which is no longer than the longest, with their holds
abbrev pub IsWellFormedReplica : {H : Type 0} → (H → Piece) → (H → ℕ) → Replica H → Type 0
IsWellFormedReplica piece bytes r =
    (r.size ≤ LONGEST_FILE) × AreHeldFragments r.size r.frags.items (held_pieces piece bytes r.holds.items)
