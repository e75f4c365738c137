-- What taking fragments out of a table of pieces leaves, and the holds that come out of it.
use Rattle.std.specs.Prelude.{◌≡◌, ◌==◌, List, ◌++◌, All, AllPairs, Contains, Option, Some, None, false, if◌then◌else◌}
use Rattle.fs_types.specs.Fragments.{piece_eq}
use Rattle.fs_types.specs.Pieces.{Piece}
use Rattle.piece_table.specs.PieceTable.{Pieces, hold_of, number_of}

-- a piece keeps its hold while some fragment names it, and has none from then on
pub record Thins {H : Type 0} (old new : Pieces H) : Type 0 where
  pub holds : (q : Piece) → hold_of new q ≡ (if number_of new q == 0 then None else hold_of old q)
  pub gone : (q : Piece) → number_of old q ≡ 0 → number_of new q ≡ 0

-- these are the holds that were there and are no more, each once
pub record AreOut {H : Type 0} (piece : H → Piece) (old new : Piece → Option H) (out : List H) : Type 0 where
  pub held : All (λ h. old (piece h) ≡ Some h) out
  pub gone : All (λ h. new (piece h) ≡ None) out
  pub each : (q : Piece) (h : H) → old q ≡ Some h → new q ≡ None → Contains out h
  pub once : AllPairs (λ g h. piece_eq (piece g) (piece h) ≡ false) out

-- what came out was added to a list
abbrev pub ComesOut : {H : Type 0} → (H → Piece) → (Piece → Option H) → (Piece → Option H) → List H → List H → Type 0
ComesOut {H} piece old new before after = (out : List H) × (after ≡ before ++ out) × AreOut piece old new out
