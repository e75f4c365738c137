-- A hold that was asked for a pin.
use Rattle.fs_types.proofs.Common.{◌≡◌, ℕ, Bool, true, false, [], ◌∷◌, Option, Some, None, Result, Ok, Err, refl, sym, ap, ◌∙◌, subst, arith}
use Rattle.fs_types.proofs.Common.{cond-true, cond-false, leb-true, same_Some, true≢false}
use Rattle.std.proofs.Math.Bool.{or-false}
use Rattle.fs_types.specs.Fragments.{piece_eq}
use Rattle.fs_types.specs.Pieces.{Piece}
use Rattle.fs_types.specs.Room.{is_at_most, lowered}
use Rattle.piece_table.specs.HeldSpans.{Kept, SetsHold, held}
use Rattle.piece_table.specs.PieceTable.{hold_of}
use Rattle.piece_table.proofs.CallerLemmas.{piece_eq-comm, same_piece}
use Rattle.owner_book.specs.Lookups.{HoldsBecome, is_one_of}

abbrev is_ok : {X E : Type 0} → Result X E → Bool
is_ok (Ok x) = true
is_ok (Err e) = false

pub ok≢err : {X E : Type 0} (x : X) (e : E) → Ok x ≡ Err e → ⊥
ok≢err x e same = true≢false (ap is_ok same)

-- a room of none stays one
pub lowered-none : (room : Option ℕ) → is_at_most room 0 ≡ true → room ≡ lowered 0 room
lowered-none None at_most = refl
lowered-none (Some n) at_most = let le = leb-true n 0 at_most in ap Some (omega (arith, le))

module _ {H : Type 0} (R : H → H → Type 0) (p : Piece) (h w : H) (old new : Kept H) (sets : SetsHold p w old new)
    (was : hold_of old.pieces p ≡ Some h) where
  one : (q : Piece) → piece_eq p q ≡ is_one_of (p ∷ []) q
  one q = piece_eq-comm p q ∙ sym (or-false (piece_eq q p))

  -- the hold of the one piece became another
  pub becomes-lent : R h w → HoldsBecome R (p ∷ []) (held old) (held new)
  becomes-lent r = record {
    fragments = sets.fragments;
    became = λ q x is there.
        let same : piece_eq p q ≡ true = one q ∙ is in
        let first : h ≡ x = same_Some h x (sym was ∙ ap (hold_of old.pieces) (same_piece p q same) ∙ there) in
        (w, sets.pieces.holds q ∙ cond-true (piece_eq p q) (Some w) (hold_of old.pieces q) same, subst (λ y. R y w) first r);
    others = λ q is. sets.pieces.holds q ∙ cond-false (piece_eq p q) (Some w) (hold_of old.pieces q) (one q ∙ is);
  }
