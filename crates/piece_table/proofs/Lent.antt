-- What is kept once the loan of a hold has ended.
use Rattle.fs_types.proofs.Common.{◌≡◌, ℕ, Bool, true, Some, IsTrue, is_some, sym, ap, ◌∙◌, subst}
use Rattle.fs_types.specs.Fragments.{fragment_count}
use Rattle.fs_types.specs.Pieces.{Piece}
use Rattle.span_list.specs.Spans.{AreSpans}
use Rattle.piece_table.specs.HeldSpans.{AreHeld, IsCounted, Kept, SetsHold, held, is_named}
use Rattle.piece_table.specs.PieceTable.{hold_of}
use Rattle.piece_table.proofs.HeldAnew.{held-anew, named_now}

module _ {H : Type 0} (p : Piece) (h : H) (old new : Kept H) (sets : SetsHold p h old new) where
  -- what is so whatever the holds are stays so
  pub IsCounted-lent : is_some (hold_of old.pieces p) ≡ true → IsCounted old → IsCounted new
  IsCounted-lent there is = record {
    spans = subst AreSpans (sym sets.fragments) is.spans;
    named = λ q. ap is_some (sets.pieces.holds q) ∙ named_now p h (held old) there q ∙ is.named q
        ∙ ap (λ us. is_named us q) (sym sets.fragments);
    numbers = λ q. sets.pieces.numbers q ∙ is.numbers q ∙ ap (fragment_count q) (sym sets.fragments);
  }

  -- and the fragments with their holds stay held where the hold that was left is ready and of the piece and length of the old one
  pub AreHeld-lent : (is_ready : H → Bool) (piece_of : H → Piece) (byte_count : H → ℕ) (g : H) → hold_of old.pieces p ≡ Some g
      → AreHeld is_ready piece_of byte_count (held old) → IsTrue (is_ready h) → piece_of h ≡ piece_of g → byte_count h ≡ byte_count g
      → AreHeld is_ready piece_of byte_count (held new)
  AreHeld-lent is_ready piece_of byte_count g was are ready same_of same_bytes =
      subst (AreHeld is_ready piece_of byte_count)
      (sym (λ i. record { fragments = sets.fragments i; hold_of = λ q. sets.pieces.holds q i }))
      (held-anew is_ready piece_of byte_count p g h (held old) was ready same_of same_bytes are)
