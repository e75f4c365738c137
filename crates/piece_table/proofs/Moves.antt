-- Holds that are taken out of a table, the last entry first.
use Rattle.fs_types.proofs.Common.{◌≡◌, cond, List, [], ◌∷◌, ◌++◌, length, Some, None}
use Rattle.fs_types.proofs.Common.{refl, sym, ap, ◌∙◌, arith, cases_Bool, inl, inr, cond-true, cond-false}
use Rattle.fs_types.proofs.Common.{none-some, slice_get, slice_get-get_or, length_push}
use Rattle.std.specs.Cmp.{IsEquivalence}
use Rattle.std.specs.List.{IsDistinct}
use Rattle.std.specs.Map.{keys_of, lookup}
use Rattle.std.proofs.lemmas.List.{get_or_push}
use Rattle.std.proofs.lemmas.Map.Entries.{lookup_from_place}
use Rattle.fs_types.specs.Fragments.{piece_eq}
use Rattle.fs_types.specs.Pieces.{Piece}
use Rattle.piece_table.specs.declared.piece_table.Counted.{Counted}
use Rattle.piece_table.specs.PieceTable.{AreCounted, AreTheirs, hold_in}
use Rattle.piece_table.specs.Thinning.{AreOut}
use Rattle.piece_table.proofs.Releases.{AreOut-one}
use Rattle.piece_table.proofs.Tables.{AreCounted-after, hold_after, piece_eq-comm, piece_eq-itself, same_piece}

piece_eq-laws : IsEquivalence piece_eq
piece_eq-laws = record {
  refl = piece_eq-itself;
  symm = piece_eq-comm;
  congr = λ p q r same. ap (λ s. piece_eq s r) (same_piece p q same);
}

-- the last entry is taken out
module _ {H : Type 0} (es rest : List (Piece × Counted H)) (p : Piece) (c : Counted H) (counted : AreCounted es) (last : es ≡ rest ++ (p, c) ∷ [])
    (updates : (q : Piece) → lookup (piece_eq q) rest ≡ cond (piece_eq p q) None (lookup (piece_eq q) es)) where
  found_last : lookup (piece_eq p) es ≡ Some c
  found_last = lookup_from_place piece_eq-laws es (length rest) p c counted.apart
      (ap (λ us. slice_get us (length rest)) last
      ∙ slice_get-get_or (rest ++ (p, c) ∷ []) (length rest) (p, c) (omega (arith, length_push rest (p, c)))
      ∙ ap Some (get_or_push rest (p, c) (p, c) (length rest) refl))

  pub AreCounted-taken : IsDistinct piece_eq (keys_of rest) → AreCounted rest
  AreCounted-taken apart = AreCounted-after es rest p None updates counted apart (λ x is. absurd cc)

  pub AreOut-taken : (piece_of : H → Piece) → AreTheirs piece_of (λ q. hold_in (lookup (piece_eq q) es))
      → AreOut piece_of (λ q. hold_in (lookup (piece_eq q) es)) (λ q. hold_in (lookup (piece_eq q) rest)) (c.hold ∷ [])
  AreOut-taken piece_of theirs = AreOut-one piece_of (λ q. hold_in (lookup (piece_eq q) es)) (λ q. hold_in (lookup (piece_eq q) rest)) p c.hold
      (ap hold_in found_last) (theirs p c.hold (ap hold_in found_last))
      (hold_after es rest p None updates p ∙ cond-true _ None (hold_in (lookup (piece_eq p) es)) (piece_eq-itself p))
      (λ q other. hold_after es rest p None updates q ∙ cond-false _ None (hold_in (lookup (piece_eq q) es)) other)

  -- what is held still was held
  pub held_rest : (q : Piece) (h : H) → hold_in (lookup (piece_eq q) rest) ≡ Some h → hold_in (lookup (piece_eq q) es) ≡ Some h
  held_rest q h is = elim (cases_Bool (piece_eq p q)) [
    | inl same ↦ absurd (none-some h (sym (cond-true _ None (hold_in (lookup (piece_eq q) es)) same)
        ∙ sym (hold_after es rest p None updates q) ∙ is))
    | inr other ↦ sym (cond-false _ None (hold_in (lookup (piece_eq q) es)) other) ∙ sym (hold_after es rest p None updates q) ∙ is
  ]

  pub unheld_rest : (q : Piece) → hold_in (lookup (piece_eq q) es) ≡ None → hold_in (lookup (piece_eq q) rest) ≡ None
  unheld_rest q none = elim (cases_Bool (piece_eq p q)) [
    | inl same ↦ hold_after es rest p None updates q ∙ cond-true _ None (hold_in (lookup (piece_eq q) es)) same
    | inr other ↦ hold_after es rest p None updates q ∙ cond-false _ None (hold_in (lookup (piece_eq q) es)) other ∙ none
  ]
