-- Pieces that are counted once less, and stay.
use Rattle.fs_types.proofs.Common.{◌≡◌, ℕ, ◌+◌, ◌-◌, ◌<◌, false, cond, ◌&&◌, ◌==◌, List, None, refl, sym, ap, ◌∙◌, arith}
use Rattle.fs_types.proofs.Common.{count_by, get_or, length, take, cond-true, cond-false, ne_eqb}
use Rattle.std.proofs.lemmas.List.Sums.{sum_by_more, sum_by_more_le}
use Rattle.fs_types.specs.Fragments.{piece_eq}
use Rattle.fs_types.specs.Pieces.{Piece}
use Rattle.piece_table.specs.PieceTable.{Pieces, number_of, hold_of}
use Rattle.piece_table.proofs.Releases.{one_less}
use Rattle.piece_table.proofs.Tables.{piece_eq-itself, and_false}

-- how often a piece stands in a list
abbrev pub times : Piece → List Piece → ℕ
times q ps = count_by (λ p. piece_eq p q) ps

module _ {H : Type 0} (old now new : Pieces H) (less : List Piece) (k : ℕ) (p : Piece) (within : k < length less)
    (is : p ≡ get_or less k p) (stays : (q : Piece) → 0 < times q less → times q less < number_of old q)
    (so_far : (q : Piece) → number_of now q + times q (take k less) ≡ number_of old q) where
  -- one that is to be counted once less is counted more than once
  pub more_than_once : 1 < number_of now p
  more_than_once =
      let here = ap (λ (q : Piece). piece_eq q p) (sym is) ∙ piece_eq-itself p in
      let one = cond-true {A = ℕ} (piece_eq (get_or less k p) p) 1 0 here in
      let enough = sum_by_more_le (λ q. cond (piece_eq q p) 1 0) less k p within in
      let before = so_far p in
      let some : 0 < times p less = omega (arith, one, enough) in
      omega (arith, one, enough, before, stays p some)

  module _ (numbers : (q : Piece) → number_of new q ≡ cond (piece_eq p q) (number_of now p - 1) (number_of now q))
      (holds : (q : Piece) → hold_of new q ≡ cond (piece_eq p q && number_of now p == 1) None (hold_of now q)) where
    pub discounted : (q : Piece) → number_of new q + times q (take (k + 1) less) ≡ number_of old q
    discounted q =
        let two = more_than_once in
        omega (
          arith,
          one_less now new p (omega (arith, two)) numbers holds q,
          sum_by_more (λ r. cond (piece_eq r q) 1 0) less k p within,
          ap (λ (r : Piece). cond {A = ℕ} (piece_eq r q) 1 0) is,
          so_far q,
        )

    -- its hold stays too
    pub kept_holds : (q : Piece) → hold_of new q ≡ hold_of now q
    kept_holds q =
        let two = more_than_once in
        holds q ∙ cond-false _ None (hold_of now q)
        (ap (λ t. piece_eq p q && t) (ne_eqb (number_of now p) 1 (λ one. let no : ⊥ = omega (arith, one, two) in no))
        ∙ and_false (piece_eq p q) false refl)
