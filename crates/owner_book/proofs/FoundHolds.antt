-- Holds of the pieces that fragments name, one of each: what is found among them, and that no piece has two.
use Rattle.fs_types.proofs.Common.{◌≡◌, ℕ, ◌+◌, ◌<◌, Bool, true, false, ◌||◌, List, [], ◌∷◌, ◌++◌, map, length, length-map, length-take, take}
use Rattle.fs_types.proofs.Common.{get_or, get_or-map, get_or-take, take_more, if◌then◌else◌, Option, Some, None, All, All-head, All-tail}
use Rattle.fs_types.proofs.Common.{refl, sym, ap, ◌∙◌, subst, arith, cond_both}
use Rattle.std.specs.Prelude.{AllPairs, find}
use Rattle.std.specs.Option.{option_or}
use Rattle.std.proofs.lemmas.List.{get_or_default}
use Rattle.std.proofs.lemmas.List.Folds.{find-append}
use Rattle.fs_types.specs.Fragments.{piece_eq}
use Rattle.fs_types.specs.Pieces.{Fragment, Piece}
use Rattle.piece_table.specs.HeldSpans.{is_named}
use Rattle.piece_table.proofs.CallerLemmas.{find-none, piece_eq-comm, same_piece}
use Rattle.owner_book.specs.Lookups.{is_one_of, pieces_named}
use Rattle.owner_book.proofs.Named.{one-of_named, pieces-apart}

module _ {H : Type 0} (piece : H → Piece) where
  find-among : (hold_at : Piece → Option H) (holds : List H) (q : Piece) → All (λ h. hold_at (piece h) ≡ Some h) holds
      → find (λ h. piece_eq (piece h) q) holds ≡ (if is_one_of (map piece holds) q then hold_at q else None)
  find-among hold_at [] q each = refl
  find-among hold_at (h ∷ holds) q each =
      let others : Bool = is_one_of (map piece holds) q in
      let first : Bool → Option H = λ b. if b || others then hold_at q else None in
      cond_both (piece_eq (piece h) q) (Some h) (find (λ g. piece_eq (piece g) q) holds) (λ o. o ≡ first (piece_eq (piece h) q))
      (λ is. sym (All-head (λ g. hold_at (piece g) ≡ Some g) h holds each) ∙ ap hold_at (same_piece (piece h) q is) ∙ sym (ap first is))
      (λ other. find-among hold_at holds q (All-tail (λ g. hold_at (piece g) ≡ Some g) h holds each) ∙ sym (ap first other))
      ∙ ap first (piece_eq-comm (piece h) q)

  -- the hold found is the piece's own, where the fragments name it
  pub find-held : (hold_at : Piece → Option H) (frags : List Fragment) (holds : List H) → map piece holds ≡ pieces_named frags
      → All (λ h. hold_at (piece h) ≡ Some h) holds → (q : Piece)
      → find (λ h. piece_eq (piece h) q) holds ≡ (if is_named frags q then hold_at q else None)
  find-held hold_at frags holds same each q =
      find-among hold_at holds q each
      ∙ ap (λ b. if b then hold_at q else None) (ap (λ ps. is_one_of ps q) same ∙ one-of_named frags q)

  -- no two of the holds are of one piece
  pub once-held : (frags : List Fragment) (holds : List H) → map piece holds ≡ pieces_named frags
      → AllPairs (λ g h. piece_eq (piece g) (piece h) ≡ false) holds
  once-held frags holds same i j d before within =
      let apart = subst (AllPairs (λ p q. piece_eq p q ≡ false)) (sym same) (pieces-apart frags) in
      let first = get_or-map piece holds i d (piece d) (omega (arith, before, within)) in
      let second = get_or-map piece holds j d (piece d) within in
      sym (λ k. piece_eq (first k) (second k)) ∙ apart i j (piece d) before (omega (arith, within, length-map holds piece))

  -- ---- holds, one more each time

  module _ (holds : List H) (apart : AllPairs (λ g h. piece_eq (piece g) (piece h) ≡ false) holds) (k : ℕ) (h : H) (lt : k < length holds)
      (is : h ≡ get_or holds k h) where
    -- none of those before is of the same piece
    pub find-new : find (λ g. piece_eq (piece g) (piece h)) (take k holds) ≡ None
    find-new = find-none (λ g. piece_eq (piece g) (piece h)) (take k holds) (λ i d within.
        let less : i < k = omega (arith, within, length-take k holds) in
        ap (λ g. piece_eq (piece g) (piece h)) (get_or-take k holds i d less)
        ∙ ap (λ g. piece_eq (piece (get_or holds i d)) (piece g)) (is ∙ get_or_default holds k h d lt) ∙ apart i k d less lt)

    pub find-more : (q : Piece) → find (λ g. piece_eq (piece g) q) (take (k + 1) holds)
        ≡ (if piece_eq (piece h) q then Some h else find (λ g. piece_eq (piece g) q) (take k holds))
    find-more q =
        ap (find (λ g. piece_eq (piece g) q)) (take_more holds k h lt ∙ ap (λ g. take k holds ++ g ∷ []) (sym is))
        ∙ find-append (λ g. piece_eq (piece g) q) (take k holds) (h ∷ [])
        ∙ either (piece_eq (piece h) q) (find (λ g. piece_eq (piece g) q) (take k holds))
        (λ same. ap (λ r. find (λ g. piece_eq (piece g) r) (take k holds)) (sym (same_piece (piece h) q same)) ∙ find-new)
      where
        either : (b : Bool) (o : Option H) → (b ≡ true → o ≡ None) → option_or o (if b then Some h else None) ≡ (if b then Some h else o)
        either true o none = ap (λ x. option_or x (Some h)) (none refl)
        either false None none = refl
        either false (Some g) none = refl
