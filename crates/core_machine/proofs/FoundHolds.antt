-- Holds of the pieces that fragments name, one of each: what is found among them, and that no piece has two.
use Rattle.fs_types.proofs.Common.{◌≡◌, Bool, true, false, ◌||◌, List, [], ◌∷◌, ◌++◌, map, fold, length-map, get_or, get_or-map, if◌then◌else◌}
use Rattle.fs_types.proofs.Common.{Option, Some, None, All, All-head, All-tail, All-cons, All-nil, refl, sym, ap, ◌∙◌, subst, arith, cond_both}
use Rattle.fs_types.proofs.Common.{ℕ, ◌+◌, ◌<◌, length, length-take, take, take_more, get_or-take, cases_Bool, inl, inr, true≢false, false_from_ne_true, list_any}
use Rattle.std.specs.Prelude.{AllPairs, find}
use Rattle.std.specs.Option.{option_or}
use Rattle.std.proofs.lemmas.List.{get_or_default}
use Rattle.std.proofs.lemmas.List.Folds.{find-append, list_any-append, list_any_at}
use Rattle.std.proofs.Math.Bool.{or-false, or_assoc}
use Rattle.fs_types.specs.Fragments.{piece_eq}
use Rattle.fs_types.specs.Pieces.{Fragment, Piece}
use Rattle.span_list.proofs.CallerLemmas.{AllPairs-append, AllPairs-nil, AllPairs-one}
use Rattle.piece_table.specs.HeldSpans.{is_named}
use Rattle.piece_table.proofs.CallerLemmas.{find-none, piece_eq-sym, same_piece}
use Rattle.owner_book.specs.Lookups.{is_one_of, pieces_named}

-- ---- the pieces that fragments name, each once

-- a piece behind those so far, where it isn't one of them
abbrev with_piece : List Piece → Fragment → List Piece
with_piece ps f = if is_one_of ps f.piece then ps else ps ++ f.piece ∷ []

-- some piece is this one
abbrev has : List Piece → Piece → Bool
has ps q = list_any (λ p. piece_eq p q) ps

either-way : (p q : Piece) → piece_eq q p ≡ piece_eq p q
either-way p q = elim (cases_Bool (piece_eq p q)) [
  | inl is ↦ piece_eq-sym p q is ∙ sym is
  | inr not ↦ false_from_ne_true (piece_eq q p) (λ is. true≢false (sym (piece_eq-sym q p is) ∙ not)) ∙ sym not
]

one_of-has : (ps : List Piece) (q : Piece) → is_one_of ps q ≡ has ps q
one_of-has [] q = refl
one_of-has (p ∷ ps) q = ap (λ b. b || is_one_of ps q) (either-way p q) ∙ ap (λ b. piece_eq p q || b) (one_of-has ps q)

has-more : (ps : List Piece) (f : Fragment) (q : Piece) → has (with_piece ps f) q ≡ (has ps q || piece_eq f.piece q)
has-more ps f q =
    cond_both (is_one_of ps f.piece) ps (ps ++ f.piece ∷ []) (λ us. has us q ≡ (has ps q || piece_eq f.piece q))
    (λ there. elim (cases_Bool (piece_eq f.piece q)) [
      | inl is ↦
          let here : has ps q ≡ true = sym (one_of-has ps q) ∙ ap (is_one_of ps) (sym (same_piece f.piece q is)) ∙ there in
          here ∙ sym (ap (λ b. b || piece_eq f.piece q) here)
      | inr not ↦ sym (ap (λ b. has ps q || b) not ∙ or-false (has ps q))
    ])
    (λ _. list_any-append (λ p. piece_eq p q) ps (f.piece ∷ []) ∙ ap (λ b. has ps q || b) (or-false (piece_eq f.piece q)))

has-named : (ps : List Piece) (fs : List Fragment) (q : Piece) → has (fold with_piece ps fs) q ≡ (has ps q || is_named fs q)
has-named ps [] q = sym (or-false (has ps q))
has-named ps (f ∷ fs) q =
    has-named (with_piece ps f) fs q ∙ ap (λ b. b || is_named fs q) (has-more ps f q)
    ∙ or_assoc (has ps q) (piece_eq f.piece q) (is_named fs q)

-- two pieces that differ
abbrev AreApart : Piece → Piece → Type 0
AreApart p q = piece_eq p q ≡ false

none-apart : (ps : List Piece) (q : Piece) → is_one_of ps q ≡ false → All (λ p. All (AreApart p) (q ∷ [])) ps
none-apart ps q none k d within =
    All-cons (AreApart (get_or ps k d)) q [] (false_from_ne_true (piece_eq (get_or ps k d) q)
    (λ is. true≢false (sym (list_any_at (piece_eq q) ps k d within (piece_eq-sym (get_or ps k d) q is)) ∙ none)))
    (All-nil (AreApart (get_or ps k d)))

more-apart : (ps : List Piece) (fs : List Fragment) → AllPairs AreApart ps → AllPairs AreApart (fold with_piece ps fs)
more-apart ps [] apart = apart
more-apart ps (f ∷ fs) apart =
    more-apart (with_piece ps f) fs
    (cond_both (is_one_of ps f.piece) ps (ps ++ f.piece ∷ []) (AllPairs AreApart) (λ _. apart)
    (λ none. AllPairs-append AreApart ps (f.piece ∷ []) apart (AllPairs-one AreApart f.piece) (none-apart ps f.piece none)))

-- ---- their holds

module _ {H : Type 0} (piece : H → Piece) where
  find-among : (hold_at : Piece → Option H) (holds : List H) (q : Piece) → All (λ h. hold_at (piece h) ≡ Some h) holds
      → find (λ h. piece_eq (piece h) q) holds ≡ (if has (map piece holds) q then hold_at q else None)
  find-among hold_at [] q each = refl
  find-among hold_at (h ∷ holds) q each =
      let others : Bool = has (map piece holds) q in
      cond_both (piece_eq (piece h) q) (Some h) (find (λ g. piece_eq (piece g) q) holds)
      (λ o. o ≡ (if piece_eq (piece h) q || others then hold_at q else None))
      (λ is. sym (All-head (λ g. hold_at (piece g) ≡ Some g) h holds each) ∙ ap hold_at (same_piece (piece h) q is)
      ∙ sym (ap (λ b. if b || others then hold_at q else None) is))
      (λ not. find-among hold_at holds q (All-tail (λ g. hold_at (piece g) ≡ Some g) h holds each)
      ∙ sym (ap (λ b. if b || others then hold_at q else None) not))

  -- the hold found is the piece's own, where the fragments name it
  pub find-held : (hold_at : Piece → Option H) (frags : List Fragment) (holds : List H) → map piece holds ≡ pieces_named frags
      → All (λ h. hold_at (piece h) ≡ Some h) holds → (q : Piece)
      → find (λ h. piece_eq (piece h) q) holds ≡ (if is_named frags q then hold_at q else None)
  find-held hold_at frags holds same each q =
      find-among hold_at holds q each
      ∙ ap (λ b. if b then hold_at q else None) (ap (λ ps. has ps q) same ∙ has-named [] frags q)

  -- no two of the holds are of one piece
  pub once-held : (frags : List Fragment) (holds : List H) → map piece holds ≡ pieces_named frags
      → AllPairs (λ g h. piece_eq (piece g) (piece h) ≡ false) holds
  once-held frags holds same i j d before within =
      let apart : AllPairs AreApart (map piece holds) = subst (AllPairs AreApart) (sym same) (more-apart [] frags (AllPairs-nil AreApart)) in
      let first = get_or-map piece holds i d (piece d) (omega (arith, before, within)) in
      let second = get_or-map piece holds j d (piece d) within in
      sym (λ k. piece_eq (first k) (second k)) ∙ apart i j (piece d) before (omega (arith, within, length-map holds piece))

  -- ---- holds, one more each time

  module _ (holds : List H) (apart : AllPairs (λ g h. piece_eq (piece g) (piece h) ≡ false) holds) (k : ℕ) (h : H) (lt : k < length holds)
      (is : h ≡ get_or holds k h) where
    -- none of those before is of the same piece
    pub find-new : find (λ g. piece_eq (piece g) (piece h)) (take k holds) ≡ None
    find-new = find-none (λ g. piece_eq (piece g) (piece h)) (take k holds) (λ i d within.
        let less : i < k = omega (arith, within, length-take k holds) in
        ap (λ g. piece_eq (piece g) (piece h)) (get_or-take k holds i d less)
        ∙ ap (λ g. piece_eq (piece (get_or holds i d)) (piece g)) (is ∙ get_or_default holds k h d lt) ∙ apart i k d less lt)

    pub find-more : (q : Piece) → find (λ g. piece_eq (piece g) q) (take (k + 1) holds)
        ≡ (if piece_eq (piece h) q then Some h else find (λ g. piece_eq (piece g) q) (take k holds))
    find-more q =
        ap (find (λ g. piece_eq (piece g) q)) (take_more holds k h lt ∙ ap (λ g. take k holds ++ g ∷ []) (sym is))
        ∙ find-append (λ g. piece_eq (piece g) q) (take k holds) (h ∷ [])
        ∙ either (piece_eq (piece h) q) (find (λ g. piece_eq (piece g) q) (take k holds))
        (λ same. ap (λ r. find (λ g. piece_eq (piece g) r) (take k holds)) (sym (same_piece (piece h) q same)) ∙ find-new)
      where
        either : (b : Bool) (o : Option H) → (b ≡ true → o ≡ None) → option_or o (if b then Some h else None) ≡ (if b then Some h else o)
        either true o none = ap (λ x. option_or x (Some h)) (none refl)
        either false None none = refl
        either false (Some g) none = refl
