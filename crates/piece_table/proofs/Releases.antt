-- Holds that come out of a table of pieces, one after another.
use Rattle.fs_types.proofs.Common.{◌≡◌, ℕ, ◌+◌, ◌<◌, ◌-◌, Bool, true, false, cond, ◌&&◌, ◌==◌, List, [], ◌∷◌, ◌++◌, Option, Some, None, All}
use Rattle.fs_types.proofs.Common.{All-nil, All-cons, All-append, All-weaker}
use Rattle.fs_types.proofs.Common.{Contains, Contains-append_left, Contains-append_right, Contains-push, refl, sym, ap, ◌∙◌, subst, arith}
use Rattle.fs_types.proofs.Common.{same_Some, append-nil, append_assoc, none-some}
use Rattle.fs_types.proofs.Common.{cases_Bool, inl, inr, eqb-true, eq-eqb, ne_eqb, cond-true, cond-false, true≢false}
use Rattle.span_list.proofs.CallerLemmas.{AllPairs-nil, AllPairs-one, AllPairs-append}
use Rattle.fs_types.specs.Fragments.{piece_eq}
use Rattle.fs_types.specs.Pieces.{Piece}
use Rattle.piece_table.specs.PieceTable.{Pieces, number_of, hold_of}
use Rattle.piece_table.specs.Thinning.{Thins, AreOut, ComesOut}
use Rattle.piece_table.proofs.Tables.{same_piece, piece_eq-itself, and_false}

module _ {H : Type 0} where
  pub Thins-itself : (t : Pieces H) → ((q : Piece) → number_of t q ≡ 0 → hold_of t q ≡ None) → Thins t t
  Thins-itself t unheld = record {
    holds = λ q. elim (cases_Bool (number_of t q == 0)) [
      | inl zero ↦ unheld q (eqb-true _ _ zero) ∙ sym (cond-true _ None (hold_of t q) zero)
      | inr some ↦ sym (cond-false _ None (hold_of t q) some)
    ];
    gone = λ q zero. zero;
  }

  pub Thins-then : (a b c : Pieces H) → Thins a b → Thins b c → Thins a c
  Thins-then a b c first second = record {
    holds = λ q. elim (cases_Bool (number_of c q == 0)) [
      | inl zero ↦ second.holds q ∙ cond-true _ None (hold_of b q) zero ∙ sym (cond-true _ None (hold_of a q) zero)
      | inr some ↦
          let before : (number_of b q == 0) ≡ false = ne_eqb (number_of b q) 0
          (λ none. true≢false (sym (eq-eqb _ _ (second.gone q none)) ∙ some)) in
          second.holds q ∙ cond-false _ None (hold_of b q) some
          ∙ first.holds q ∙ cond-false _ None (hold_of a q) before ∙ sym (cond-false _ None (hold_of a q) some)
    ];
    gone = λ q zero. second.gone q (first.gone q zero);
  }

  module _ (old new : Pieces H) (thins : Thins old new) (q : Piece) where
    -- what is held was held before
    pub held_before : (h : H) → hold_of new q ≡ Some h → hold_of old q ≡ Some h
    held_before h is = elim (cases_Bool (number_of new q == 0)) [
      | inl zero ↦ absurd (none-some h (sym (cond-true _ None (hold_of old q) zero) ∙ sym (thins.holds q) ∙ is))
      | inr some ↦ sym (cond-false _ None (hold_of old q) some) ∙ sym (thins.holds q) ∙ is
    ]

    -- and what wasn't isn't
    pub unheld_after : hold_of old q ≡ None → hold_of new q ≡ None
    unheld_after none = elim (cases_Bool (number_of new q == 0)) [
      | inl zero ↦ thins.holds q ∙ cond-true _ None (hold_of old q) zero
      | inr some ↦ thins.holds q ∙ cond-false _ None (hold_of old q) some ∙ none
    ]

  module _ (piece : H → Piece) where
    -- nothing comes out where all stay
    pub AreOut-none : (old new : Piece → Option H) → ((q : Piece) → new q ≡ old q) → AreOut piece old new []
    AreOut-none old new same = record {
      held = All-nil (λ h. old (piece h) ≡ Some h);
      gone = All-nil (λ h. new (piece h) ≡ None);
      each = λ q h is none. absurd (none-some h (sym none ∙ same q ∙ is));
      once = AllPairs-nil (λ g h. piece_eq (piece g) (piece h) ≡ false);
    }

    -- one comes out
    pub AreOut-one : (old new : Piece → Option H) (p : Piece) (h : H) → old p ≡ Some h → piece h ≡ p → new p ≡ None
        → ((q : Piece) → piece_eq p q ≡ false → new q ≡ old q) → AreOut piece old new (h ∷ [])
    AreOut-one old new p h is of_p none others = record {
      held = All-cons (λ h. old (piece h) ≡ Some h) h [] (ap old of_p ∙ is) (All-nil (λ h. old (piece h) ≡ Some h));
      gone = All-cons (λ h. new (piece h) ≡ None) h [] (ap new of_p ∙ none) (All-nil (λ h. new (piece h) ≡ None));
      each = λ q g was gone. elim (cases_Bool (piece_eq p q)) [
        | inl same ↦ subst (Contains (h ∷ [])) (same_Some h g (sym is ∙ ap old (same_piece p q same) ∙ was)) (Contains-push [] h)
        | inr other ↦ absurd (none-some g (sym gone ∙ others q other ∙ was))
      ];
      once = AllPairs-one (λ g h. piece_eq (piece g) (piece h) ≡ false) h;
    }

    -- what comes out in two steps
    pub AreOut-then : (a b c : Piece → Option H) (first second : List H) → AreOut piece a b first → AreOut piece b c second
        → ((q : Piece) (h : H) → b q ≡ Some h → a q ≡ Some h) → ((q : Piece) → b q ≡ None → c q ≡ None)
        → AreOut piece a c (first ++ second)
    AreOut-then a b c first second one two before after = record {
      held = All-append (λ h. a (piece h) ≡ Some h) first second one.held
          (All-weaker (λ h. b (piece h) ≡ Some h) (λ h. a (piece h) ≡ Some h) (λ h is. before (piece h) h is) second two.held);
      gone = All-append (λ h. c (piece h) ≡ None) first second
          (All-weaker (λ h. b (piece h) ≡ None) (λ h. c (piece h) ≡ None) (λ h none. after (piece h) none) first one.gone) two.gone;
      each = λ q h was gone. by q h was gone (b q) refl;
      once = AllPairs-append (λ g h. piece_eq (piece g) (piece h) ≡ false) first second one.once two.once
          (All-weaker (λ g. b (piece g) ≡ None) (λ g. All (λ h. piece_eq (piece g) (piece h) ≡ false) second)
          (λ g none. All-weaker (λ h. b (piece h) ≡ Some h) (λ h. piece_eq (piece g) (piece h) ≡ false)
          (λ h is. elim (cases_Bool (piece_eq (piece g) (piece h))) [
            | inl same ↦ absurd (none-some h (sym none ∙ ap b (same_piece (piece g) (piece h) same) ∙ is))
            | inr other ↦ other
          ]) second two.held) first one.gone);
    }
      where
        by : (q : Piece) (h : H) → a q ≡ Some h → c q ≡ None → (o : Option H) → b q ≡ o → Contains (first ++ second) h
        by q h was gone None is = Contains-append_left first second h (one.each q h was is)
        by q h was gone (Some g) is =
            let same : g ≡ h = same_Some g h (sym (before q g is) ∙ was) in
            Contains-append_right first second h (two.each q h (is ∙ ap Some same) gone)

    pub ComesOut-none : (old new : Piece → Option H) (dead : List H) → ((q : Piece) → new q ≡ old q) → ComesOut piece old new dead dead
    ComesOut-none old new dead same = ([], sym (append-nil dead), AreOut-none old new same)

    pub ComesOut-then : (a b c : Piece → Option H) (before mid after : List H)
        → ComesOut piece a b before mid → ComesOut piece b c mid after
        → ((q : Piece) (h : H) → b q ≡ Some h → a q ≡ Some h) → ((q : Piece) → b q ≡ None → c q ≡ None)
        → ComesOut piece a c before after
    ComesOut-then a b c before mid after first second earlier later = (
      first.0 ++ second.0,
      second.1 ∙ ap (λ us. us ++ second.0) first.1 ∙ append_assoc before first.0 second.0,
      AreOut-then a b c first.0 second.0 first.2 second.2 earlier later,
    )

  -- one fragment of a piece goes out
  module _ (old new : Pieces H) (p : Piece) (some : 0 < number_of old p)
      (numbers : (q : Piece) → number_of new q ≡ cond (piece_eq p q) (number_of old p - 1) (number_of old q))
      (holds : (q : Piece) → hold_of new q ≡ cond (piece_eq p q && number_of old p == 1) None (hold_of old q)) where
    pub Thins-one : ((q : Piece) → number_of new q ≡ 0 → hold_of new q ≡ None) → Thins old new
    Thins-one unheld = record {
      holds = λ q. elim (cases_Bool (number_of new q == 0)) [
        | inl zero ↦ unheld q (eqb-true _ _ zero) ∙ sym (cond-true _ None (hold_of old q) zero)
        | inr more ↦ holds q ∙ cond-false _ None (hold_of old q) (kept q more (piece_eq p q) refl)
            ∙ sym (cond-false _ None (hold_of old q) more)
      ];
      gone = λ q zero. lost q zero (piece_eq p q) refl;
    }
      where
        kept : (q : Piece) → (number_of new q == 0) ≡ false → (b : Bool) → piece_eq p q ≡ b → (piece_eq p q && number_of old p == 1) ≡ false
        kept q more true e =
            let less = numbers q ∙ cond-true _ (number_of old p - 1) (number_of old q) e in
            ap (λ b. b && number_of old p == 1) e
            ∙ ne_eqb (number_of old p) 1 (λ one. true≢false (sym (eq-eqb (number_of new q) 0 (omega arith)) ∙ more))
        kept q more false e = ap (λ b. b && number_of old p == 1) e

        lost : (q : Piece) → number_of old q ≡ 0 → (b : Bool) → piece_eq p q ≡ b → number_of new q ≡ 0
        lost q zero true e = let same = ap (number_of old) (same_piece p q e) in absurd (omega arith)
        lost q zero false e = numbers q ∙ cond-false _ (number_of old p - 1) (number_of old q) e ∙ zero

    pub one_less : (q : Piece) → number_of new q + cond (piece_eq p q) 1 0 ≡ number_of old q
    one_less q = by (piece_eq p q) refl
      where
        by : (b : Bool) → piece_eq p q ≡ b → number_of new q + cond (piece_eq p q) 1 0 ≡ number_of old q
        by true e =
            let less = numbers q ∙ cond-true _ (number_of old p - 1) (number_of old q) e in
            let same = ap (number_of old) (same_piece p q e) in
            omega (arith, cond-true {A = ℕ} (piece_eq p q) 1 0 e)
        by false e =
            let kept = numbers q ∙ cond-false _ (number_of old p - 1) (number_of old q) e in
            omega (arith, cond-false {A = ℕ} (piece_eq p q) 1 0 e)

    module _ (piece : H → Piece) where
      -- nothing comes out
      pub ComesOut-kept : (number_of old p == 1) ≡ false → (dead : List H) → ComesOut piece (hold_of old) (hold_of new) dead dead
      ComesOut-kept more dead = ComesOut-none piece (hold_of old) (hold_of new) dead (λ q. holds q ∙ cond-false _ None (hold_of old q)
          (ap (λ t. piece_eq p q && t) more ∙ and_false (piece_eq p q) false refl))

      -- the hold comes out
      pub ComesOut-one : (h : H) → (number_of old p == 1) ≡ true → hold_of old p ≡ Some h → piece h ≡ p → (dead : List H)
          → ComesOut piece (hold_of old) (hold_of new) dead (dead ++ h ∷ [])
      ComesOut-one h last is of_p dead = (
        h ∷ [],
        refl,
        AreOut-one piece (hold_of old) (hold_of new) p h is of_p
            (holds p ∙ cond-true _ None (hold_of old p) (ap (λ b. b && number_of old p == 1) (piece_eq-itself p) ∙ last))
            (λ q other. holds q ∙ cond-false _ None (hold_of old q) (ap (λ b. b && number_of old p == 1) other)),
      )

  -- one more fragment names a piece
  pub one_more : (old new : Pieces H) (p : Piece)
      → ((q : Piece) → number_of new q ≡ cond (piece_eq p q) (number_of old p + 1) (number_of old q))
      → (q : Piece) → number_of new q ≡ number_of old q + cond (piece_eq p q) 1 0
  one_more old new p numbers q = by (piece_eq p q) refl
    where
      by : (b : Bool) → piece_eq p q ≡ b → number_of new q ≡ number_of old q + cond (piece_eq p q) 1 0
      by true e =
          let more = numbers q ∙ cond-true _ (number_of old p + 1) (number_of old q) e in
          let same = ap (number_of old) (same_piece p q e) in
          omega (arith, cond-true {A = ℕ} (piece_eq p q) 1 0 e)
      by false e =
          let kept = numbers q ∙ cond-false _ (number_of old p + 1) (number_of old q) e in
          omega (arith, cond-false {A = ℕ} (piece_eq p q) 1 0 e)
