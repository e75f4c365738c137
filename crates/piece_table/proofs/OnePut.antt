-- A fragment of a new piece that is put with its hold: a push of that one fragment and that one hold.
use Rattle.fs_types.proofs.Common.{◌≡◌, ℕ, ◌+◌, ◌≤◌, Bool, true, false, ◌||◌, cond, [], ◌∷◌, Option, Some, None, is_some}
use Rattle.fs_types.proofs.Common.{All-cons, All-nil, IsTrue, arith, refl, sym, ap, ◌∙◌, subst, cases_Bool, inl, inr, cond-true, cond-false}
use Rattle.fs_types.proofs.Common.{cond_both, false≢true, if◌then◌else◌, none-some, same_Some}
use Rattle.std.specs.Option.{option_or}
use Rattle.std.proofs.Math.Bool.{or-false}
use Rattle.fs_types.specs.Fragments.{piece_eq}
use Rattle.fs_types.specs.Pieces.{Piece, Fragment}
use Rattle.span_list.specs.Spans.{IsSpan}
use Rattle.span_list.proofs.CallerLemmas.{AllPairs-one, IsAhead}
use Rattle.piece_table.specs.HeldSpans.{AreHeld, Held, Kept, LiesIn, Puts, PutsAll, pushed, while_named}
use Rattle.piece_table.specs.PieceTable.{Pieces, number_of, hold_of}
use Rattle.piece_table.proofs.AllPut.{AreMerged}
use Rattle.piece_table.proofs.Counts.{count-one, named_none, naming}
use Rattle.piece_table.proofs.Holds.{IsKept}
use Rattle.piece_table.proofs.Tables.{piece_eq-comm, same_piece}

module _ {H : Type 0} (is_ready : H → Bool) (piece_of : H → Piece) (byte_count : H → ℕ)
    (old : Kept H) (f : Fragment) (h : H) (entered : Pieces H) where
  abbrev over : Held H
  over = pushed piece_of (f ∷ []) (h ∷ [])

  -- its one hold is of the piece of the fragment
  own : (q : Piece) (g : H) → over.hold_of q ≡ Some g → (piece_eq (piece_of h) q ≡ true) × (h ≡ g)
  own q g =
      cond_both (piece_eq (piece_of h) q) (Some h) None (λ o. o ≡ Some g → (piece_eq (piece_of h) q ≡ true) × (h ≡ g))
      (λ same is. (same, same_Some h g is)) (λ _ is. absurd (none-some g is))

  held-over : IsSpan f → IsTrue (is_ready h) → piece_of h ≡ f.piece → f.from + f.len ≤ byte_count h
      → AreHeld is_ready piece_of byte_count over
  held-over span ready of_f lies = record {
    spans = record { each = All-cons IsSpan f [] span (All-nil IsSpan); in_order = AllPairs-one IsAhead f };
    named = λ q. found (piece_eq (piece_of h) q) ∙ ap (λ (p : Piece). piece_eq p q) of_f ∙ sym (or-false (piece_eq f.piece q));
    piece = λ q g is. let this = own q g is in ap piece_of (sym this.1) ∙ same_piece (piece_of h) q this.0;
    ready = λ q g is. subst (λ x. IsTrue (is_ready x)) (own q g is).1 ready;
    within = All-cons (LiesIn byte_count over.hold_of) f [] (λ g is. subst (λ x. f.from + f.len ≤ byte_count x) (own f.piece g is).1 lies)
        (All-nil (LiesIn byte_count over.hold_of));
  }
    where
      found : (b : Bool) → is_some (if b then Some h else None) ≡ b
      found true = refl
      found false = refl

  -- a table in which its piece is entered, with the number 1
  pub merged-one : IsKept is_ready piece_of byte_count old → IsSpan f → IsTrue (is_ready h) → piece_of h ≡ f.piece
      → f.from + f.len ≤ byte_count h → hold_of old.pieces f.piece ≡ None
      → ((q : Piece) → number_of entered q ≡ cond (piece_eq (piece_of h) q) 1 (number_of old.pieces q))
      → ((q : Piece) → hold_of entered q ≡ cond (piece_eq (piece_of h) q) (Some h) (hold_of old.pieces q))
      → AreMerged is_ready piece_of byte_count old over entered
  merged-one is_kept span ready of_f lies new numbers holds = record {
    is_kept = is_kept;
    over_held = held-over span ready of_f lies;
    apart = λ q. cond_both (piece_eq (piece_of h) q) (Some h) None (λ o. is_some o ≡ true → hold_of old.pieces q ≡ None)
        (λ same _. unheld q same) (λ _ some. absurd (false≢true some));
    holds = λ q. holds q ∙ either (piece_eq (piece_of h) q) (hold_of old.pieces q);
    numbers = λ q.
        let one = count-one q f in
        let same : naming q f ≡ cond (piece_eq (piece_of h) q) 1 0 = ap (λ (p : Piece). cond {A = ℕ} (piece_eq p q) 1 0) (sym of_f) in
        elim (cases_Bool (piece_eq (piece_of h) q)) [
          | inl this ↦
              let unnamed = named_none q old.fragments (sym (is_kept.are_held.named q) ∙ ap is_some (unheld q this)) in
              omega (
                arith,
                numbers q,
                cond-true _ 1 (number_of old.pieces q) this,
                is_kept.numbers q,
                unnamed,
                one,
                same,
                cond-true {A = ℕ} (piece_eq (piece_of h) q) 1 0 this,
              )
          | inr other ↦ omega (
            arith,
            numbers q,
            cond-false _ 1 (number_of old.pieces q) other,
            one,
            same,
            cond-false {A = ℕ} (piece_eq (piece_of h) q) 1 0 other,
          )
        ];
  }
    where
      unheld : (q : Piece) → piece_eq (piece_of h) q ≡ true → hold_of old.pieces q ≡ None
      unheld q same = ap (hold_of old.pieces) (sym (sym of_f ∙ same_piece (piece_of h) q same)) ∙ new

      either : (b : Bool) (o : Option H) → cond b (Some h) o ≡ option_or (if b then Some h else None) o
      either true o = refl
      either false o = refl

  -- what putting this push gives is what putting the fragment gives
  pub Puts-one : (was new : Held H) → piece_of h ≡ f.piece → PutsAll over was new → Puts f h was new
  Puts-one was new of_f puts = record {
    fragments = puts.fragments;
    holds = λ q.
        let others = while_named new.fragments was.hold_of q in
        let this : piece_eq (piece_of h) q ≡ piece_eq q f.piece = ap (λ (p : Piece). piece_eq p q) of_f ∙ piece_eq-comm f.piece q in
        puts.holds q ∙ (λ i. if piece_eq-comm f.piece q i || false then if this i then Some h else None else others)
        ∙ by (piece_eq q f.piece) others;
  }
    where
      by : (b : Bool) (o : Option H) → (if b || false then if b then Some h else None else o) ≡ (if b then Some h else o)
      by true o = refl
      by false o = refl
