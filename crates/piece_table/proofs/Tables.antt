-- What a table has of each piece once it has something else of one.
use Rattle.fs_types.proofs.Common.{◌≡◌, ℕ, ◌<◌, Bool, true, false, cond, is_some, ◌&&◌, List, [], ◌∷◌, length, Option, Some, None, refl}
use Rattle.fs_types.proofs.Common.{sym, ap, ◌∙◌, subst}
use Rattle.fs_types.proofs.Common.{Decides-eqb, arith, cases_Bool, false_from_ne_true, inl, inr, true≢false}
use Rattle.std.specs.List.{IsDistinct}
use Rattle.std.specs.Map.{keys_of, lookup}
use Rattle.std.proofs.lemmas.Bool.Decides.{Decides-and}
use Rattle.fs_types.specs.Fragments.{piece_eq}
use Rattle.fs_types.specs.Pieces.{Piece}
use Rattle.piece_table.specs.declared.piece_table.Counted.{Counted}
use Rattle.piece_table.specs.PieceTable.{AreCounted, number_in, hold_in}

pub same_piece : (p q : Piece) → piece_eq p q ≡ true → p ≡ q
same_piece p q is =
    let both = (Decides-and _ _ (Decides-eqb p.line q.line) (Decides-eqb p.part q.part)).0 is in
    let at : ℕ → ℕ → Piece = λ line part. record { line = line; part = part } in
    ap (λ line. at line p.part) both.0 ∙ ap (at q.line) both.1

pub piece_eq-itself : (p : Piece) → piece_eq p p ≡ true
piece_eq-itself p = (Decides-and _ _ (Decides-eqb p.line p.line) (Decides-eqb p.part p.part)).1 (refl, refl)

pub piece_eq-sym : (p q : Piece) → piece_eq p q ≡ true → piece_eq q p ≡ true
piece_eq-sym p q is = subst (λ (r : Piece). piece_eq r p ≡ true) (same_piece p q is) (piece_eq-itself p)

-- two pieces are compared alike either way round
pub piece_eq-comm : (p q : Piece) → piece_eq p q ≡ piece_eq q p
piece_eq-comm p q = elim (cases_Bool (piece_eq p q)) [
  | inl same ↦ same ∙ sym (piece_eq-sym p q same)
  | inr other ↦ other ∙ sym (false_from_ne_true (piece_eq q p) (λ same. true≢false (sym (piece_eq-sym q p same) ∙ other)))
]

-- the last of two changes of one piece stands
pub updated_twice : {X : Type 0} (es mid new : List (Piece × X)) (p : Piece) (v w : Option X)
    → ((q : Piece) → lookup (piece_eq q) mid ≡ cond (piece_eq p q) v (lookup (piece_eq q) es))
    → ((q : Piece) → lookup (piece_eq q) new ≡ cond (piece_eq p q) w (lookup (piece_eq q) mid))
    → (q : Piece) → lookup (piece_eq q) new ≡ cond (piece_eq p q) w (lookup (piece_eq q) es)
updated_twice es mid new p v w first second q = second q ∙ ap (cond (piece_eq p q) w) (first q) ∙ by (piece_eq p q)
  where
    by : (b : Bool) → cond b w (cond b v (lookup (piece_eq q) es)) ≡ cond b w (lookup (piece_eq q) es)
    by true = refl
    by false = refl

module _ {H : Type 0} (es new : List (Piece × Counted H)) (p : Piece) (w : Option (Counted H))
    (updates : (q : Piece) → lookup (piece_eq q) new ≡ cond (piece_eq p q) w (lookup (piece_eq q) es)) where
  -- what is read of a piece
  read_after : {Y : Type 0} (f : Option (Counted H) → Y) (q : Piece)
      → f (lookup (piece_eq q) new) ≡ cond (piece_eq p q) (f w) (f (lookup (piece_eq q) es))
  read_after f q = ap f (updates q) ∙ by (piece_eq p q)
    where
      by : (b : Bool) → f (cond b w (lookup (piece_eq q) es)) ≡ cond b (f w) (f (lookup (piece_eq q) es))
      by true = refl
      by false = refl

  pub number_after : (n : ℕ) → number_in w ≡ n → (q : Piece)
      → number_in (lookup (piece_eq q) new) ≡ cond (piece_eq p q) n (number_in (lookup (piece_eq q) es))
  number_after n is q = read_after number_in q ∙ ap (λ m. cond (piece_eq p q) m (number_in (lookup (piece_eq q) es))) is

  pub hold_after : (q : Piece) → hold_in (lookup (piece_eq q) new) ≡ cond (piece_eq p q) (hold_in w) (hold_in (lookup (piece_eq q) es))
  hold_after q = read_after hold_in q

  -- where the piece keeps its hold, all do
  pub same_hold_after : hold_in w ≡ hold_in (lookup (piece_eq p) es) → (q : Piece)
      → hold_in (lookup (piece_eq q) new) ≡ hold_in (lookup (piece_eq q) es)
  same_hold_after same q = hold_after q ∙ by (piece_eq p q) refl
    where
      by : (b : Bool) → piece_eq p q ≡ b → cond b (hold_in w) (hold_in (lookup (piece_eq q) es)) ≡ hold_in (lookup (piece_eq q) es)
      by true e = same ∙ ap (λ (r : Piece). hold_in (lookup (piece_eq r) es)) (same_piece p q e)
      by false e = refl

  -- where the piece keeps its number, all do
  pub same_number_after : number_in w ≡ number_in (lookup (piece_eq p) es) → (q : Piece)
      → number_in (lookup (piece_eq q) new) ≡ number_in (lookup (piece_eq q) es)
  same_number_after same q = read_after number_in q ∙ by (piece_eq p q) refl
    where
      by : (b : Bool) → piece_eq p q ≡ b → cond b (number_in w) (number_in (lookup (piece_eq q) es)) ≡ number_in (lookup (piece_eq q) es)
      by true e = same ∙ ap (λ (r : Piece). number_in (lookup (piece_eq r) es)) (same_piece p q e)
      by false e = refl

  pub AreCounted-after : AreCounted es → IsDistinct piece_eq (keys_of new) → ((c : Counted H) → w ≡ Some c → 0 < c.number)
      → AreCounted new
  AreCounted-after all apart one = record {
    apart = apart;
    number = λ q c is. by q c (piece_eq p q) refl (sym (updates q) ∙ is);
  }
    where
      by : (q : Piece) (c : Counted H) (b : Bool) → piece_eq p q ≡ b → cond b w (lookup (piece_eq q) es) ≡ Some c → 0 < c.number
      by q c true e is = one c is
      by q c false e is = all.number q c is

-- a test that another one decides, or rules out
pub and_true : (b t : Bool) → t ≡ true → b ≡ (b && t)
and_true true t is = sym is
and_true false t is = refl

pub and_false : (b t : Bool) → t ≡ false → (b && t) ≡ false
and_false true t is = is
and_false false t is = refl

-- what has no hold isn't there
pub unheld : {H : Type 0} (found : Option (Counted H)) → hold_in found ≡ None → found ≡ None
unheld None none = refl
unheld (Some c) none = absurd cc

module _ {H : Type 0} (es : List (Piece × Counted H)) (all : AreCounted es) (q : Piece) where
  -- a piece that no fragment names has no hold
  pub unnumbered : number_in (lookup (piece_eq q) es) ≡ 0 → hold_in (lookup (piece_eq q) es) ≡ None
  unnumbered = by (lookup (piece_eq q) es) refl
    where
      by : (o : Option (Counted H)) → lookup (piece_eq q) es ≡ o → number_in o ≡ 0 → hold_in o ≡ None
      by None is zero = refl
      by (Some c) is zero = let some = all.number q c is in absurd (omega arith)

  -- and one that is named has one
  pub numbered : 0 < number_in (lookup (piece_eq q) es) → is_some (hold_in (lookup (piece_eq q) es)) ≡ true
  numbered = by (lookup (piece_eq q) es) refl
    where
      by : (o : Option (Counted H)) → lookup (piece_eq q) es ≡ o → 0 < number_in o → is_some (hold_in o) ≡ true
      by None is some = absurd (omega arith)
      by (Some c) is some = refl

-- where a piece is named the table isn't empty
pub some_entries : {H : Type 0} (es : List (Piece × Counted H)) (q : Piece) → 0 < number_in (lookup (piece_eq q) es) → 0 < length es
some_entries [] q some = absurd (omega arith)
some_entries (e ∷ es) q some = omega arith
