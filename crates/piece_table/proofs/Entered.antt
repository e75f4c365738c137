-- Pieces that are entered one after another by their holds.
use Rattle.fs_types.proofs.Common.{◌≡◌, ℕ, ◌+◌, ◌≤◌, IsTrue, length, Bool, false, cond, List, [], ◌∷◌, Some, None, refl, sym, ap, ◌∙◌, arith}
use Rattle.fs_types.proofs.Common.{All, All-head, All-tail, count_by, get_or, cases_Bool, inl, inr, cond-true, cond-false, sum_by-cons}
use Rattle.std.specs.List.{find, AllPairs}
use Rattle.std.specs.Option.{option_or}
use Rattle.span_list.proofs.CallerLemmas.{AllPairs-head, AllPairs-tail}
use Rattle.fs_types.specs.Fragments.{piece_eq}
use Rattle.fs_types.specs.Pieces.{Piece}
use Rattle.piece_table.specs.PieceTable.{Pieces, counted_of, number_in, number_of, hold_of}
use Rattle.piece_table.proofs.Tables.{piece_eq-comm, same_piece, unheld}

-- what isn't in a list isn't found there
pub find-none : {X : Type 0} (p : X → Bool) (xs : List X) → All (λ x. p x ≡ false) xs → find p xs ≡ None
find-none p [] none = refl
find-none p (x ∷ xs) none =
    cond-false (p x) (Some x) (find p xs) (All-head (λ x. p x ≡ false) x xs none)
    ∙ find-none p xs (All-tail (λ x. p x ≡ false) x xs none)

module _ {H : Type 0} (piece : H → Piece) where
  -- two holds are of other pieces
  abbrev pub AreApart : H → H → Type 0
  AreApart g h = piece_eq (piece g) (piece h) ≡ false

  -- a hold is of a piece
  abbrev pub is_of : Piece → H → Bool
  is_of q h = piece_eq (piece h) q

  module _ (old new : Pieces H) (h : H) (rest : List H) (apart : AllPairs AreApart (h ∷ rest))
      (none : hold_of old (piece h) ≡ None)
      (numbers : (q : Piece) → number_of new q ≡ cond (is_of q h) 1 (number_of old q))
      (holds : (q : Piece) → hold_of new q ≡ cond (is_of q h) (Some h) (hold_of old q)) where
    -- the ones behind it are still to come
    pub entered_numbers : (q : Piece) → number_of new q + count_by (is_of q) rest ≡ number_of old q + count_by (is_of q) (h ∷ rest)
    entered_numbers q = elim (cases_Bool (is_of q h)) [
      | inl same ↦
          let zero : number_of old q ≡ 0 =
          ap (number_of old) (sym (same_piece (piece h) q same)) ∙ ap number_in (unheld (counted_of old (piece h)) none) in
          omega (
            arith,
            zero,
            numbers q,
            cond-true (is_of q h) 1 (number_of old q) same,
            sum_by-cons (λ x. cond (is_of q x) 1 0) h rest,
            cond-true {A = ℕ} (is_of q h) 1 0 same,
          )
      | inr other ↦ omega (
        arith,
        numbers q,
        cond-false (is_of q h) 1 (number_of old q) other,
        sum_by-cons (λ x. cond (is_of q x) 1 0) h rest,
        cond-false {A = ℕ} (is_of q h) 1 0 other,
      )
    ]

    pub entered_holds : (q : Piece) → option_or (find (is_of q) rest) (hold_of new q) ≡ option_or (find (is_of q) (h ∷ rest)) (hold_of old q)
    entered_holds q = elim (cases_Bool (is_of q h)) [
      | inl same ↦
          let gone : find (is_of q) rest ≡ None =
          ap (λ r. find (is_of r) rest) (sym (same_piece (piece h) q same)) ∙ find-none (is_of (piece h)) rest unlike in
          ap (λ o. option_or o (hold_of new q)) gone ∙ holds q ∙ cond-true _ (Some h) (hold_of old q) same
          ∙ sym (ap (λ o. option_or o (hold_of old q)) (cond-true _ (Some h) (find (is_of q) rest) same))
      | inr other ↦
          ap (option_or (find (is_of q) rest)) (holds q ∙ cond-false _ (Some h) (hold_of old q) other)
          ∙ sym (ap (λ o. option_or o (hold_of old q)) (cond-false _ (Some h) (find (is_of q) rest) other))
    ]
      where
        unlike : All (λ g. is_of (piece h) g ≡ false) rest
        unlike k d within = piece_eq-comm (piece (get_or rest k d)) (piece h) ∙ AllPairs-head AreApart h rest apart k d within

    -- they are still new
    pub entered_new : All (λ g. hold_of old (piece g) ≡ None) rest → All (λ g. hold_of new (piece g) ≡ None) rest
    entered_new all k d within =
        holds (piece (get_or rest k d))
        ∙ cond-false _ (Some h) (hold_of old (piece (get_or rest k d))) (AllPairs-head AreApart h rest apart k d within)
        ∙ all k d within

  -- With those that are still to come the table is what it was with all; they are ready, new, and apart, and there is room.
  pub record AreEntering (is_ready : H → Bool) (old now : Pieces H) (all rest : List H) : Type 0 where
    pub ready : All (λ h. IsTrue (is_ready h)) rest
    pub apart : AllPairs AreApart rest
    pub new : All (λ h. hold_of now (piece h) ≡ None) rest
    pub room : length rest ≤ now.spare
    pub numbers : (q : Piece) → number_of now q + count_by (is_of q) rest ≡ number_of old q + count_by (is_of q) all
    pub holds : (q : Piece) → option_or (find (is_of q) rest) (hold_of now q) ≡ option_or (find (is_of q) all) (hold_of old q)
    pub len : length now.entries + length rest ≡ length old.entries + length all

  -- one more is entered
  pub AreEntering-next : (is_ready : H → Bool) (old now new : Pieces H) (h : H) (all rest : List H)
      → AreEntering is_ready old now all (h ∷ rest)
      → ((q : Piece) → number_of new q ≡ cond (is_of q h) 1 (number_of now q))
      → ((q : Piece) → hold_of new q ≡ cond (is_of q h) (Some h) (hold_of now q))
      → length new.entries ≡ length now.entries + 1 → now.spare ≤ new.spare + 1
      → AreEntering is_ready old new all rest
  AreEntering-next is_ready old now new h all rest are numbers holds len spare = record {
    ready = All-tail (λ x. IsTrue (is_ready x)) h rest are.ready;
    apart = AllPairs-tail AreApart h rest are.apart;
    new = entered_new now new h rest are.apart none numbers holds (All-tail (λ x. hold_of now (piece x) ≡ None) h rest are.new);
    room = omega (arith, are.room, spare);
    numbers = λ q. entered_numbers now new h rest are.apart none numbers holds q ∙ are.numbers q;
    holds = λ q. entered_holds now new h rest are.apart none numbers holds q ∙ are.holds q;
    len = omega (arith, are.len, len);
  }
    where
      none : hold_of now (piece h) ≡ None
      none = All-head (λ x. hold_of now (piece x) ≡ None) h rest are.new
