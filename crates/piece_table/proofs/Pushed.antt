-- A push as fragments with the holds of the pieces that they name.
use Rattle.fs_types.proofs.Common.{◌≡◌, ℕ, ◌+◌, ◌^◌, ◌<◌, ◌≤◌, Bool, true, false, cond, List, [], ◌∷◌, Option, Some, None, IsTrue, is_some}
use Rattle.fs_types.proofs.Common.{refl, sym, ap, ◌∙◌, subst, arith}
use Rattle.fs_types.proofs.Common.{All, All-head, All-tail, All-weaker, count_by, get_or, take, map, cases_Bool, cases_lt, cond_both, cond-true}
use Rattle.fs_types.proofs.Common.{cond-false, inl, inr, zero, suc}
use Rattle.fs_types.proofs.Common.{sum_by-cons, get_or-map, get_or-take, length-map, length-take, false≢true, same_Some}
use Rattle.std.specs.List.{find, AllPairs}
use Rattle.std.proofs.lemmas.List.Sums.{sum_by_more_le}
use Rattle.fs_types.specs.Fragments.{AreHeldFragments, HeldPiece, LiesWithin, fragment_count, held_pieces, hold_count, piece_eq}
use Rattle.fs_types.specs.Pieces.{Fragment, Piece}
use Rattle.fs_types.specs.declared.limits.TheConstants.{LONGEST_FILE}
use Rattle.span_list.proofs.CallerLemmas.{AllPairs-tail}
use Rattle.span_list.specs.Spans.{AreSpans}
use Rattle.piece_table.specs.HeldSpans.{AreHeld, LiesIn, is_named, pushed}
use Rattle.piece_table.specs.PieceTable.{Pieces, number_of}
use Rattle.piece_table.proofs.Counts.{All-named, count-cons, named_none, named_some, some_named}
use Rattle.piece_table.proofs.Discounted.{times}
use Rattle.piece_table.proofs.Entered.{AreApart, is_of}
use Rattle.piece_table.proofs.Tables.{piece_eq-itself, same_piece}

-- what is found passes, and has what all have
pub find-passes : {X : Type 0} (p : X → Bool) (xs : List X) (x : X) → find p xs ≡ Some x → p x ≡ true
find-passes p [] x = λ is. absurd cc
find-passes p (y ∷ ys) x =
    cond_both (p y) (Some y) (find p ys) (λ o. o ≡ Some x → p x ≡ true)
    (λ passes is. ap p (sym (same_Some y x is)) ∙ passes) (λ _ is. find-passes p ys x is)

pub find-All : {X : Type 0} (P : X → Type 0) (p : X → Bool) (xs : List X) (x : X) → All P xs → find p xs ≡ Some x → P x
find-All P p [] x all = λ is. absurd cc
find-All P p (y ∷ ys) x all =
    cond_both (p y) (Some y) (find p ys) (λ o. o ≡ Some x → P x)
    (λ _ is. subst P (same_Some y x is) (All-head P y ys all)) (λ _ is. find-All P p ys x (All-tail P y ys all) is)

-- something is found where some pass
pub find-some : {X : Type 0} (p : X → Bool) (xs : List X) → 0 < count_by p xs → is_some (find p xs) ≡ true
find-some p [] some = absurd (omega arith)
find-some p (x ∷ xs) some = elim (cases_Bool (p x)) [
  | inl passes ↦ ap is_some (cond-true (p x) (Some x) (find p xs) passes)
  | inr fails ↦
      ap is_some (cond-false (p x) (Some x) (find p xs) fails)
      ∙ find-some p xs (omega (arith, some, sum_by-cons (λ y. cond (p y) 1 0) x xs, cond-false {A = ℕ} (p x) 1 0 fails))
]

-- and nothing where none does
pub find-unpassed : {X : Type 0} (p : X → Bool) (xs : List X) → count_by p xs ≡ 0 → find p xs ≡ None
find-unpassed p [] none = refl
find-unpassed p (x ∷ xs) none = elim (cases_Bool (p x)) [
  | inl passes ↦
      let no : ⊥ = omega (arith, none, sum_by-cons (λ y. cond (p y) 1 0) x xs, cond-true {A = ℕ} (p x) 1 0 passes) in
      absurd no
  | inr fails ↦
      cond-false (p x) (Some x) (find p xs) fails
      ∙ find-unpassed p xs (omega (arith, none, sum_by-cons (λ y. cond (p y) 1 0) x xs, cond-false {A = ℕ} (p x) 1 0 fails))
]

-- what holds of the piece of each fragment holds of each piece that some fragment names
pub of_named : (P : Piece → Type 0) (fs : List Fragment) → All (λ f. P f.piece) fs → (q : Piece) → 0 < fragment_count q fs → P q
of_named P [] all q some = absurd (omega arith)
of_named P (f ∷ fs) all q some = elim (cases_Bool (piece_eq f.piece q)) [
  | inl same ↦ subst P (same_piece f.piece q same) (All-head (λ (g : Fragment). P g.piece) f fs all)
  | inr other ↦
      of_named P fs (All-tail (λ (g : Fragment). P g.piece) f fs all) q
      (omega (arith, some, count-cons q f fs, cond-false {A = ℕ} (piece_eq f.piece q) 1 0 other))
]

-- of holds of different pieces each is the one that is found of its piece
find-apart : {H : Type 0} (piece : H → Piece) (hs : List H) → AllPairs (AreApart piece) hs
    → All (λ h. find (is_of piece (piece h)) hs ≡ Some h) hs
find-apart piece [] apart k d inside = absurd (omega arith)
find-apart piece (g ∷ hs) apart zero d inside = cond-true (piece_eq (piece g) (piece g)) (Some g) _ (piece_eq-itself (piece g))
find-apart piece (g ∷ hs) apart (suc k) d inside =
    let q : Piece = piece (get_or hs k d) in
    cond-false (piece_eq (piece g) q) (Some g) (find (is_of piece q) hs) (apart 0 (suc k) d (omega arith) inside)
    ∙ find-apart piece hs (AllPairs-tail (AreApart piece) g hs apart) k d (omega (arith, inside))

module _ {H : Type 0} (piece : H → Piece) (bytes : H → ℕ) where
  -- the same of holds
  pub of_held : (P : Piece → Type 0) (hs : List H) → All (λ h. P (piece h)) hs → (q : Piece) → 0 < count_by (is_of piece q) hs → P q
  of_held P [] all q some = absurd (omega arith)
  of_held P (h ∷ hs) all q some = elim (cases_Bool (is_of piece q h)) [
    | inl same ↦ subst P (same_piece (piece h) q same) (All-head (λ g. P (piece g)) h hs all)
    | inr other ↦
        of_held P hs (All-tail (λ g. P (piece g)) h hs all) q
        (omega (arith, some, sum_by-cons (λ g. cond (is_of piece q g) 1 0) h hs, cond-false {A = ℕ} (is_of piece q h) 1 0 other))
  ]

  abbrev pub as_held : H → HeldPiece
  as_held h = record { piece = piece h; bytes = bytes h }

  pub counts_same : (q : Piece) (hs : List H) → hold_count q (held_pieces piece bytes hs) ≡ count_by (is_of piece q) hs
  counts_same q [] = refl
  counts_same q (h ∷ hs) =
      omega (
        arith,
        sum_by-cons (λ (x : HeldPiece). cond (piece_eq x.piece q) 1 0) (as_held h) (held_pieces piece bytes hs),
        sum_by-cons (λ x. cond (is_of piece q x) 1 0) h hs,
        counts_same q hs,
      )

  -- what holds of all held pieces holds of the holds
  All-from_held : (P : HeldPiece → Type 0) (hs : List H) → All P (held_pieces piece bytes hs) → All (λ h. P (as_held h)) hs
  All-from_held P hs all k d within =
      subst P (get_or-map as_held hs k d (as_held d) within) (all k (as_held d) (omega (arith, within, length-map hs as_held)))

  module _ (is_ready : H → Bool) (frags : List Fragment) (holds : List H)
      (well : AreHeldFragments LONGEST_FILE frags (held_pieces piece bytes holds)) where
    -- each piece that is named has one hold
    pub one_hold : (q : Piece) → 0 < fragment_count q frags → count_by (is_of piece q) holds ≡ 1
    one_hold q some = sym (counts_same q holds)
        ∙ of_named (λ p. hold_count p (held_pieces piece bytes holds) ≡ 1) frags well.one_hold q some

    -- and each piece that has one is named
    pub hold_named : (q : Piece) → 0 < count_by (is_of piece q) holds → 0 < fragment_count q frags
    hold_named = of_held (λ p. 0 < fragment_count p frags) holds
        (All-from_held (λ h. 0 < fragment_count h.piece frags) holds well.named)

    -- so what holds of the piece of each hold holds of each piece that is named
    pub of_named_held : (P : Piece → Type 0) → All (λ h. P (piece h)) holds → (q : Piece) → is_named frags q ≡ true → P q
    of_named_held P all q named = of_held P holds all q (omega (arith, one_hold q (named_some q frags named)))

    -- no two holds are of one piece
    pub holds_apart : AllPairs (AreApart piece) holds
    holds_apart i j d below within = elim (cases_Bool (piece_eq (piece (get_or holds i d)) (piece (get_or holds j d)))) [
      | inr other ↦ other
      | inl same ↦
          let q = piece (get_or holds j d) in
          let ones : H → ℕ = λ h. cond (is_of piece q h) 1 0 in
          let last = cond-true {A = ℕ} (is_of piece q (get_or holds j d)) 1 0 (piece_eq-itself q) in
          let first = cond-true {A = ℕ} (is_of piece q (get_or holds i d)) 1 0 same in
          let upto = sum_by_more_le ones holds j d within in
          let early = sum_by_more_le ones (take j holds) i d (omega (arith, below, within, length-take j holds)) in
          let at = ap ones (get_or-take j holds i d below) in
          let some : 0 < count_by (is_of piece q) holds = omega (arith, last, upto) in
          let one = one_hold q (hold_named q some) in
          let no : ⊥ = omega (arith, last, first, upto, early, at, one) in
          absurd no
    ]

    -- what is found of the piece of a hold is that hold
    pub find-own : All (λ h. find (is_of piece (piece h)) holds ≡ Some h) holds
    find-own = find-apart piece holds holds_apart

    -- each hold is of a piece that is named
    pub holds_named : All (λ h. is_named frags (piece h) ≡ true) holds
    holds_named = All-weaker (λ h. 0 < fragment_count (piece h) frags) (λ h. is_named frags (piece h) ≡ true)
        (λ h some. some_named (piece h) frags some) holds (All-from_held (λ h. 0 < fragment_count h.piece frags) holds well.named)

    -- the pieces of the holds, each once
    pub times-pieces : (q : Piece) (hs : List H) → times q (map piece hs) ≡ count_by (is_of piece q) hs
    times-pieces q [] = refl
    times-pieces q (h ∷ hs) =
        omega (
          arith,
          sum_by-cons (λ p. cond (piece_eq p q) 1 0) (piece h) (map piece hs),
          sum_by-cons (λ g. cond (is_of piece q g) 1 0) h hs,
          times-pieces q hs,
        )

    -- a piece that was entered, and then counted for each fragment, is counted more than once
    pub counted_more : (old entered counted : Pieces H)
        → ((q : Piece) → number_of entered q ≡ number_of old q + count_by (is_of piece q) holds)
        → ((q : Piece) → number_of counted q ≡ number_of entered q + fragment_count q frags)
        → (q : Piece) → 0 < times q (map piece holds) → times q (map piece holds) < number_of counted q
    counted_more old entered counted first then q some =
        let same = times-pieces q holds in
        let named = hold_named q (omega (arith, some, same)) in
        omega (arith, same, named, first q, then q)

    -- each piece that is named was entered
    pub entered_there : (old entered : Pieces H)
        → ((q : Piece) → number_of entered q ≡ number_of old q + count_by (is_of piece q) holds)
        → All (λ f. 0 < number_of entered f.piece) frags
    entered_there old entered numbers k d within =
        let f : Fragment = get_or frags k d in
        omega (arith, numbers f.piece, one_hold f.piece (named_some f.piece frags (All-named frags k d within)))

    module _ (ready : All (λ h. IsTrue (is_ready h)) holds) (short : All (λ h. bytes h < 2 ^ 32) holds) where
      found : (q : Piece) → 0 < fragment_count q frags → is_some (find (is_of piece q) holds) ≡ true
      found q some = find-some (is_of piece q) holds (omega (arith, one_hold q some))

      -- a fragment lies in the hold that is found of its piece
      lies : All (LiesIn bytes (λ q. find (is_of piece q) holds)) frags
      lies k d within h is =
          let f : Fragment = get_or frags k d in
          find-All (λ g. piece g ≡ f.piece → f.from + f.len ≤ bytes g) (is_of piece f.piece) holds h
          (All-from_held (LiesWithin f) holds (well.in_piece k d within)) is
          (same_piece (piece h) f.piece (find-passes (is_of piece f.piece) holds h is))

      -- its fragments may be kept
      pub spans : AreSpans frags
      spans = record {
        each = λ k d within.
            let f : Fragment = get_or frags k d in
            record {
              has_bytes = well.have_bytes k d within;
              in_file = well.in_file k d within;
              in_piece = by f (find (is_of piece f.piece) holds) refl
                  (found f.piece (named_some f.piece frags (All-named frags k d within))) (lies k d within);
            };
        in_order = well.in_order;
      }
        where
          by : (f : Fragment) (o : Option H) → find (is_of piece f.piece) holds ≡ o → is_some (find (is_of piece f.piece) holds) ≡ true
              → LiesIn bytes (λ q. find (is_of piece q) holds) f → f.from + f.len < 2 ^ 32
          by f None is some in_it = absurd (false≢true (sym (ap is_some is) ∙ some))
          by f (Some h) is some in_it =
              let small = find-All (λ g. bytes g < 2 ^ 32) (is_of piece f.piece) holds h short is in
              omega (arith, in_it h is, small)

      -- a push is held
      pub pushed_held : AreHeld is_ready piece bytes (pushed piece frags holds)
      pushed_held = record {
        spans = spans;
        named = λ q. elim (cases_Bool (is_named frags q)) [
          | inl named ↦ found q (named_some q frags named) ∙ sym named
          | inr unnamed ↦ not_found q (named_none q frags unnamed) ∙ sym unnamed
        ];
        piece = λ q h is. same_piece (piece h) q (find-passes (is_of piece q) holds h is);
        ready = λ q h is. find-All (λ g. IsTrue (is_ready g)) (is_of piece q) holds h ready is;
        within = lies;
      }
        where
          not_found : (q : Piece) → fragment_count q frags ≡ 0 → is_some (find (is_of piece q) holds) ≡ false
          not_found q unnamed = ap is_some (find-unpassed (is_of piece q) holds (elim (cases_lt 0 (count_by (is_of piece q) holds)) [
            | inl some ↦ let named = hold_named q some in absurd (omega arith)
            | inr none ↦ omega arith
          ]))
