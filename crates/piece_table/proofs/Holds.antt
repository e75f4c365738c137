-- Fragments with a hold for each piece that they name: what a put keeps, and what is left once the others are out.
use Rattle.fs_types.proofs.Common.{◌≡◌, ℕ, ◌<◌, ◌≤◌, Bool, true, false, List, [], ◌∷◌, Option, None, is_some}
use Rattle.fs_types.proofs.Common.{All, All-append, All-cons, All-weaker, All-head, All-tail, flat_map, sym, ap, ◌∙◌, arith}
use Rattle.fs_types.proofs.Common.{cases_Bool, cases_lt, get_or, inl, inr, eq-eqb, ne_eqb, cond-true, cond-false}
use Rattle.span_list.proofs.CallerLemmas.{AreSpans-cut, AreSpans-put}
use Rattle.span_list.proofs.CallerLemmas.{All-flat_map}
use Rattle.span_list.proofs.CallerLemmas.{All-rest_before, All-rest_from}
use Rattle.fs_types.specs.Fragments.{end_of, fragment_count}
use Rattle.fs_types.specs.Pieces.{Piece, Fragment}
use Rattle.span_list.specs.Spans.{IsSpan, AreSpans, rest_before, rest_from, cut_fragments, put_fragment}
use Rattle.piece_table.specs.HeldSpans.{AreHeld, HandsOver, Held, IsCounted, Kept, LiesIn, held, is_named, kept, kept_with, put_fragments}
use Rattle.piece_table.specs.HeldSpans.{while_named}
use Rattle.piece_table.specs.PieceTable.{AreReady, AreTheirs, Pieces, number_of, hold_of}
use Rattle.piece_table.specs.Thinning.{Thins, ComesOut}
use Rattle.piece_table.proofs.Counts.{All-named, count-cons, head_named, named_by_put, named_none, named_some, naming_one, some_named}
use Rattle.piece_table.proofs.Covered.{AreSpans-head, AreSpans-tail}
use Rattle.piece_table.proofs.Releases.{held_before}
use Rattle.piece_table.proofs.Tables.{same_piece}

-- what is kept is held, and the table counts the fragments of each piece
pub record IsKept {H : Type 0} (is_ready : H → Bool) (piece_of : H → Piece) (byte_count : H → ℕ) (x : Kept H) : Type 0 where
  pub are_held : AreHeld is_ready piece_of byte_count (held x)
  pub numbers : (q : Piece) → number_of x.pieces q ≡ fragment_count q x.fragments

-- of this the rest is so whatever the holds are, and whatever room there is
pub IsCounted-kept : {H : Type 0} (is_ready : H → Bool) (piece_of : H → Piece) (byte_count : H → ℕ) (x : Kept H)
    → IsKept is_ready piece_of byte_count x → {spare : ℕ} → IsCounted (kept_with x.fragments spare x.pieces)
IsCounted-kept is_ready piece_of byte_count x is = record {
  spans = is.are_held.spans;
  named = is.are_held.named;
  numbers = is.numbers;
}

module _ {H : Type 0} (byte_count : H → ℕ) where
  -- each piece that the fragments name has a hold in which they lie
  pub record HaveHolds (hold : Piece → Option H) (fs : List Fragment) : Type 0 where
    pub spans : AreSpans fs
    pub named : (q : Piece) → 0 < fragment_count q fs → is_some (hold q) ≡ true
    pub within : All (LiesIn byte_count hold) fs

  module _ (hold : Piece → Option H) where
    -- what is left of a fragment lies in its piece where it does
    LiesIn-before : (at : ℕ) (f : Fragment) → LiesIn byte_count hold f → All (LiesIn byte_count hold) (rest_before at f)
    LiesIn-before at f lies = All-rest_before (LiesIn byte_count hold) at f (λ begun h is. let le = lies h is in omega arith)

    LiesIn-from : (at : ℕ) (f : Fragment) → LiesIn byte_count hold f → All (LiesIn byte_count hold) (rest_from at f)
    LiesIn-from at f lies = All-rest_from (LiesIn byte_count hold) at f (λ ends h is. let le = lies h is in omega arith)

    -- a put keeps this where the piece of its fragment has a hold in which that lies
    pub HaveHolds-put : (f : Fragment) (fs : List Fragment) → HaveHolds hold fs → IsSpan f → is_some (hold f.piece) ≡ true
        → LiesIn byte_count hold f → HaveHolds hold (put_fragment f fs)
    HaveHolds-put f fs have span some lies = record {
      spans = AreSpans-put f fs span have.spans;
      named = λ q named. elim (cases_lt 0 (fragment_count q fs)) [
        | inl before ↦ have.named q before
        | inr none ↦
            let one = named_by_put q f fs span have.spans.each named (omega arith) in
            ap (λ r. is_some (hold r)) (sym (same_piece f.piece q (naming_one q f one))) ∙ some
      ];
      within = All-append (LiesIn byte_count hold) (flat_map (rest_before f.at) fs) (f ∷ flat_map (rest_from (end_of f)) fs)
          (All-flat_map (LiesIn byte_count hold) (rest_before f.at) fs
          (All-weaker (LiesIn byte_count hold) (λ g. All (LiesIn byte_count hold) (rest_before f.at g)) (LiesIn-before f.at) fs
          have.within))
          (All-cons (LiesIn byte_count hold) f (flat_map (rest_from (end_of f)) fs) lies
          (All-flat_map (LiesIn byte_count hold) (rest_from (end_of f)) fs
          (All-weaker (LiesIn byte_count hold) (λ g. All (LiesIn byte_count hold) (rest_from (end_of f) g)) (LiesIn-from (end_of f)) fs
          have.within)));
    }

    pub HaveHolds-puts : (over fs : List Fragment) → HaveHolds hold fs → HaveHolds hold over → HaveHolds hold (put_fragments over fs)
    HaveHolds-puts [] fs have of_over = have
    HaveHolds-puts (f ∷ over) fs have of_over =
        HaveHolds-puts over (put_fragment f fs)
        (HaveHolds-put f fs have (AreSpans-head f over of_over.spans) (of_over.named f.piece (head_named f over))
        (All-head (LiesIn byte_count hold) f over of_over.within))
        (record {
          spans = AreSpans-tail f over of_over.spans;
          named = λ q some. of_over.named q (omega (arith, count-cons q f over));
          within = All-tail (LiesIn byte_count hold) f over of_over.within;
        })

    -- and a cut does
    pub HaveHolds-cut : (size : ℕ) (fs : List Fragment) → HaveHolds hold fs
        → ((q : Piece) → fragment_count q (cut_fragments size fs) ≤ fragment_count q fs) → HaveHolds hold (cut_fragments size fs)
    HaveHolds-cut size fs have fewer = record {
      spans = AreSpans-cut size fs have.spans;
      named = λ q some. have.named q (omega (arith, some, fewer q));
      within = All-flat_map (LiesIn byte_count hold) (rest_before size) fs
          (All-weaker (LiesIn byte_count hold) (λ g. All (LiesIn byte_count hold) (rest_before size g)) (LiesIn-before size) fs have.within);
    }

  -- other holds that are the same for the pieces that have one
  pub HaveHolds-more : (hold more : Piece → Option H) (fs : List Fragment) → HaveHolds hold fs
      → ((q : Piece) → is_some (hold q) ≡ true → more q ≡ hold q) → HaveHolds more fs
  HaveHolds-more hold more fs have same = record {
    spans = have.spans;
    named = λ q some. ap is_some (same q (have.named q some)) ∙ have.named q some;
    within = λ k d inside h is.
        let f : Fragment = get_or fs k d in
        have.within k d inside h (sym (same f.piece (have.named f.piece (named_some f.piece fs (All-named fs k d inside)))) ∙ is);
  }

  module _ (is_ready : H → Bool) (piece_of : H → Piece) where
    -- what is held has holds
    pub HaveHolds-held : (x : Held H) → AreHeld is_ready piece_of byte_count x → HaveHolds x.hold_of x.fragments
    HaveHolds-held x is = record {
      spans = is.spans;
      named = λ q some. is.named q ∙ some_named q x.fragments some;
      within = is.within;
    }

    pub HaveHolds-kept : (x : Kept H) → IsKept is_ready piece_of byte_count x → HaveHolds (hold_of x.pieces) x.fragments
    HaveHolds-kept x is = HaveHolds-held (held x) is.are_held

-- A table in which each piece that these fragments name has a hold, ready and of that piece, and what is left of it once it counts
-- the fragments of each piece, and the holds of the others are out.
pub record AreLaid {H : Type 0} (is_ready : H → Bool) (piece_of : H → Piece) (byte_count : H → ℕ) (before laid : Pieces H)
    (fs : List Fragment) : Type 0 where
  pub have : HaveHolds byte_count (hold_of before) fs
  pub ready : AreReady is_ready (hold_of before)
  pub theirs : AreTheirs piece_of (hold_of before)
  pub numbers : (q : Piece) → number_of laid q ≡ fragment_count q fs
  pub thins : Thins before laid

module _ {H : Type 0} {is_ready : H → Bool} {piece_of : H → Piece} {byte_count : H → ℕ} {before laid : Pieces H} {fs : List Fragment}
    (are : AreLaid is_ready piece_of byte_count before laid fs) where
  pub hold_laid : (q : Piece) → hold_of laid q ≡ while_named fs (hold_of before) q
  hold_laid q = elim (cases_Bool (is_named fs q)) [
    | inl named ↦
        let some = named_some q fs named in
        let test = ne_eqb (number_of laid q) 0 (λ zero. let no : ⊥ = omega (arith, are.numbers q) in no) in
        are.thins.holds q ∙ cond-false _ None (hold_of before q) test ∙ sym (cond-true _ (hold_of before q) None named)
    | inr unnamed ↦
        let test = eq-eqb (number_of laid q) 0 (are.numbers q ∙ named_none q fs unnamed) in
        are.thins.holds q ∙ cond-true _ None (hold_of before q) test ∙ sym (cond-false _ (hold_of before q) None unnamed)
  ]

  -- they are kept with it
  pub IsKept-laid : IsKept is_ready piece_of byte_count (kept fs laid)
  IsKept-laid = record {
    are_held = record {
      spans = are.have.spans;
      named = λ q. ap is_some (hold_laid q) ∙ elim (cases_Bool (is_named fs q)) [
        | inl named ↦ ap is_some (cond-true _ (hold_of before q) None named) ∙ are.have.named q (named_some q fs named) ∙ sym named
        | inr unnamed ↦ ap is_some (cond-false _ (hold_of before q) None unnamed) ∙ sym unnamed
      ];
      piece = λ q h is. are.theirs q h (held_before before laid are.thins q h is);
      ready = λ q h is. are.ready q h (held_before before laid are.thins q h is);
      within = All-weaker (LiesIn byte_count (hold_of before)) (LiesIn byte_count (hold_of laid))
          (λ f lies h is. lies h (held_before before laid are.thins f.piece h is)) fs are.have.within;
    };
    numbers = are.numbers;
  }

  module _ (old : Kept H) (same : (q : Piece) → is_named fs q ≡ false → hold_of before q ≡ hold_of old.pieces q) where
    -- a piece without a hold is not named
    unnamed_laid : (q : Piece) → hold_of laid q ≡ None → is_named fs q ≡ false
    unnamed_laid q none = sym (IsKept-laid.are_held.named q) ∙ ap is_some none

    -- what came out are the holds that were held before, where the pieces that got another hold are named
    pub HandsOver-laid : (dead after : List H) → ComesOut piece_of (hold_of before) (hold_of laid) dead after
        → HandsOver piece_of (held old) (held (kept fs laid)) dead after
    HandsOver-laid dead after comes =
        let out = comes.2 in (
          comes.0,
          comes.1,
          record {
            held = λ k d inside.
                let h = get_or comes.0 k d in
                sym (same (piece_of h) (unnamed_laid (piece_of h) (out.gone k d inside))) ∙ out.held k d inside;
            unnamed = λ k d inside. unnamed_laid (piece_of (get_or comes.0 k d)) (out.gone k d inside);
            each = λ q h was unnamed. out.each q h (same q unnamed ∙ was) (hold_laid q ∙ cond-false _ (hold_of before q) None unnamed);
            once = out.once;
          },
        )
