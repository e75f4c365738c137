-- Fragments that were all put over others with their holds, and fragments that were all dropped.
use Rattle.fs_types.proofs.Common.{◌≡◌, ℕ, ◌+◌, Bool, true, false, List, [], ◌∷◌, Option, Some, None, IsTrue, is_some, refl, sym, ap, ◌∙◌}
use Rattle.fs_types.proofs.Common.{subst, arith}
use Rattle.fs_types.proofs.Common.{All, All-nil, get_or, none-some, ◌++◌, cases_Bool, inl, inr, cond-true, cond-false, true≢false, false≢true}
use Rattle.std.specs.Map.{lookup}
use Rattle.std.specs.Option.{option_or}
use Rattle.fs_types.specs.Fragments.{fragment_count, piece_eq}
use Rattle.fs_types.specs.Pieces.{Piece, Fragment}
use Rattle.span_list.specs.Spans.{AreSpans, cut_fragments}
use Rattle.span_list.proofs.CallerLemmas.{at_rest_before}
use Rattle.piece_table.specs.HeldSpans.{AreHeld, HandsOver, Held, Kept, LiesIn, PutsAll, held, is_named, kept, put_fragments, while_named}
use Rattle.piece_table.specs.PieceTable.{AreReady, AreTheirs, Pieces, number_in, number_of, hold_in, hold_of}
use Rattle.piece_table.specs.Thinning.{Thins, ComesOut}
use Rattle.piece_table.proofs.Holds.{AreLaid, IsKept, HaveHolds-held, HaveHolds-kept, HaveHolds-more, HaveHolds-puts, HaveHolds, hold_laid}
use Rattle.piece_table.proofs.Holds.{IsKept-laid, HandsOver-laid}
use Rattle.piece_table.proofs.Counts.{none_named}
use Rattle.piece_table.proofs.Places.{named_put}

-- one of two, where the first is there, or isn't
or_some : {X : Type 0} (a b : Option X) → is_some a ≡ true → option_or a b ≡ a
or_some None b some = absurd (false≢true some)
or_some (Some x) b some = refl

or_none : {X : Type 0} (a b : Option X) → is_some a ≡ false → option_or a b ≡ b
or_none None b none = refl
or_none (Some x) b none = absurd (true≢false none)

or_other : {X : Type 0} (a b : Option X) → (is_some a ≡ true → b ≡ None) → is_some b ≡ true → option_or a b ≡ b
or_other None b apart some = refl
or_other (Some x) b apart some = absurd (false≢true (sym (ap is_some (apart refl)) ∙ some))

nothing : {X : Type 0} (a : Option X) → is_some a ≡ false → a ≡ None
nothing None none = refl
nothing (Some x) none = absurd (true≢false none)

-- what one of two is, is the first or the second
either : {X : Type 0} (P : X → Type 0) (a b : Option X) → ((x : X) → a ≡ Some x → P x) → ((x : X) → b ≡ Some x → P x)
    → (x : X) → option_or a b ≡ Some x → P x
either P None b first second x is = second x is
either P (Some y) b first second x is = first x is

module _ {H : Type 0} (is_ready : H → Bool) (piece_of : H → Piece) (byte_count : H → ℕ) (old : Kept H) (over : Held H) where
  -- a table has the pieces of what is kept and of fragments with holds that are to be put over it, none of which it has: the holds
  -- of both, and the numbers of both in all
  pub record AreMerged (merged : Pieces H) : Type 0 where
    pub is_kept : IsKept is_ready piece_of byte_count old
    pub over_held : AreHeld is_ready piece_of byte_count over
    pub apart : (q : Piece) → is_some (over.hold_of q) ≡ true → hold_of old.pieces q ≡ None
    pub holds : (q : Piece) → hold_of merged q ≡ option_or (over.hold_of q) (hold_of old.pieces q)
    pub numbers : (q : Piece) → number_of merged q ≡ number_of old.pieces q + fragment_count q over.fragments

  -- what came of putting them: it is kept, and the holds that no fragment needs any more are those that came out of the merged table
  pub record ArePut (merged laid : Pieces H) (fs : List Fragment) : Type 0 where
    pub is_kept : IsKept is_ready piece_of byte_count (kept fs laid)
    pub puts : PutsAll over (held old) (held (kept fs laid))
    pub hands : (dead after : List H) → ComesOut piece_of (hold_of merged) (hold_of laid) dead after
        → HandsOver piece_of (held old) (held (kept fs laid)) dead after

module _ {H : Type 0} {is_ready : H → Bool} {piece_of : H → Piece} {byte_count : H → ℕ} {old : Kept H} {over : Held H} {merged : Pieces H}
    (are : AreMerged is_ready piece_of byte_count old over merged) where
  merged_ready : AreReady is_ready (hold_of merged)
  merged_ready q h is =
      either (λ x. IsTrue (is_ready x)) (over.hold_of q) (hold_of old.pieces q) (are.over_held.ready q) (are.is_kept.are_held.ready q) h
      (sym (are.holds q) ∙ is)

  -- each hold is of its piece once those of both are there
  pub merged_theirs : AreTheirs piece_of (hold_of merged)
  merged_theirs q h is =
      either (λ x. piece_of x ≡ q) (over.hold_of q) (hold_of old.pieces q) (are.over_held.piece q) (are.is_kept.are_held.piece q) h
      (sym (are.holds q) ∙ is)

  pub merged_counted : (q : Piece) → number_of merged q ≡ fragment_count q old.fragments + fragment_count q over.fragments
  merged_counted q = omega (arith, are.numbers q, are.is_kept.numbers q)

  -- a piece that no fragment of either names has no hold
  pub merged_unheld : (q : Piece) → number_of merged q ≡ 0 → hold_of merged q ≡ None
  merged_unheld q zero =
      let count = merged_counted q in
      are.holds q
      ∙ or_none (over.hold_of q) (hold_of old.pieces q) (are.over_held.named q ∙ none_named q over.fragments (omega (arith, zero, count)))
      ∙ nothing (hold_of old.pieces q) (are.is_kept.are_held.named q ∙ none_named q old.fragments (omega (arith, zero, count)))

  have_merged : HaveHolds byte_count (hold_of merged) (put_fragments over.fragments old.fragments)
  have_merged = HaveHolds-puts byte_count (hold_of merged) over.fragments old.fragments
      (HaveHolds-more byte_count (hold_of old.pieces) (hold_of merged) old.fragments
      (HaveHolds-kept byte_count is_ready piece_of old are.is_kept)
      (λ q some. are.holds q ∙ or_other (over.hold_of q) (hold_of old.pieces q) (are.apart q) some))
      (HaveHolds-more byte_count over.hold_of (hold_of merged) over.fragments
      (HaveHolds-held byte_count is_ready piece_of over are.over_held)
      (λ q some. are.holds q ∙ or_some (over.hold_of q) (hold_of old.pieces q) some))

  pub are-put : (laid : Pieces H) (fs : List Fragment) → fs ≡ put_fragments over.fragments old.fragments
      → ((q : Piece) → number_of laid q ≡ fragment_count q fs) → Thins merged laid
      → ArePut is_ready piece_of byte_count old over merged laid fs
  are-put laid fs put numbers thins = record {
    is_kept = IsKept-laid all;
    puts = record {
      fragments = put;
      holds = λ q. hold_laid all q ∙ elim (cases_Bool (is_named over.fragments q)) [
        | inl named ↦ cond-true _ (hold_of merged q) None (named_still q named) ∙ are.holds q
            ∙ or_some (over.hold_of q) (hold_of old.pieces q) (are.over_held.named q ∙ named)
            ∙ sym (cond-true _ (over.hold_of q) (while_named fs (hold_of old.pieces) q) named)
        | inr unnamed ↦
            ap (λ o. while_named fs (λ _. o) q) (other q unnamed)
            ∙ sym (cond-false _ (over.hold_of q) (while_named fs (hold_of old.pieces) q) unnamed)
      ];
    };
    hands = HandsOver-laid all old (λ q unnamed. elim (cases_Bool (is_named over.fragments q)) [
      | inl named ↦ absurd (true≢false (sym (named_still q named) ∙ unnamed))
      | inr none ↦ other q none
    ]);
  }
    where
      all : AreLaid is_ready piece_of byte_count merged laid fs
      all = record {
        have = subst (HaveHolds byte_count (hold_of merged)) (sym put) have_merged;
        ready = merged_ready;
        theirs = merged_theirs;
        numbers = numbers;
        thins = thins;
      }

      named_still : (q : Piece) → is_named over.fragments q ≡ true → is_named fs q ≡ true
      named_still q named =
          subst (λ us. is_named us q ≡ true) (sym put) (named_put q over.fragments old.fragments are.over_held.spans named)

      other : (q : Piece) → is_named over.fragments q ≡ false → hold_of merged q ≡ hold_of old.pieces q
      other q unnamed = are.holds q ∙ or_none (over.hold_of q) (hold_of old.pieces q) (are.over_held.named q ∙ unnamed)

-- nothing is left of what is cut at the begin
pub cut_all : (fs : List Fragment) → cut_fragments 0 fs ≡ []
cut_all [] = refl
cut_all (f ∷ fs) =
    at_rest_before (λ us. us ++ cut_fragments 0 fs ≡ []) 0 f (λ begins. cut_all fs) (λ before. absurd (omega arith))

module _ {H : Type 0} (is_ready : H → Bool) (piece_of : H → Piece) (byte_count : H → ℕ) where
  -- no fragments and no pieces
  pub IsKept-none : (fs : List Fragment) (pieces : Pieces H) → AreSpans fs → fs ≡ [] → pieces.entries ≡ []
      → IsKept is_ready piece_of byte_count (kept fs pieces)
  IsKept-none fs pieces spans none empty = record {
    are_held = record {
      spans = spans;
      named = λ q. ap is_some (unheld q) ∙ sym (ap (λ us. is_named us q) none);
      piece = λ q h is. absurd (none-some h (sym (unheld q) ∙ is));
      ready = λ q h is. absurd (none-some h (sym (unheld q) ∙ is));
      within = subst (All (LiesIn byte_count (hold_of pieces))) (sym none) (All-nil (LiesIn byte_count (hold_of pieces)));
    };
    numbers = λ q. ap (λ es. number_in (lookup (piece_eq q) es)) empty ∙ sym (ap (fragment_count q) none);
  }
    where
      unheld : (q : Piece) → hold_of pieces q ≡ None
      unheld q = ap (λ es. hold_in (lookup (piece_eq q) es)) empty

  -- all holds go where all fragments do
  pub HandsOver-all : (old : Kept H) (fs : List Fragment) (pieces : Pieces H) → fs ≡ [] → pieces.entries ≡ [] → (dead after : List H)
      → ComesOut piece_of (hold_of old.pieces) (hold_of pieces) dead after
      → HandsOver piece_of (held old) (held (kept fs pieces)) dead after
  HandsOver-all old fs pieces none empty dead after comes =
      let out = comes.2 in (
        comes.0,
        comes.1,
        record {
          held = out.held;
          unnamed = λ k d inside. ap (λ us. is_named us (piece_of (get_or comes.0 k d))) none;
          each = λ q h was unnamed. out.each q h was (ap (λ es. hold_in (lookup (piece_eq q) es)) empty);
          once = out.once;
        },
      )
