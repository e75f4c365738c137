-- Fragments with their holds at single values: some that may be sent, and some with each fault.
use Rattle.std.proofs.Common.{◌≡◌, ◌<◌, ◌≤◌, ℕ, List, [], ◌∷◌, refl, lit<, lit≤, All, ap, arith}
use Rattle.std.specs.Prelude.{AllPairs}
use Rattle.std.proofs.lemmas.List.Elements.{All-cons, All-nil}
use Rattle.std.proofs.lemmas.List.Kept.{AllPairs-cons}
use Rattle.fs_types.specs.Fragments.{AreHeldFragments, HeldPiece, LiesWithin, end_of, fragment_count, hold_count}
use Rattle.fs_types.specs.Pieces.{Piece, Fragment}
use Rattle.fs_types.specs.declared.limits.TheConstants.{LONGEST_FILE}

-- parts 0 and 1 of line 3, of 64 bytes and of 6
abbrev first : Piece
first = record { line = 3; part = 0 }

abbrev second : Piece
second = record { line = 3; part = 1 }

abbrev of_first : HeldPiece
of_first = record { piece = first; bytes = 64 }

abbrev of_second : HeldPiece
of_second = record { piece = second; bytes = 6 }

abbrev frag : ℕ → ℕ → Piece → ℕ → Fragment
frag at len piece from = record { at = at; len = len; piece = piece; from = from }

-- the first 10 bytes of the first piece; its last 34, after a gap; and all of the second piece
abbrev head : Fragment
head = frag 0 10 first 0

abbrev tail : Fragment
tail = frag 30 34 first 30

abbrev after : Fragment
after = frag 64 6 second 0

abbrev both : List HeldPiece
both = of_first ∷ of_second ∷ []

-- what is true of one
of_one : {X : Type 0} (P : X → Type 0) (x : X) → P x → All P (x ∷ [])
of_one P x p = All-cons P x [] p (All-nil P)

-- what is true of each of two
of_two : {X : Type 0} (P : X → Type 0) (x y : X) → P x → P y → All P (x ∷ y ∷ [])
of_two P x y p q = All-cons P x (y ∷ []) p (of_one P y q)

-- what is true of a pair
of_pair : {X : Type 0} (R : X → X → Type 0) (x y : X) → R x y → AllPairs R (x ∷ y ∷ [])
of_pair R x y r = AllPairs-cons R x (y ∷ []) (of_one (R x) y r) (AllPairs-cons R y [] (All-nil (R y)) (λ i j d below within. let no : ⊥ = omega (arith, within) in absurd no))

pieces_differ : ¬ (second ≡ first)
pieces_differ same = omega (arith, ap (λ p. p.part) same)

fragments_of_two_pieces : AreHeldFragments 70 (head ∷ after ∷ []) both
fragments_of_two_pieces = record {
  have_bytes = of_two (λ f. 0 < f.len) head after (lit< tt) (lit< tt);
  in_order = of_pair (λ f g. end_of f ≤ g.at) head after (lit≤ tt);
  in_file = of_two (λ f. end_of f ≤ 70) head after (lit≤ tt) (lit≤ tt);
  in_piece = of_two (λ f. All (LiesWithin f) both) head after
      (of_two (LiesWithin head) of_first of_second (λ _. lit≤ tt) (λ same. absurd (pieces_differ same)))
      (of_two (LiesWithin after) of_first of_second (λ _. lit≤ tt) (λ _. lit≤ tt));
  one_hold = of_two (λ f. hold_count f.piece both ≡ 1) head after refl refl;
  named = of_two (λ h. 0 < fragment_count h.piece (head ∷ after ∷ [])) of_first of_second (lit< tt) (lit< tt);
}

fragments_of_one_piece : AreHeldFragments 64 (head ∷ tail ∷ []) (of_first ∷ [])
fragments_of_one_piece = record {
  have_bytes = of_two (λ f. 0 < f.len) head tail (lit< tt) (lit< tt);
  in_order = of_pair (λ f g. end_of f ≤ g.at) head tail (lit≤ tt);
  in_file = of_two (λ f. end_of f ≤ 64) head tail (lit≤ tt) (lit≤ tt);
  in_piece = of_two (λ f. All (LiesWithin f) (of_first ∷ [])) head tail
      (of_one (LiesWithin head) of_first (λ _. lit≤ tt)) (of_one (LiesWithin tail) of_first (λ _. lit≤ tt));
  one_hold = of_two (λ f. hold_count f.piece (of_first ∷ []) ≡ 1) head tail refl refl;
  named = of_one (λ h. 0 < fragment_count h.piece (head ∷ tail ∷ [])) of_first (lit< tt);
}

empty_fragment : ¬ AreHeldFragments 70 (frag 0 0 first 0 ∷ []) (of_first ∷ [])
empty_fragment w = omega (arith, w.have_bytes 0 head (lit< tt))

falling : ¬ AreHeldFragments 70 (after ∷ head ∷ []) both
falling w = omega (arith, w.in_order 0 1 head (lit< tt) (lit< tt))

overlapping : ¬ AreHeldFragments 70 (head ∷ frag 9 6 second 0 ∷ []) both
overlapping w = omega (arith, w.in_order 0 1 head (lit< tt) (lit< tt))

past_the_file : ¬ AreHeldFragments 70 (frag 61 10 first 0 ∷ []) (of_first ∷ [])
past_the_file w = omega (arith, w.in_file 0 head (lit< tt))

past_the_longest_file : ¬ AreHeldFragments LONGEST_FILE (frag 1099511627776 1 first 0 ∷ []) (of_first ∷ [])
past_the_longest_file w = omega (arith, w.in_file 0 head (lit< tt))

past_the_piece : ¬ AreHeldFragments 70 (frag 0 10 first 55 ∷ []) (of_first ∷ [])
past_the_piece w = omega (arith, w.in_piece 0 head (lit< tt) 0 of_first (lit< tt) refl)

without_a_hold : ¬ AreHeldFragments 70 (head ∷ after ∷ []) (of_first ∷ [])
without_a_hold w = omega (arith, w.one_hold 1 head (lit< tt))

held_twice : ¬ AreHeldFragments 70 (head ∷ []) (of_first ∷ of_first ∷ [])
held_twice w = omega (arith, w.one_hold 0 head (lit< tt))

hold_without_a_fragment : ¬ AreHeldFragments 70 (head ∷ []) both
hold_without_a_fragment w = omega (arith, w.named 1 of_first (lit< tt))
