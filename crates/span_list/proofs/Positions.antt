-- How many fragments end by a place, or begin before it, and what the others are.
use Rattle.std.specs.List.{position_or_len}
use Rattle.std.specs.List.Sorted.{IsPartitionPoint, IsPartitionedBy}
use Rattle.fs_types.proofs.Common.{◌≡◌, ℕ, suc, ◌+◌, ◌-◌, ◌<◌, ◌≤◌, List, [], ◌∷◌, ◌++◌, All, flat_map, arith, length, refl, ap, ◌∙◌}
use Rattle.fs_types.proofs.Common.{All-head, All-tail, All-cons, All-weaker, ltb-true, ltb-false, leb-true, cond_both, Bool, true, false}
use Rattle.fs_types.proofs.Common.{not, take, drop, sym, subst}
use Rattle.fs_types.proofs.Common.{slice_get, cases_eq, inl, inr, nat_tests, append-nil, cases_lt, cond-true, cond-false}
use Rattle.fs_types.proofs.Common.{true≢false, length-append}
use Rattle.std.specs.Option.{option_to_list}
use Rattle.std.proofs.lemmas.Bool.{not-true, not-false, leb-false}
use Rattle.std.proofs.lemmas.List.Sums.{prefix_len_is}
use Rattle.fs_types.specs.Fragments.{end_of}
use Rattle.fs_types.specs.Pieces.{Fragment, Piece}
use Rattle.span_list.specs.Spans.{IsSpan, AreSpans, rest_before, rest_from, begins_from, ends_after, next_fragment}
use Rattle.span_list.proofs.PlainLists.{AllPairs-head, AllPairs-tail}
use Rattle.span_list.proofs.Parts.{before, at_rest_before, at_rest_from, IsAhead}

no_fragment : Fragment
no_fragment = record { at = 0; len = 0; piece = record { line = 0; part = 0 }; from = 0 }

-- a point that parts a list by a test is the first place that passes
pub position_from_point : (q : Fragment → Bool) (fs : List Fragment) (n : ℕ) → n ≤ length fs
    → IsPartitionPoint (λ f. not (q f) ≡ true) (λ f. not (q f) ≡ false) fs n → n ≡ position_or_len q fs
position_from_point q fs n within parted =
    sym (prefix_len_is (λ f. not (q f)) fs n no_fragment within
    (λ k below. parted.0 k no_fragment (omega arith) below)
    (λ inside. parted.1 n no_fragment (omega arith) inside))

-- in a list in order, what ends by a place is in front
pub ended_are_first : (at : ℕ) (fs : List Fragment) → AreSpans fs → IsPartitionedBy (λ f. not (ends_after at f)) fs
ended_are_first at fs spans i j d le within =
    elim (cases_eq i j) [
      | inl same ↦ grind (arith, same)
      | inr differ ↦ let ahead = spans.in_order i j d (omega (arith, differ)) within in grind (arith, nat_tests, ahead)
    ]

-- in a list in order, what begins before a place is in front
pub begun_are_first : (at : ℕ) (fs : List Fragment) → AreSpans fs → IsPartitionedBy (λ f. not (begins_from at f)) fs
begun_are_first at fs spans i j d le within =
    elim (cases_eq i j) [
      | inl same ↦ grind (arith, same)
      | inr differ ↦ let ahead = spans.in_order i j d (omega (arith, differ)) within in grind (arith, nat_tests, ahead)
    ]

-- the first place that passes is the first one, or one behind the first place that passes in the rest
at_position : (P : ℕ → Type 0) (q : Fragment → Bool) (f : Fragment) (fs : List Fragment)
    → (q f ≡ true → P 0) → (q f ≡ false → P (suc (position_or_len q fs))) → P (position_or_len q (f ∷ fs))
at_position P q f fs here later =
    cond_both (not (q f)) (1 + position_or_len q fs) 0 P
    (λ e. let one : suc (position_or_len q fs) ≡ 1 + position_or_len q fs = omega arith in subst P one (later (not-true (q f) e)))
    (λ e. here (not-false (q f) e))

AreSpans-tail : (f : Fragment) (fs : List Fragment) → AreSpans (f ∷ fs) → AreSpans fs
AreSpans-tail f fs spans = record {
  each = All-tail IsSpan f fs spans.each;
  in_order = AllPairs-tail IsAhead f fs spans.in_order;
}

-- nothing stands before a place from which on all begin
pub rests_before-begun : (at : ℕ) (fs : List Fragment) → All (λ f. at ≤ f.at) fs → flat_map (rest_before at) fs ≡ []
rests_before-begun at [] begin = refl
rests_before-begun at (f ∷ fs) begin =
    let here : at ≤ f.at = All-head (λ f. at ≤ f.at) f fs begin in
    let rest = rests_before-begun at fs (All-tail (λ f. at ≤ f.at) f fs begin) in
    at_rest_before (λ us. us ++ flat_map (rest_before at) fs ≡ []) at f (λ _. rest) (λ begun. absurd (omega arith))

abbrev fragment : ℕ → ℕ → Piece → ℕ → Fragment
fragment at len piece from = record { at = at; len = len; piece = piece; from = from }

-- a fragment that ends by a place stands whole before it
whole_before : (at : ℕ) (f : Fragment) → 0 < f.len → end_of f ≤ at → rest_before at f ≡ f ∷ []
whole_before at f some ends =
    at_rest_before (λ us. us ≡ f ∷ []) at f (λ from. absurd (omega arith))
    (λ begun. ap (λ (n : ℕ). fragment f.at n f.piece f.from ∷ []) (omega arith))

-- a fragment that begins from a place on stands whole from there on
whole_from : (at : ℕ) (f : Fragment) → 0 < f.len → at ≤ f.at → rest_from at f ≡ f ∷ []
whole_from at f some begins =
    at_rest_from (λ us. us ≡ f ∷ []) at f (λ ends. absurd (omega arith))
    (λ ends. ap (λ (n : ℕ). fragment n (end_of f - n) f.piece (f.from + (n - f.at)) ∷ []) (omega arith)
    ∙ ap (λ (n : ℕ). fragment f.at n f.piece (f.from + (f.at - f.at)) ∷ []) (omega arith)
    ∙ ap (λ (n : ℕ). fragment f.at f.len f.piece n ∷ []) (omega arith))

pub rests_from-begun : (at : ℕ) (fs : List Fragment) → All IsSpan fs → All (λ f. at ≤ f.at) fs → flat_map (rest_from at) fs ≡ fs
rests_from-begun at [] spans begin = refl
rests_from-begun at (f ∷ fs) spans begin =
    let span : IsSpan f = All-head IsSpan f fs spans in
    let rest = rests_from-begun at fs (All-tail IsSpan f fs spans) (All-tail (λ f. at ≤ f.at) f fs begin) in
    ap (λ us. us ++ flat_map (rest_from at) fs) (whole_from at f span.has_bytes (All-head (λ f. at ≤ f.at) f fs begin))
    ∙ ap (λ us. f ∷ us) rest

-- those that end by a place stand whole before it, and nothing of them from there on
pub rests_before-ended : (at : ℕ) (fs : List Fragment) → All IsSpan fs → All (λ f. end_of f ≤ at) fs → flat_map (rest_before at) fs ≡ fs
rests_before-ended at [] spans ends = refl
rests_before-ended at (f ∷ fs) spans ends =
    let span : IsSpan f = All-head IsSpan f fs spans in
    let rest = rests_before-ended at fs (All-tail IsSpan f fs spans) (All-tail (λ f. end_of f ≤ at) f fs ends) in
    ap (λ us. us ++ flat_map (rest_before at) fs) (whole_before at f span.has_bytes (All-head (λ f. end_of f ≤ at) f fs ends))
    ∙ ap (λ us. f ∷ us) rest

pub rests_from-ended : (at : ℕ) (fs : List Fragment) → All (λ f. end_of f ≤ at) fs → flat_map (rest_from at) fs ≡ []
rests_from-ended at [] ends = refl
rests_from-ended at (f ∷ fs) ends =
    let here : end_of f ≤ at = All-head (λ f. end_of f ≤ at) f fs ends in
    let rest = rests_from-ended at fs (All-tail (λ f. end_of f ≤ at) f fs ends) in
    at_rest_from (λ us. us ++ flat_map (rest_from at) fs ≡ []) at f (λ _. rest) (λ ends. absurd (omega arith))

-- fragments of which the first begins from a place on stand whole from there on
all_from_first : (at : ℕ) (f : Fragment) (fs : List Fragment) → AreSpans (f ∷ fs) → at ≤ f.at → flat_map (rest_from at) (f ∷ fs) ≡ f ∷ fs
all_from_first at f fs spans here =
    rests_from-begun at (f ∷ fs) spans.each
    (All-cons (λ g. at ≤ g.at) f fs here
    (All-weaker (IsAhead f) (λ g. at ≤ g.at) (λ g behind. omega (arith, behind)) fs (AllPairs-head IsAhead f fs spans.in_order)))

-- what stands before a place: those that end by it, and the rest of the first one that ends behind it
pub rests_before : (at : ℕ) (fs : List Fragment) → AreSpans fs → let n : ℕ = position_or_len (ends_after at) fs in
    flat_map (rest_before at) fs ≡ take n fs ++ flat_map (rest_before at) (option_to_list (slice_get (drop n fs) 0))
rests_before at [] spans = refl
rests_before at (f ∷ fs) spans =
    let span : IsSpan f = All-head IsSpan f fs spans.each in
    let ahead : All (IsAhead f) fs = AllPairs-head IsAhead f fs spans.in_order in
    at_position (λ n. flat_map (rest_before at) (f ∷ fs)
    ≡ take n (f ∷ fs) ++ flat_map (rest_before at) (option_to_list (slice_get (drop n (f ∷ fs)) 0))) (ends_after at) f fs
    (λ e. ap (λ us. rest_before at f ++ us)
    (rests_before-begun at fs (All-weaker (IsAhead f) (λ g. at ≤ g.at) (λ g behind. omega (arith, behind, ltb-true at (end_of f) e)) fs ahead)))
    (λ e. ap (λ us. us ++ flat_map (rest_before at) fs) (whole_before at f span.has_bytes (ltb-false at (end_of f) e))
    ∙ ap (λ us. f ∷ us) (rests_before at fs (AreSpans-tail f fs spans)))

-- what stands from a place on, of fragments whose first one begins before it
rests_behind : (at : ℕ) (f : Fragment) (fs : List Fragment) → AreSpans (f ∷ fs) → f.at < at
    → let n : ℕ = position_or_len (begins_from at) fs in flat_map (rest_from at) (f ∷ fs)
    ≡ flat_map (rest_from at) (option_to_list (slice_get (f ∷ take n fs) (length (take n fs)))) ++ drop n fs
rests_behind at f [] spans begun = sym (append-nil _)
rests_behind at f (g ∷ gs) spans begun =
    let rest : AreSpans (g ∷ gs) = AreSpans-tail f (g ∷ gs) spans in
    let ahead : end_of f ≤ g.at = All-head (IsAhead f) g gs (AllPairs-head IsAhead f (g ∷ gs) spans.in_order) in
    at_position (λ n. flat_map (rest_from at) (f ∷ g ∷ gs)
    ≡ flat_map (rest_from at) (option_to_list (slice_get (f ∷ take n (g ∷ gs)) (length (take n (g ∷ gs))))) ++ drop n (g ∷ gs))
    (begins_from at) g gs
    (λ e. ap (λ us. rest_from at f ++ us) (all_from_first at g gs rest (leb-true at g.at e))
    ∙ ap (λ us. us ++ (g ∷ gs)) (sym (append-nil _)))
    (λ e. let before : g.at < at = leb-false at g.at e in
    at_rest_from (λ us. us ++ flat_map (rest_from at) (g ∷ gs) ≡ flat_map (rest_from at) (g ∷ gs)) at f (λ _. refl)
    (λ ends. absurd (omega arith))
    ∙ rests_behind at g gs rest before)

-- what stands from a place on: the rest of the last one that begins before it, and those that begin from it on
pub rests_from : (at : ℕ) (fs : List Fragment) → AreSpans fs → let n : ℕ = position_or_len (begins_from at) fs in
    flat_map (rest_from at) fs
    ≡ flat_map (rest_from at) (option_to_list (slice_get (take n fs) (length (take n fs) - 1))) ++ drop n fs
rests_from at [] spans = refl
rests_from at (f ∷ fs) spans =
    at_position (λ n. flat_map (rest_from at) (f ∷ fs)
    ≡ flat_map (rest_from at) (option_to_list (slice_get (take n (f ∷ fs)) (length (take n (f ∷ fs)) - 1))) ++ drop n (f ∷ fs))
    (begins_from at) f fs
    (λ e. all_from_first at f fs spans (leb-true at f.at e))
    (λ e. let n : ℕ = position_or_len (begins_from at) fs in
    let less : length (take n fs) ≡ suc (length (take n fs)) - 1 = omega arith in
    subst (λ i. flat_map (rest_from at) (f ∷ fs) ≡ flat_map (rest_from at) (option_to_list (slice_get (f ∷ take n fs) i)) ++ drop n fs)
    less (rests_behind at f fs spans (leb-false at f.at e)))

-- the next fragment is the first of those that don't end by the place
pub next_fragment_is : (at : ℕ) (fs : List Fragment) → next_fragment at fs ≡ slice_get (drop (position_or_len (ends_after at) fs) fs) 0
next_fragment_is at [] = refl
next_fragment_is at (f ∷ fs) =
    at_position (λ n. next_fragment at (f ∷ fs) ≡ slice_get (drop n (f ∷ fs)) 0) (ends_after at) f fs
    (λ e. cond-true (ends_after at f) _ _ e) (λ e. cond-false (ends_after at f) _ _ e ∙ next_fragment_is at fs)

-- where each that passes one test passes another, the first to pass the other comes no later
position-le : (q r : Fragment → Bool) → ((f : Fragment) → r f ≡ true → q f ≡ true) → (fs : List Fragment)
    → position_or_len q fs ≤ position_or_len r fs
position-le q r passes [] = omega arith
position-le q r passes (f ∷ fs) =
    at_position (λ n. position_or_len q (f ∷ fs) ≤ n) r f fs
    (λ e. at_position (λ m. m ≤ 0) q f fs (λ _. omega arith) (λ fails. absurd (true≢false (sym (passes f e) ∙ fails))))
    (λ _. at_position (λ m. m ≤ suc (position_or_len r fs)) q f fs (λ _. omega arith) (λ _. omega (arith, position-le q r passes fs)))

-- those that end by a place all begin before a later one
pub ended_within_begun : (at to : ℕ) (fs : List Fragment) → at < to
    → position_or_len (ends_after at) fs ≤ position_or_len (begins_from to) fs
ended_within_begun at to fs before =
    position-le (ends_after at) (begins_from to) (λ f begins. grind (arith, nat_tests, begins, before)) fs

length-before-le : (at : ℕ) (f : Fragment) → length (rest_before at f) ≤ 1
length-before-le at f = at_rest_before (λ us. length us ≤ 1) at f (λ _. omega arith) (λ _. omega arith)

length-from-le : (at : ℕ) (f : Fragment) → length (rest_from at f) ≤ 1
length-from-le at f = at_rest_from (λ us. length us ≤ 1) at f (λ _. omega arith) (λ _. omega arith)

-- what stands from a place on are no more than there were
length-rests_from-le : (at : ℕ) (fs : List Fragment) → length (flat_map (rest_from at) fs) ≤ length fs
length-rests_from-le at [] = omega arith
length-rests_from-le at (f ∷ fs) =
    omega (arith, length-append (rest_from at f) (flat_map (rest_from at) fs), length-from-le at f, length-rests_from-le at fs)

-- Of fragments in order, one at most stands both before a place and from a later one on.
pub length-rests-le : (at to : ℕ) (fs : List Fragment) → AreSpans fs → at < to
    → length (flat_map (rest_before at) fs) + length (flat_map (rest_from to) fs) ≤ length fs + 1
length-rests-le at to [] spans before = omega arith
length-rests-le at to (f ∷ fs) spans before =
    let of_before = length-append (rest_before at f) (flat_map (rest_before at) fs) in
    let of_from = length-append (rest_from to f) (flat_map (rest_from to) fs) in
    elim (cases_lt at (end_of f)) [
      | inl ends ↦
          let ahead = AllPairs-head IsAhead f fs spans.in_order in
          let none = rests_before-begun at fs (All-weaker (IsAhead f) (λ g. at ≤ g.at) (λ g behind. omega (arith, behind)) fs ahead) in
          omega (arith, of_before, of_from, ap length none, length-before-le at f, length-from-le to f, length-rests_from-le to fs)
      | inr ended ↦
          let gone = at_rest_from (λ us. length us ≡ 0) to f (λ _. refl) (λ ends. absurd (omega arith)) in
          omega (arith, of_before, of_from, gone, length-before-le at f, length-rests-le at to fs (AreSpans-tail f fs spans) before)
    ]
