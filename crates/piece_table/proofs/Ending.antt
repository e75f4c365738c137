-- How many fragments end in a range: at most as many lie whole in it, and a put in front of it adds none.
use Rattle.fs_types.proofs.Common.{◌≡◌, ℕ, ◌+◌, ◌<◌, ◌≤◌, cond, zero, suc, drop, List, [], ◌∷◌, Some, None, All}
use Rattle.fs_types.proofs.Common.{All-head, All-tail, All-weaker, length, flat_map}
use Rattle.fs_types.proofs.Common.{◌&&◌, nat_lt, nat_le, arith, nat_tests, refl, ap, ◌∙◌, subst, same_Some, cond_both, sum_by-cons}
use Rattle.fs_types.proofs.Common.{count_by-le-length, ltb-true, ltb-false}
use Rattle.std.proofs.lemmas.List.Sums.{length-filter, sum_by-append}
use Rattle.fs_types.specs.Fragments.{end_of}
use Rattle.fs_types.specs.Pieces.{Fragment}
use Rattle.fs_types.specs.declared.limits.TheConstants.{LONGEST_FILE}
use Rattle.span_list.specs.Spans.{IsSpan, AreSpans, rest_before, rest_from, ends_after, next_fragment, put_fragment}
use Rattle.span_list.proofs.CallerLemmas.{IsAhead, at_rest_before, at_rest_from, before, from_on}
use Rattle.piece_table.specs.Ranges.{covered, is_covered, ends_within, ending_count, ends_under}
use Rattle.piece_table.proofs.Covered.{AreSpans-head, AreSpans-tail, AreSpans-ahead, few, next_ends}

-- one where a fragment ends in a range
abbrev ending : ℕ → ℕ → Fragment → ℕ
ending at end f = cond (ends_within at end f) 1 0

ending-cons : (at end : ℕ) (f : Fragment) (fs : List Fragment) → ending_count at end (f ∷ fs) ≡ ending at end f + ending_count at end fs
ending-cons at end f fs = sum_by-cons (ending at end) f fs

one_within : (at end : ℕ) (f : Fragment) → at < end_of f → end_of f ≤ end → ending at end f ≡ 1
one_within at end f behind ends = grind (arith, nat_tests)

none_ended : (at end : ℕ) (f : Fragment) → end_of f ≤ at → ending at end f ≡ 0
none_ended at end f ended = grind (arith, nat_tests)

none_past : (at end : ℕ) (f : Fragment) → end < end_of f → ending at end f ≡ 0
none_past at end f past = grind (arith, nat_tests)

-- where no fragment ends behind the place, none ends in the range
pub ending_none : (at end : ℕ) (fs : List Fragment) → next_fragment at fs ≡ None → ending_count at end fs ≡ 0
ending_none at end [] none = refl
ending_none at end (f ∷ fs) none =
    cond_both (ends_after at f) (Some f) (next_fragment at fs) (λ o. o ≡ None → ending_count at end (f ∷ fs) ≡ 0)
    (λ ends some. absurd cc)
    (λ ended rest.
    let end_here = ltb-false at (end_of f) ended in
    omega (arith, ending-cons at end f fs, none_ended at end f (omega arith), ending_none at end fs rest))
    none

-- fragments that all begin behind a place end behind it
ending_ahead : (at to end : ℕ) (fs : List Fragment) → All IsSpan fs → All (λ f. to ≤ f.at) fs → at ≤ to
    → ending_count at end fs ≡ ending_count to end fs
ending_ahead at to end [] each ahead le = refl
ending_ahead at to end (f ∷ fs) each ahead le =
    let some : 0 < f.len = (All-head IsSpan f fs each).has_bytes in
    let here : to ≤ f.at = All-head (λ f. to ≤ f.at) f fs ahead in
    let same : ending at end f ≡ ending to end f = grind (arith, nat_tests) in
    omega (
      arith,
      same,
      ending-cons at end f fs,
      ending-cons to end f fs,
      ending_ahead at to end fs (All-tail IsSpan f fs each) (All-tail (λ f. to ≤ f.at) f fs ahead) le,
    )

-- and past it
ending_past : (at end : ℕ) (fs : List Fragment) → All IsSpan fs → All (λ f. end ≤ f.at) fs → ending_count at end fs ≡ 0
ending_past at end [] each ahead = refl
ending_past at end (f ∷ fs) each ahead =
    let some : 0 < f.len = (All-head IsSpan f fs each).has_bytes in
    let here : end ≤ f.at = All-head (λ f. end ≤ f.at) f fs ahead in
    omega (
      arith,
      ending-cons at end f fs,
      none_past at end f (omega arith),
      ending_past at end fs (All-tail IsSpan f fs each) (All-tail (λ f. end ≤ f.at) f fs ahead),
    )

-- the next fragment from the place on is the first that ends in the range, if it ends there
pub ending_next : (at end : ℕ) (fs : List Fragment) (g : Fragment) → AreSpans fs → next_fragment at fs ≡ Some g → end_of g ≤ end
    → ending_count at end fs ≡ 1 + ending_count (end_of g) end fs
ending_next at end [] g spans found ends = absurd cc
ending_next at end (f ∷ fs) g spans found ends =
    cond_both (ends_after at f) (Some f) (next_fragment at fs)
    (λ o. o ≡ Some g → ending_count at end (f ∷ fs) ≡ 1 + ending_count (end_of g) end (f ∷ fs))
    (λ after same.
    let same : f ≡ g = same_Some f g same in
    subst (λ (h : Fragment). ending_count at end (f ∷ fs) ≡ 1 + ending_count (end_of h) end (f ∷ fs)) same
    (let behind = ltb-true at (end_of f) after in
    let ended : end_of f ≤ end = omega (arith, ends, ap end_of same) in
    omega (
      arith,
      ending-cons at end f fs,
      one_within at end f (omega arith) ended,
      ending-cons (end_of f) end f fs,
      none_ended (end_of f) end f (omega arith),
      ending_ahead at (end_of f) end fs (AreSpans-tail f fs spans).each (AreSpans-ahead f fs spans) (omega arith),
    )))
    (λ before rest.
    let ended = ltb-false at (end_of f) before in
    let past : at < end_of g = next_ends at fs g rest in
    omega (
      arith,
      ending-cons at end f fs,
      none_ended at end f (omega arith),
      ending-cons (end_of g) end f fs,
      none_ended (end_of g) end f (omega arith),
      ending_next at end fs g (AreSpans-tail f fs spans) rest ends,
    ))
    found

-- where it doesn't, none ends there
pub ending_beyond : (at end : ℕ) (fs : List Fragment) (g : Fragment) → AreSpans fs → next_fragment at fs ≡ Some g → end < end_of g
    → ending_count at end fs ≡ 0
ending_beyond at end [] g spans found past = refl
ending_beyond at end (f ∷ fs) g spans found past =
    cond_both (ends_after at f) (Some f) (next_fragment at fs) (λ o. o ≡ Some g → ending_count at end (f ∷ fs) ≡ 0)
    (λ after same.
    let same : end_of f ≡ end_of g = ap end_of (same_Some f g same) in
    omega (
      arith,
      ending-cons at end f fs,
      none_past at end f (omega arith),
      ending_past at end fs (AreSpans-tail f fs spans).each
          (All-weaker (IsAhead f) (λ h. end ≤ h.at) (λ h ahead. omega (arith, ahead)) fs (AreSpans-ahead f fs spans)),
    ))
    (λ before rest.
    let ended = ltb-false at (end_of f) before in
    omega (
      arith,
      ending-cons at end f fs,
      none_ended at end f (omega arith),
      ending_beyond at end fs g (AreSpans-tail f fs spans) rest past,
    ))
    found

pub few_ending : (at end : ℕ) (fs : List Fragment) → AreSpans fs → ending_count at end fs ≤ LONGEST_FILE
few_ending at end fs spans = omega (arith, count_by-le-length (ends_within at end) fs, few fs spans)

-- what lies whole in a range ends in it
pub covered_ends : (at end : ℕ) (fs : List Fragment) → All IsSpan fs → length (covered at end fs) ≤ ending_count at end fs
covered_ends at end [] each = omega arith
covered_ends at end (f ∷ fs) each =
    let some : 0 < f.len = (All-head IsSpan f fs each).has_bytes in
    let one : cond (is_covered at end f) 1 0 ≤ ending at end f = grind (arith, nat_tests) in
    omega (
      arith,
      one,
      length-filter (is_covered at end) (f ∷ fs),
      sum_by-cons (λ g. cond (is_covered at end g) 1 0) f fs,
      length-filter (is_covered at end) fs,
      ending-cons at end f fs,
      covered_ends at end fs (All-tail IsSpan f fs each),
    )

-- what ends in a range ends in one that has all its bytes; what ends in each of two that follow one another ends in both
pub ending_split : (from at middle end : ℕ) (fs : List Fragment) → from ≤ at → at ≤ middle → middle ≤ end
    → ending_count at middle fs + ending_count middle end fs ≤ ending_count from end fs
ending_split from at middle end [] le rises ends = omega arith
ending_split from at middle end (f ∷ fs) le rises ends =
    let one : ending at middle f + ending middle end f ≤ ending from end f = grind (arith, nat_tests) in
    omega (
      arith,
      one,
      ending-cons at middle f fs,
      ending-cons middle end f fs,
      ending-cons from end f fs,
      ending_split from at middle end fs le rises ends,
    )

-- what stands before the range ends before it
rests_before : (place at end : ℕ) (fs : List Fragment) → place ≤ at → ending_count at end (flat_map (rest_before place) fs) ≡ 0
rests_before place at end [] le = refl
rests_before place at end (f ∷ fs) le =
    let one : ending_count at end (rest_before place f) ≡ 0 =
    at_rest_before (λ us. ending_count at end us ≡ 0) place f (λ begins. refl)
    (λ begun. ending-cons at end (before place f) [] ∙ ap (λ n. n + 0) (none_ended at end (before place f) (omega arith))) in
    omega (
      arith,
      one,
      sum_by-append (ending at end) (rest_before place f) (flat_map (rest_before place) fs),
      rests_before place at end fs le,
    )

-- what stands from a place on ends where it did
rests_from : (place at end : ℕ) (fs : List Fragment) → place ≤ at
    → ending_count at end (flat_map (rest_from place) fs) ≤ ending_count at end fs
rests_from place at end [] le = omega arith
rests_from place at end (f ∷ fs) le =
    let one : ending_count at end (rest_from place f) ≤ ending at end f =
    at_rest_from (λ us. ending_count at end us ≤ ending at end f) place f (λ ended. omega arith)
    (λ ends.
    let same : end_of (from_on place f) ≡ end_of f = omega arith in
    omega (
      arith,
      ending-cons at end (from_on place f) [],
      ap {B = ℕ} (λ n. cond (nat_lt at n && nat_le n end) 1 0) same,
    )) in
    omega (
      arith,
      one,
      sum_by-append (ending at end) (rest_from place f) (flat_map (rest_from place) fs),
      ending-cons at end f fs,
      rests_from place at end fs le,
    )

-- a put in front of the range leaves at most as many that end in it
pub ending_put : (at end : ℕ) (f : Fragment) (fs : List Fragment) → 0 < f.len → end_of f ≤ at
    → ending_count at end (put_fragment f fs) ≤ ending_count at end fs
ending_put at end f fs some le =
    let behind = flat_map (rest_from (end_of f)) fs in
    omega (
      arith,
      sum_by-append (ending at end) (flat_map (rest_before f.at) fs) (f ∷ behind),
      rests_before f.at at end fs (omega arith),
      ending-cons at end f behind,
      none_ended at end f le,
      rests_from (end_of f) at end fs le,
    )

pub under-cons : (f : Fragment) (over fs : List Fragment) → ends_under (f ∷ over) fs ≡ ending_count f.at (end_of f) fs + ends_under over fs
under-cons f over fs = sum_by-cons (λ (g : Fragment). ending_count g.at (end_of g) fs) f over

-- what lies whole in the range of the first ends there
pub covered_under : (f : Fragment) (over fs : List Fragment) → All IsSpan fs
    → length (covered f.at (end_of f) fs) + ends_under over fs ≤ ends_under (f ∷ over) fs
covered_under f over fs each = omega (arith, under-cons f over fs, covered_ends f.at (end_of f) fs each)

-- putting one in front of these leaves at most as many that end in their ranges
pub under_put : (f : Fragment) (over fs : List Fragment) → 0 < f.len → All (IsAhead f) over
    → ends_under over (put_fragment f fs) ≤ ends_under over fs
under_put f [] fs some ahead = omega arith
under_put f (g ∷ over) fs some ahead =
    let here : end_of f ≤ g.at = All-head (IsAhead f) g over ahead in
    omega (
      arith,
      under-cons g over (put_fragment f fs),
      under-cons g over fs,
      ending_put g.at (end_of g) f fs some here,
      under_put f over fs some (All-tail (IsAhead f) g over ahead),
    )

-- ranges that lie one behind the other have at most as many ends of fragments as there are fragments
under_from : (at : ℕ) (over fs : List Fragment) → AreSpans over → All (λ f. at ≤ f.at) over → ends_under over fs ≤ ending_count at LONGEST_FILE fs
under_from at [] fs spans ahead = omega arith
under_from at (f ∷ over) fs spans ahead =
    let span : IsSpan f = AreSpans-head f over spans in
    let here : at ≤ f.at = All-head (λ f. at ≤ f.at) f over ahead in
    omega (
      arith,
      under-cons f over fs,
      ending_split at f.at (end_of f) LONGEST_FILE fs here (omega arith) span.in_file,
      under_from (end_of f) over fs (AreSpans-tail f over spans) (AreSpans-ahead f over spans),
    )

pub few_under : (over fs : List Fragment) → AreSpans over → AreSpans fs → ends_under over fs ≤ LONGEST_FILE
few_under over fs over_spans spans =
    omega (arith, under_from 0 over fs over_spans (λ k d within. omega arith), few_ending 0 LONGEST_FILE fs spans)

-- the fragments of a list from one on are in order too
pub AreSpans-drop : (i : ℕ) (fs : List Fragment) → AreSpans fs → AreSpans (drop i fs)
AreSpans-drop zero fs spans = spans
AreSpans-drop (suc i) [] spans = spans
AreSpans-drop (suc i) (f ∷ fs) spans = AreSpans-drop i fs (AreSpans-tail f fs spans)
