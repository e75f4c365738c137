-- The fragments of a range: which one is found from a place on, and what lies whole behind it.
use Rattle.std.specs.Prelude.{find}
use Rattle.fs_types.proofs.Common.{◌≡◌, ℕ, ◌+◌, ◌<◌, ◌≤◌, List, [], ◌∷◌, All, All-head, All-tail, arith, refl, ap, sym, ◌∙◌, subst}
use Rattle.fs_types.proofs.Common.{Option, Some, None, IfSome, nat_tests, cond_both, ltb-true, ltb-false, leb-true, length, same_Some, Bool}
use Rattle.fs_types.proofs.Common.{true, false, true≢false, false≢true, is_some, not, IsTrue, cond, All-weaker, lit≤, count_by-le-length}
use Rattle.std.proofs.lemmas.List.Sums.{length-filter}
use Rattle.std.proofs.lemmas.Bool.{leb-false}
use Rattle.fs_types.specs.Fragments.{end_of}
use Rattle.fs_types.specs.Pieces.{Fragment}
use Rattle.fs_types.specs.declared.limits.TheConstants.{LONGEST_FILE}
use Rattle.span_list.specs.Spans.{IsSpan, AreSpans, begins_from, ends_after, next_fragment}
use Rattle.span_list.proofs.CallerLemmas.{AllPairs-head, AllPairs-tail}
use Rattle.span_list.proofs.CallerLemmas.{IsAhead}
use Rattle.piece_table.specs.Ranges.{covered, is_covered, reaching, reaches_past}

module _ (f : Fragment) (fs : List Fragment) (spans : AreSpans (f ∷ fs)) where
  pub AreSpans-head : IsSpan f
  AreSpans-head = All-head IsSpan f fs spans.each

  pub AreSpans-tail : AreSpans fs
  AreSpans-tail = record {
    each = All-tail IsSpan f fs spans.each;
    in_order = AllPairs-tail IsAhead f fs spans.in_order;
  }

  pub AreSpans-ahead : All (IsAhead f) fs
  AreSpans-ahead = AllPairs-head IsAhead f fs spans.in_order

-- what is found may be kept
pub IsSpan-found : (p : Fragment → Bool) (fs : List Fragment) → All IsSpan fs → IfSome (find p fs) IsSpan
IsSpan-found p [] each = tt
IsSpan-found p (f ∷ fs) each =
    cond_both (p f) (Some f) (find p fs) (λ o. IfSome o IsSpan) (λ _. All-head IsSpan f fs each)
    (λ _. IsSpan-found p fs (All-tail IsSpan f fs each))

pub IsSpan-at : (p : Fragment → Bool) (fs : List Fragment) (f : Fragment) → All IsSpan fs → find p fs ≡ Some f → IsSpan f
IsSpan-at p fs f each found = subst (λ o. IfSome o IsSpan) found (IsSpan-found p fs each)

-- what is found ends after the place
pub next_ends : (at : ℕ) (fs : List Fragment) (g : Fragment) → next_fragment at fs ≡ Some g → at < end_of g
next_ends at [] g found = absurd cc
next_ends at (f ∷ fs) g found =
    cond_both (ends_after at f) (Some f) (next_fragment at fs) (λ o. o ≡ Some g → at < end_of g)
    (λ ends same. subst (λ (h : Fragment). at < end_of h) (same_Some f g same) (ltb-true at (end_of f) ends))
    (λ _ rest. next_ends at fs g rest)
    found

-- behind fragments that end by a place none begins from it on
pub none_begun : (at : ℕ) (fs : List Fragment) → AreSpans fs → next_fragment at fs ≡ None → find (begins_from at) fs ≡ None
none_begun at [] spans none = refl
none_begun at (f ∷ fs) spans none =
    let span = AreSpans-head f fs spans in
    cond_both (ends_after at f) (Some f) (next_fragment at fs) (λ o. o ≡ None → find (begins_from at) (f ∷ fs) ≡ None)
    (λ ends some. absurd cc)
    (λ ended rest.
    let end = ltb-false at (end_of f) ended in
    let later = none_begun at fs (AreSpans-tail f fs spans) rest in
    grind (arith, nat_tests))
    none

-- a fragment that doesn't begin before the place is found by that too
pub found_begun : (at : ℕ) (fs : List Fragment) (g : Fragment) → AreSpans fs → next_fragment at fs ≡ Some g → at ≤ g.at
    → find (begins_from at) fs ≡ Some g
found_begun at [] g spans found begins = absurd cc
found_begun at (f ∷ fs) g spans found begins =
    let span = AreSpans-head f fs spans in
    cond_both (ends_after at f) (Some f) (next_fragment at fs) (λ o. o ≡ Some g → find (begins_from at) (f ∷ fs) ≡ Some g)
    (λ ends same.
    let same : f ≡ g = same_Some f g same in
    subst (λ (h : Fragment). find (begins_from at) (h ∷ fs) ≡ Some g) (sym same) (grind (arith, nat_tests)))
    (λ ended rest.
    let end = ltb-false at (end_of f) ended in
    let later = found_begun at fs g (AreSpans-tail f fs spans) rest begins in
    grind (arith, nat_tests))
    found

-- fragments that all begin behind a place are found alike by what begins and by what ends
found_ahead : (at to : ℕ) (fs : List Fragment) → AreSpans fs → All (λ f. to ≤ f.at) fs → at ≤ to
    → find (begins_from at) fs ≡ next_fragment to fs
found_ahead at to [] spans ahead le = refl
found_ahead at to (f ∷ fs) spans ahead le =
    let here : to ≤ f.at = All-head (λ f. to ≤ f.at) f fs ahead in
    let some : 0 < f.len = (AreSpans-head f fs spans).has_bytes in
    grind (arith, nat_tests)

-- behind one that begins before the place the next one begins from it on
pub found_behind : (at : ℕ) (fs : List Fragment) (g : Fragment) → AreSpans fs → next_fragment at fs ≡ Some g → g.at < at
    → find (begins_from at) fs ≡ next_fragment (end_of g) fs
found_behind at [] g spans found before = refl
found_behind at (f ∷ fs) g spans found before =
    cond_both (ends_after at f) (Some f) (next_fragment at fs)
    (λ o. o ≡ Some g → find (begins_from at) (f ∷ fs) ≡ next_fragment (end_of g) (f ∷ fs))
    (λ ends same.
    let same : f ≡ g = same_Some f g same in
    subst (λ (h : Fragment). find (begins_from at) (f ∷ fs) ≡ next_fragment (end_of h) (f ∷ fs)) same
    (let begun : f.at < at = omega (arith, ap (λ h. h.at) same) in
    let end = ltb-true at (end_of f) ends in
    let later = found_ahead at (end_of f) fs (AreSpans-tail f fs spans) (AreSpans-ahead f fs spans) (omega arith) in
    grind (arith, nat_tests)))
    (λ ended rest.
    let end = ltb-false at (end_of f) ended in
    let some : 0 < f.len = (AreSpans-head f fs spans).has_bytes in
    let past : at < end_of g = next_ends at fs g rest in
    let later = found_behind at fs g (AreSpans-tail f fs spans) rest before in
    grind (arith, nat_tests))
    found

found_begins : (at : ℕ) (fs : List Fragment) (g : Fragment) → find (begins_from at) fs ≡ Some g → at ≤ g.at
found_begins at [] g found = absurd cc
found_begins at (f ∷ fs) g found =
    cond_both (begins_from at f) (Some f) (find (begins_from at) fs) (λ o. o ≡ Some g → at ≤ g.at)
    (λ begins same. subst (λ (h : Fragment). at ≤ h.at) (same_Some f g same) (leb-true at f.at begins))
    (λ _ rest. found_begins at fs g rest)
    found

-- where none begins from a place on, none lies whole behind it
pub none_covered : (at end : ℕ) (fs : List Fragment) → find (begins_from at) fs ≡ None → covered at end fs ≡ []
none_covered at end [] none = refl
none_covered at end (f ∷ fs) none =
    cond_both (begins_from at f) (Some f) (find (begins_from at) fs) (λ o. o ≡ None → covered at end (f ∷ fs) ≡ [])
    (λ begins some. absurd cc)
    (λ before rest. let later = none_covered at end fs rest in grind (arith, nat_tests))
    none

-- behind a place from which on all begin, what lies whole is what lies whole from an earlier place on
covered_ahead : (at to end : ℕ) (fs : List Fragment) → All (λ f. to ≤ f.at) fs → at ≤ to → covered at end fs ≡ covered to end fs
covered_ahead at to end [] ahead le = refl
covered_ahead at to end (f ∷ fs) ahead le =
    let here : to ≤ f.at = All-head (λ f. to ≤ f.at) f fs ahead in
    let rest = covered_ahead at to end fs (All-tail (λ f. to ≤ f.at) f fs ahead) le in
    grind (arith, nat_tests)

-- none lies whole behind a place which is not before the end
pub covered_past : (at end : ℕ) (fs : List Fragment) → All IsSpan fs → end ≤ at → covered at end fs ≡ []
covered_past at end [] each le = refl
covered_past at end (f ∷ fs) each le =
    let some : 0 < f.len = (All-head IsSpan f fs each).has_bytes in
    let rest = covered_past at end fs (All-tail IsSpan f fs each) le in
    grind (arith, nat_tests)

-- the first one that begins from the place on is the first that lies whole there, if it ends within the range
pub covered_next : (at end : ℕ) (fs : List Fragment) (g : Fragment) → AreSpans fs → find (begins_from at) fs ≡ Some g → end_of g ≤ end
    → covered at end fs ≡ g ∷ covered (end_of g) end fs
covered_next at end [] g spans found ends = absurd cc
covered_next at end (f ∷ fs) g spans found ends =
    cond_both (begins_from at f) (Some f) (find (begins_from at) fs)
    (λ o. o ≡ Some g → covered at end (f ∷ fs) ≡ g ∷ covered (end_of g) end (f ∷ fs))
    (λ begins same.
    let same : f ≡ g = same_Some f g same in
    subst (λ (h : Fragment). covered at end (f ∷ fs) ≡ h ∷ covered (end_of h) end (f ∷ fs)) same
    (let begun : at ≤ f.at = leb-true at f.at begins in
    let ended : end_of f ≤ end = omega (arith, ends, ap end_of same) in
    let some : 0 < f.len = (AreSpans-head f fs spans).has_bytes in
    let rest = covered_ahead at (end_of f) end fs (AreSpans-ahead f fs spans) (omega arith) in
    grind (arith, nat_tests)))
    (λ before rest.
    let begun : f.at < at = leb-false at f.at before in
    let behind : at ≤ g.at = found_begins at fs g rest in
    let later = covered_next at end fs g (AreSpans-tail f fs spans) rest ends in
    grind (arith, nat_tests))
    found

-- where it doesn't, none lies whole there
pub covered_none : (at end : ℕ) (fs : List Fragment) (g : Fragment) → AreSpans fs → find (begins_from at) fs ≡ Some g → end < end_of g
    → covered at end fs ≡ []
covered_none at end [] g spans found past = refl
covered_none at end (f ∷ fs) g spans found past =
    cond_both (begins_from at f) (Some f) (find (begins_from at) fs) (λ o. o ≡ Some g → covered at end (f ∷ fs) ≡ [])
    (λ begins same.
    let same : end_of f ≡ end_of g = ap end_of (same_Some f g same) in
    let begun : at ≤ f.at = leb-true at f.at begins in
    let rest = covered_ahead at (end_of f) end fs (AreSpans-ahead f fs spans) (omega arith) in
    let none = covered_past (end_of f) end fs (AreSpans-tail f fs spans).each (omega arith) in
    grind (arith, nat_tests))
    (λ before rest.
    let later = covered_none at end fs g (AreSpans-tail f fs spans) rest past in
    grind (arith, nat_tests))
    found

-- fragments in order, each with a byte, are at most as many as the longest file has bytes
few_from : (at : ℕ) (fs : List Fragment) → AreSpans fs → All (λ f. at ≤ f.at) fs → at ≤ LONGEST_FILE → at + length fs ≤ LONGEST_FILE
few_from at [] spans ahead le = omega arith
few_from at (f ∷ fs) spans ahead le =
    let span : IsSpan f = AreSpans-head f fs spans in
    let some = span.has_bytes in
    let here : at ≤ f.at = All-head (λ f. at ≤ f.at) f fs ahead in
    omega (arith, few_from (end_of f) fs (AreSpans-tail f fs spans) (AreSpans-ahead f fs spans) span.in_file)

pub few : (fs : List Fragment) → AreSpans fs → length fs ≤ LONGEST_FILE
few fs spans = omega (arith, few_from 0 fs spans (λ k d within. omega arith) (lit≤ tt))

pub few_covered : (at end : ℕ) (fs : List Fragment) → AreSpans fs → length (covered at end fs) ≤ LONGEST_FILE
few_covered at end fs spans =
    omega (arith, length-filter (is_covered at end) fs, count_by-le-length (is_covered at end) fs, few fs spans)

-- behind a place which none begins before, none reaches past it
none_reaching : (at end : ℕ) (fs : List Fragment) → All (λ f. at ≤ f.at) fs → reaching at end fs ≡ []
none_reaching at end [] ahead = refl
none_reaching at end (f ∷ fs) ahead =
    let here : at ≤ f.at = All-head (λ f. at ≤ f.at) f fs ahead in
    let rest = none_reaching at end fs (All-tail (λ f. at ≤ f.at) f fs ahead) in
    grind (arith, nat_tests)

-- only the first one that ends after a place may reach past it and a later one
pub reaching_next : (at end : ℕ) (fs : List Fragment) (g : Fragment) → AreSpans fs → at ≤ end → next_fragment at fs ≡ Some g
    → reaching at end fs ≡ cond (reaches_past at end g) (g ∷ []) []
reaching_next at end [] g spans le found = absurd cc
reaching_next at end (f ∷ fs) g spans le found =
    cond_both (ends_after at f) (Some f) (next_fragment at fs)
    (λ o. o ≡ Some g → reaching at end (f ∷ fs) ≡ cond (reaches_past at end g) (g ∷ []) [])
    (λ ends same.
    subst (λ (h : Fragment). reaching at end (f ∷ fs) ≡ cond (reaches_past at end h) (h ∷ []) []) (same_Some f g same)
    (let past = ltb-true at (end_of f) ends in
    let none = none_reaching at end fs
    (All-weaker (IsAhead f) (λ g. at ≤ g.at) (λ g ahead. omega (arith, ahead)) fs (AreSpans-ahead f fs spans)) in
    ap (λ us. cond (reaches_past at end f) (f ∷ us) us) none))
    (λ ended rest.
    let past = ltb-false at (end_of f) ended in
    let later = reaching_next at end fs g (AreSpans-tail f fs spans) le rest in
    grind (arith, nat_tests))
    found

pub reaching_none : (at end : ℕ) (fs : List Fragment) → at ≤ end → next_fragment at fs ≡ None → reaching at end fs ≡ []
reaching_none at end [] le none = refl
reaching_none at end (f ∷ fs) le none =
    cond_both (ends_after at f) (Some f) (next_fragment at fs) (λ o. o ≡ None → reaching at end (f ∷ fs) ≡ [])
    (λ ends some. absurd cc)
    (λ ended rest.
    let past = ltb-false at (end_of f) ended in
    let later = reaching_none at end fs le rest in
    grind (arith, nat_tests))
    none

-- which fragments reach past both ends
pub begun_within : (at end : ℕ) (f : Fragment) → at ≤ f.at → reaches_past at end f ≡ false
begun_within at end f begins = grind (arith, nat_tests)

pub ended_within : (at end : ℕ) (f : Fragment) → end_of f ≤ end → reaches_past at end f ≡ false
ended_within at end f ends = grind (arith, nat_tests)

pub reaches : (at end : ℕ) (f : Fragment) → f.at < at → end < end_of f → reaches_past at end f ≡ true
reaches at end f begins ends = grind (arith, nat_tests)

-- all fragments lie whole in the longest file
pub covered_all : (fs : List Fragment) → All IsSpan fs → covered 0 LONGEST_FILE fs ≡ fs
covered_all [] each = refl
covered_all (f ∷ fs) each =
    let in_file : end_of f ≤ LONGEST_FILE = (All-head IsSpan f fs each).in_file in
    let rest = covered_all fs (All-tail IsSpan f fs each) in
    grind (arith, nat_tests)

-- from the begin on there is a next fragment unless there is none
pub next_at_begin : (fs : List Fragment) → All IsSpan fs → next_fragment 0 fs ≡ None → fs ≡ []
next_at_begin [] each none = refl
next_at_begin (f ∷ fs) each none =
    let some : 0 < f.len = (All-head IsSpan f fs each).has_bytes in
    cond_both (ends_after 0 f) (Some f) (next_fragment 0 fs) (λ o. o ≡ None → (f ∷ fs) ≡ [])
    (λ _ found. absurd cc) (λ ended _. let end = ltb-false 0 (end_of f) ended in absurd (omega arith)) none

pub empty_by_next : (fs : List Fragment) → All IsSpan fs → (found : Option Fragment) (empty : Bool) → found ≡ next_fragment 0 fs
    → is_some found ≡ not empty → (IsTrue empty → fs ≡ []) × (fs ≡ [] → IsTrue empty)
empty_by_next fs each found true is test = (λ _. next_at_begin fs each (sym is ∙ unfound found test), λ _. refl)
  where
    unfound : (o : Option Fragment) → is_some o ≡ false → o ≡ None
    unfound None none = refl
    unfound (Some f) none = absurd (true≢false none)
empty_by_next fs each found false is test =
    (λ no. absurd (false≢true no), λ none. absurd (true≢false (sym test ∙ ap is_some (is ∙ ap (next_fragment 0) none))))
