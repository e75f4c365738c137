-- The parts of fragments in a range, one after the other.
use Rattle.fs_types.proofs.Common.{◌≡◌, ℕ, ◌<◌, ◌≤◌, max, min, List, [], ◌∷◌, ◌++◌, All, All-head, All-tail, All-weaker, Option, Some, None}
use Rattle.fs_types.proofs.Common.{arith, nat_tests, refl, ap, sym, ◌∙◌, cond_both, subst, same_Some, ltb-true, ltb-false, cases_lt, inl, inr}
use Rattle.fs_types.proofs.Common.{append-nil, get_or}
use Rattle.std.specs.Prelude.{MatchOption}
use Rattle.std.specs.List.{flat_map}
use Rattle.std.specs.Option.{option_to_list}
use Rattle.std.proofs.lemmas.Grind.{flat_map-append}
use Rattle.fs_types.specs.Fragments.{end_of}
use Rattle.fs_types.specs.Pieces.{Fragment}
use Rattle.span_list.specs.Spans.{AreSpans, IsSpan, cut_fragments, ends_after, next_fragment, rest_before, rest_from}
use Rattle.span_list.proofs.CallerLemmas.{All-flat_map, All-rest_before, All-rest_from, AreSpans-cut, AreSpans-from, AllPairs-head, AllPairs-tail}
use Rattle.span_list.proofs.CallerLemmas.{IsAhead, IsNext-found, IsSpan-found, at_rest_before, at_rest_from, before, cut_ends, ended-none}
use Rattle.span_list.proofs.CallerLemmas.{from_on, mark_at-cut, mark_at-from, rests_from-begun, rests_from-ended}
use Rattle.owner_book.specs.LookupLaws.{PartsAreInRange}
use Rattle.owner_book.specs.Lookups.{NameRange, parts_in}

-- ---- what of one fragment stands in a range

abbrev pub part_in : ℕ → ℕ → Fragment → List Fragment
part_in from to f = flat_map (rest_from from) (rest_before to f)

-- the part, where something stands there
abbrev pub part_of : ℕ → ℕ → Fragment → Fragment
part_of from to f = from_on from (before to f)

-- something does where the range and the fragment have a place in common
pub at_part : (P : List Fragment → Type 0) (from to : ℕ) (f : Fragment) → 0 < f.len → (min to (end_of f) ≤ max from f.at → P [])
    → (max from f.at < min to (end_of f) → P (part_of from to f ∷ [])) → P (part_in from to f)
at_part P from to f some none one =
    at_rest_before (λ xs. P (flat_map (rest_from from) xs)) to f (λ past. none (omega (arith, past)))
    (λ begun.
    at_rest_from (λ xs. P (xs ++ [])) from (before to f) (λ ended. none (omega (arith, ended, begun)))
    (λ ends. one (omega (arith, ends, begun, some))))

part-ended : (from to : ℕ) (f : Fragment) → end_of f ≤ from → part_in from to f ≡ []
part-ended from to f ended =
    at_rest_before (λ xs. flat_map (rest_from from) xs ≡ []) to f (λ _. refl)
    (λ begun. at_rest_from (λ xs. xs ++ [] ≡ []) from (before to f) (λ _. refl) (λ ends. absurd (omega (arith, ends, ended))))

-- ---- what of all does

pub parts-cons : (from to : ℕ) (f : Fragment) (fs : List Fragment) → parts_in from to (f ∷ fs) ≡ part_in from to f ++ parts_in from to fs
parts-cons from to f fs = flat_map-append (rest_from from) (rest_before to f) (cut_fragments to fs)

-- one that ends by the begin of the range has no part
parts-skip : (from to : ℕ) (f : Fragment) (fs : List Fragment) → end_of f ≤ from → parts_in from to (f ∷ fs) ≡ parts_in from to fs
parts-skip from to f fs ended = parts-cons from to f fs ∙ ap (λ xs. xs ++ parts_in from to fs) (part-ended from to f ended)

-- where all do there are none, and where the range has no place
parts-ended : (from to : ℕ) (fs : List Fragment) → All (λ f. end_of f ≤ from) fs → parts_in from to fs ≡ []
parts-ended from to [] ended = refl
parts-ended from to (f ∷ fs) ended =
    parts-skip from to f fs (All-head (λ f. end_of f ≤ from) f fs ended)
    ∙ parts-ended from to fs (All-tail (λ f. end_of f ≤ from) f fs ended)

parts-empty : (from to : ℕ) (fs : List Fragment) → to ≤ from → parts_in from to fs ≡ []
parts-empty from to fs le = rests_from-ended from (cut_fragments to fs)
    (All-weaker (λ f. end_of f ≤ to) (λ f. end_of f ≤ from) (λ f end. omega (arith, end, le)) (cut_fragments to fs) (cut_ends to fs))

-- where all begin from the begin of the range on, the begin cuts off nothing
parts-begun : (from to : ℕ) (fs : List Fragment) → AreSpans fs → All (λ f. from ≤ f.at) fs → parts_in from to fs ≡ cut_fragments to fs
parts-begun from to fs spans begins =
    rests_from-begun from (cut_fragments to fs) (AreSpans-cut to fs spans).each (All-flat_map (λ f. from ≤ f.at) (rest_before to) fs
    (All-weaker (λ f. from ≤ f.at) (λ f. All (λ g. from ≤ g.at) (rest_before to f))
    (λ f begun. All-rest_before (λ g. from ≤ g.at) to f (λ _. begun)) fs begins))

-- an end behind that of the range leaves out nothing
parts-capped : (from to : ℕ) (fs : List Fragment) → parts_in from to fs ≡ parts_in (min to from) to fs
parts-capped from to fs = elim (cases_lt from to) [
  | inl before ↦ let same : from ≡ min to from = omega (arith, before) in ap (λ (a : ℕ). parts_in a to fs) same
  | inr past ↦ parts-empty from to fs (omega (arith, past)) ∙ sym (parts-empty (min to from) to fs (omega (arith, past)))
]

-- what of the first fragment that ends in the range or behind it stands there comes first, and then the parts from its end on
parts-next : (from to : ℕ) (fs : List Fragment) (g : Fragment) → AreSpans fs → next_fragment from fs ≡ Some g
    → parts_in from to fs ≡ part_in from to g ++ parts_in (end_of g) to fs
parts-next from to [] g spans found = absurd cc
parts-next from to (f ∷ fs) g spans found =
    let rest : AreSpans fs = record { each = All-tail IsSpan f fs spans.each; in_order = AllPairs-tail IsAhead f fs spans.in_order } in
    let ahead : All (IsAhead f) fs = AllPairs-head IsAhead f fs spans.in_order in
    cond_both (ends_after from f) (Some f) (next_fragment from fs)
    (λ o. o ≡ Some g → parts_in from to (f ∷ fs) ≡ part_in from to g ++ parts_in (end_of g) to (f ∷ fs))
    (λ ends same.
    let behind = ltb-true from (end_of f) ends in
    let on : All (λ h. from ≤ h.at) fs = All-weaker (IsAhead f) (λ h. from ≤ h.at) (λ h begins. omega (arith, begins, behind)) fs ahead in
    subst (λ h. parts_in from to (f ∷ fs) ≡ part_in from to h ++ parts_in (end_of h) to (f ∷ fs)) (same_Some f g same)
    (parts-cons from to f fs ∙ ap (λ xs. part_in from to f ++ xs)
    (parts-begun from to fs rest on ∙ sym (parts-begun (end_of f) to fs rest ahead) ∙ sym (parts-skip (end_of f) to f fs (omega arith)))))
    (λ ended later.
    let end = ltb-false from (end_of f) ended in
    let past = (IsNext-found from fs g later).ends_after in
    parts-skip from to f fs (omega (arith, end)) ∙ parts-next from to fs g rest later
    ∙ ap (λ xs. part_in from to g ++ xs) (sym (parts-skip (end_of g) to f fs (omega (arith, end, past)))))
    found

-- ---- the first part

pub parts-none : (from to : ℕ) (fs : List Fragment) → next_fragment from fs ≡ None → parts_in from to fs ≡ []
parts-none from to fs none = parts-ended from to fs (ended-none from fs none)

-- what is left of a fragment once both ends of a range cut it is what of it stands there
pub part-is : (from to : ℕ) (f b : Fragment) (part : Option Fragment) → b ∷ [] ≡ rest_before to f → option_to_list part ≡ rest_from from b
    → option_to_list part ≡ part_in from to f
part-is from to f b part cut is = is ∙ sym (append-nil (rest_from from b)) ∙ ap (flat_map (rest_from from)) cut

module _ (from to : ℕ) (fs : List Fragment) (f : Fragment) (spans : AreSpans fs) (found : next_fragment from fs ≡ Some f) where
  some : 0 < f.len
  some = (IsSpan-found from fs f spans found).has_bytes

  -- it is the first part, and where nothing of it stands there are no parts
  pub parts-first : (part : Option Fragment) → option_to_list part ≡ part_in from to f
      → MatchOption part (parts_in from to fs ≡ []) (λ r. parts_in from to fs ≡ r ∷ parts_in (end_of r) to fs)
  parts-first None is =
      let past = (IsNext-found from fs f found).ends_after in
      let out : to ≤ end_of f = at_part (λ xs. [] ≡ xs → to ≤ end_of f) from to f some
      (λ none _. omega (arith, none, past, some)) (λ _ no. absurd cc) is in
      parts-next from to fs f spans found ∙ ap (λ xs. xs ++ parts_in (end_of f) to fs) (sym is) ∙ parts-empty (end_of f) to fs out
  parts-first (Some r) is =
      let end : min to (end_of f) ≡ end_of r = at_part (λ xs. r ∷ [] ≡ xs → min to (end_of f) ≡ end_of r) from to f some (λ _ no. absurd cc)
      (λ one same. omega (arith, one, ap (λ (xs : List Fragment). end_of (get_or xs 0 r)) same)) is in
      parts-next from to fs f spans found ∙ ap (λ xs. xs ++ parts_in (end_of f) to fs) (sym is)
      ∙ ap (λ xs. r ∷ xs) (parts-capped (end_of f) to fs ∙ ap (λ (e : ℕ). parts_in e to fs) end)

-- ---- where the parts stand, and their marks

pub parts-spans : (from to : ℕ) (fs : List Fragment) → AreSpans fs → AreSpans (parts_in from to fs)
parts-spans from to fs spans = AreSpans-from from (cut_fragments to fs) (AreSpans-cut to fs spans)

pub parts-in_range : PartsAreInRange
parts-in_range from to fs spans =
    let Within : Fragment → Type 0 = λ f. (from ≤ f.at) × (end_of f ≤ to) in
    record {
      spans = parts-spans from to fs spans;
      within = All-flat_map Within (rest_from from) (cut_fragments to fs)
          (All-weaker (λ f. end_of f ≤ to) (λ f. All Within (rest_from from f))
          (λ f end. All-rest_from Within from f (λ ends. (omega arith, omega (arith, end, ends)))) (cut_fragments to fs) (cut_ends to fs));
    }

pub parts-marks : (from to : ℕ) (fs : List Fragment) → NameRange from to fs (parts_in from to fs)
parts-marks from to fs k = mark_at-from from (cut_fragments to fs) k ∙ grind (arith, nat_tests, mark_at-cut to fs k)
