-- Fragments in order, joined, are the runs that a read of their marks fetches; and where they stand.
use Rattle.fs_types.proofs.Common.{◌≡◌, ℕ, zero, suc, ◌+◌, ◌-◌, ◌<◌, ◌≤◌, List, [], ◌∷◌, map, fold, length, get_or}
use Rattle.fs_types.proofs.Common.{Option, Some, None, All, All-head, All-tail, All-cons, All-weaker, refl, sym, ap, ◌∙◌, arith, inl, inr}
use Rattle.fs_types.proofs.Common.{cases_lt, cond_both, cond-true, cond-false, and_from, le-leb, lt-ltb, nat_le, nat_lt, none-some, false_from_ne_true}
use Rattle.fs_types.proofs.Common.{and_parts, ltb-true, get_or_past, get_or-map-range_with_len, length-map-range_with_len}
use Rattle.std.specs.Prelude.{AllPairs}
use Rattle.std.proofs.lemmas.List.{ext_get_or}
use Rattle.fs_types.specs.Fragments.{end_of}
use Rattle.fs_types.specs.FragmentMarks.{is_within, mark_at, mark_within}
use Rattle.fs_script.specs.Vocabulary.{Fragment, Mark, runs}
use Rattle.span_list.specs.Spans.{AreSpans, IsSpan}
use Rattle.span_list.proofs.CallerLemmas.{AllPairs-head, AllPairs-tail, IsAhead, mark_at-ahead}
use Rattle.core_machine.specs.ReadRuns.{counted_from, joined_from, with_last}
use Rattle.core_machine.proofs.ReadRuns.{IsFirstPart, cells, runs_to, runs_to-blank, runs_to-part}

-- ---- where fragments in order stand, by their marks

-- at a place within one of some fragments in order is its mark
pub mark_at-member : (fs : List Fragment) (i : ℕ) (d : Fragment) (k : ℕ) → AllPairs (λ f g. end_of f ≤ g.at) fs → i < length fs
    → (get_or fs i d).at ≤ k → k < end_of (get_or fs i d) → mark_at fs k ≡ Some (mark_within (get_or fs i d) k)
mark_at-member [] i d k in_order lt from to = absurd (omega arith)
mark_at-member (f ∷ fs) zero d k in_order lt from to =
    cond-true (is_within f k) _ _ (and_from (nat_le f.at k) (nat_lt k (end_of f)) (le-leb f.at k from) (lt-ltb k (end_of f) to))
mark_at-member (f ∷ fs) (suc i) d k in_order lt from to =
    let ahead : end_of f ≤ (get_or fs i d).at = in_order zero (suc i) d (omega arith) lt in
    cond_both (is_within f k) (Some (mark_within f k)) (mark_at fs k) (λ m. m ≡ Some (mark_within (get_or fs i d) k))
    (λ inside. let end = ltb-true k (end_of f) (and_parts (nat_le f.at k) (nat_lt k (end_of f)) inside).1 in absurd (omega (arith, ahead, from, end)))
    (λ _. mark_at-member fs i d k (λ a b e less within. in_order (suc a) (suc b) e (omega (arith, less)) (omega (arith, within)))
    (omega (arith, lt)) from to)

-- none begins before a place before which no mark stands
pub spans-behind : (fs : List Fragment) (off : ℕ) → AreSpans fs → ((k : ℕ) → k < off → mark_at fs k ≡ None) → All (λ f. off ≤ f.at) fs
spans-behind fs off spans before i d lt = elim (cases_lt (get_or fs i d).at off) [
  | inr behind ↦ behind
  | inl ahead ↦
      let f : Fragment = get_or fs i d in
      let some = (spans.each i d lt).has_bytes in
      absurd (none-some (mark_within f f.at) (sym (before f.at ahead)
      ∙ mark_at-member fs i d f.at spans.in_order lt (omega arith) (omega (arith, some))))
]

-- and none ends behind a place from which on none stands
spans-end : (fs : List Fragment) (end : ℕ) → AreSpans fs → ((k : ℕ) → end ≤ k → mark_at fs k ≡ None) → All (λ f. end_of f ≤ end) fs
spans-end fs end spans none i d lt = elim (cases_lt end (end_of (get_or fs i d))) [
  | inr by ↦ by
  | inl past ↦
      let f : Fragment = get_or fs i d in
      let some = (spans.each i d lt).has_bytes in
      let last : ℕ = end_of f - 1 in
      absurd (none-some (mark_within f last) (sym (none last (omega (arith, past)))
      ∙ mark_at-member fs i d last spans.in_order lt (omega (arith, some)) (omega (arith, some))))
]

-- ---- the runs that they make

module _ (fs : List Fragment) (off to : ℕ) where
  -- the runs up to a place, with the fragments from there on joined behind them, are all runs of the range
  rest-reaches : (rest : List Fragment) (from : ℕ) → off ≤ from → from ≤ to → AreSpans rest → All (λ f. from ≤ f.at) rest
      → All (λ f. end_of f ≤ to) rest → ((k : ℕ) → from ≤ k → mark_at fs k ≡ mark_at rest k)
      → fold with_last (runs_to fs off (from - off)) (map (counted_from off) rest) ≡ runs_to fs off (to - off)
  rest-reaches [] from behind before spans begin end same =
      sym (runs_to-blank fs off (from - off) (to - from) (λ k a b. same k (omega (arith, a, behind))))
      ∙ ap (runs_to fs off) (omega (arith, behind, before))
  rest-reaches (p ∷ rest) from behind before spans begin end same =
      let span : IsSpan p = All-head IsSpan p rest spans.each in
      let begins : from ≤ p.at = All-head (λ f. from ≤ f.at) p rest begin in
      let ends : end_of p ≤ to = All-head (λ f. end_of f ≤ to) p rest end in
      let ahead : All (IsAhead p) rest = AllPairs-head IsAhead p rest spans.in_order in
      let first : IsFirstPart from to fs p = record {
        some = span.has_bytes;
        begin = begins;
        end = ends;
        blank = λ k a b. same k a ∙ mark_at-ahead (p ∷ rest) k (All-cons (λ f. k < f.at) p rest b
            (All-weaker (IsAhead p) (λ f. k < f.at) (λ f is. omega (arith, is, b)) rest ahead));
        marks = λ k a b. same k (omega (arith, a, begins)) ∙ cond-true (is_within p k) _ _
            (and_from (nat_le p.at k) (nat_lt k (end_of p)) (le-leb p.at k a) (lt-ltb k (end_of p) b));
      } in
      ap (λ rs. fold with_last rs (map (counted_from off) rest)) (sym (runs_to-part fs off from to p behind first))
      ∙ rest-reaches rest (end_of p) (omega (arith, behind, begins)) ends
      (record { each = All-tail IsSpan p rest spans.each; in_order = AllPairs-tail IsAhead p rest spans.in_order }) ahead
      (All-tail (λ f. end_of f ≤ to) p rest end)
      (λ k past. same k (omega (arith, past, begins)) ∙ cond-false (is_within p k) _ _ (false_from_ne_true (is_within p k) (λ inside.
      let less = ltb-true k (end_of p) (and_parts (nat_le p.at k) (nat_lt k (end_of p)) inside).1 in absurd (omega (arith, less, past)))))

-- fragments that have these marks from a place on, and none before it, are joined to the runs of the marks
pub joined-runs : (marks : List (Option Mark)) (off : ℕ) (fs : List Fragment) → AreSpans fs → ((k : ℕ) → k < off → mark_at fs k ≡ None)
    → ((k : ℕ) → mark_at fs (off + k) ≡ get_or marks k None) → joined_from off fs ≡ runs marks
joined-runs marks off fs spans before same =
    let to : ℕ = off + length marks in
    let size = length-map-range_with_len (mark_at fs) off (length marks) in
    let none : off - off ≡ 0 = omega arith in
    let past : (k : ℕ) → to ≤ k → mark_at fs k ≡ None = λ k a.
    ap (mark_at fs) (omega (arith, a)) ∙ same (k - off) ∙ get_or_past marks (k - off) None (omega (arith, a)) in
    ap (λ n. fold with_last (runs_to fs off n) (map (counted_from off) fs)) (sym none)
    ∙ rest-reaches fs off to fs off (omega arith) (omega arith) spans (spans-behind fs off spans before) (spans-end fs to spans past)
    (λ k _. refl)
    ∙ ap (runs_to fs off) (omega arith)
    ∙ ap runs (ext_get_or None (cells fs off (length marks)) marks size (λ k below.
    get_or-map-range_with_len (mark_at fs) off (length marks) k (off + k) None (omega (arith, below, size)) refl ∙ same k))
