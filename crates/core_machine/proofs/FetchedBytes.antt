-- The bytes that are there as one run after the other is fetched, and that all of them are those of the marks.
use Rattle.std.specs.Prelude.{AllPairs}
use Rattle.fs_types.proofs.Common.{◌≡◌, ℕ, ◌+◌, ◌-◌, ◌<◌, ◌≤◌, ◌∙◌, ◌&&◌, ◌++◌, ◌∷◌, [], List, Some, None, true, arith, sym, ap}
use Rattle.fs_types.proofs.Common.{if◌then◌else◌, length, take, drop, get_or, map, cond-true, cond-false, cases_Bool, cases_lt, inl, inr}
use Rattle.fs_types.proofs.Common.{refl, nat_le, nat_lt, nat_tests, ltb-true, and_parts, none-some, take_more, range_with_len, fill_by_all}
use Rattle.fs_types.proofs.Common.{replicate, get_or-replicate, length-replicate, length-take, get_or-take, slice_index, subst}
use Rattle.fs_types.proofs.Common.{length-drop, get_or-drop, IfSome, slice_get, slice_get_within, get_or_from_slice_get}
use Rattle.std.specs.List.{slice_range}
use Rattle.fs_types.proofs.Common.{leb-true, map-map, places}
use Rattle.std.proofs.lemmas.List.{get_or_default}
use borrow.Rule.Slice.PartMut.{put_mid}
use Rattle.fs_types.specs.Fragments.{end_of}
use Rattle.fs_types.specs.FragmentMarks.{is_within, mark_at, mark_within, marks_of_fragments}
use Rattle.fs_types.specs.Pieces.{Fragment}
use Rattle.span_list.proofs.CallerLemmas.{mark_at-past}
use Rattle.fs_script.specs.Vocabulary.{Job, marked_byte}
use Rattle.slot_plain.specs.Log.{Log}
use Rattle.core_machine.specs.Fetching.{HasBytes}
use Rattle.core_machine.specs.Logs.{AreInMemory, IsInMemory}
use Rattle.core_machine.proofs.PinnedRuns.{if_some}

-- what stands at each place once bytes were put over a part
pub put_mid-at : (xs ys : List ℕ) (at len k : ℕ) → length ys ≡ len → at + len ≤ length xs → k < length xs
    → get_or (put_mid at len xs ys) k 0 ≡ (if nat_le at k && nat_lt k (at + len) then get_or ys (k - at) 0 else get_or xs k 0)
put_mid-at xs ys at len k size within lt = elim (cases_lt k at) [
  | inl before ↦ grind (arith, nat_tests, places)
  | inr from ↦ elim (cases_lt k (at + len)) [
    | inl to ↦ grind (arith, nat_tests, places)
    | inr past ↦ grind (arith, nat_tests, places)
  ]
]

-- the same, where those are from a place of other bytes on
pub put-fetched : (xs ys whole : List ℕ) (at len from n k : ℕ) → ys ≡ slice_range whole from (from + n) → n ≡ len
    → from + len ≤ length whole → at + len ≤ length xs → k < length xs → get_or (put_mid at (at + len - at) xs ys) k 0
    ≡ (if nat_le at k && nat_lt k (at + len) then get_or whole (from + (k - at)) 0 else get_or xs k 0)
put-fetched xs ys whole at len from n k is same there within lt =
    let len_is : at + len - at ≡ len = omega arith in
    let n_is : from + n - from ≡ len = omega (arith, same) in
    let part : ys ≡ take len (drop from whole) = rw n_is at is in
    let size : length ys ≡ len = ap length part ∙ length-take len (drop from whole)
    ∙ (let rest = length-drop from whole in omega (arith, rest, there)) in
    rw len_is (put_mid-at xs ys at len k size within lt ∙ elim (cases_Bool (nat_le at k && nat_lt k (at + len))) [
      | inl inside ↦
          let parts = and_parts (nat_le at k) (nat_lt k (at + len)) inside in
          let to = ltb-true k (at + len) parts.1 in
          let less : k - at < len = (let begin = leb-true at k parts.0 in omega (arith, begin, to)) in
          rw inside (ap (λ (zs : List ℕ). get_or zs (k - at) 0) part ∙ get_or-take len (drop from whole) (k - at) 0 less
          ∙ get_or-drop from whole (k - at) 0)
      | inr outside ↦ rw outside refl
    ])

-- ---- one run more

-- a run behind others, at whose places these have no mark
mark_at-push : (fs : List Fragment) (f : Fragment) (k : ℕ) → (is_within f k ≡ true → mark_at fs k ≡ None)
    → mark_at (fs ++ f ∷ []) k ≡ (if is_within f k then Some (mark_within f k) else mark_at fs k)
mark_at-push [] f k apart = refl
mark_at-push (g ∷ fs) f k apart = elim (cases_Bool (is_within g k)) [
  | inl inside ↦ elim (cases_Bool (is_within f k)) [
    | inl both ↦ absurd (none-some (mark_within g k) (sym (rw inside at (apart both))))
    | inr other ↦ rw (inside, other) refl
  ]
  | inr outside ↦ rw outside (mark_at-push fs f k (λ inside. rw outside at (apart inside)))
]

module _ (runs : List Fragment) (m : ℕ) (f : Fragment) (lt : m < length runs) (is : f ≡ get_or runs m f)
    (in_order : AllPairs (λ g h. end_of g ≤ h.at) runs) where
  -- no run before has a mark at its places
  none-before : (k : ℕ) → is_within f k ≡ true → mark_at (take m runs) k ≡ None
  none-before k inside = mark_at-past (take m runs) k (λ j d within.
      let less : j < m = omega (arith, within, length-take m runs) in
      let ends = in_order j m d less lt in
      let same : f ≡ get_or runs m d = is ∙ get_or_default runs m f d lt in
      let from = leb-true f.at k (and_parts (nat_le f.at k) (nat_lt k (end_of f)) inside).0 in
      let end : end_of (get_or runs j d) ≤ f.at = subst (λ (g : Fragment). end_of (get_or runs j d) ≤ g.at) (sym same) ends in
      rw (get_or-take m runs j d less) (omega (arith, end, from)))

  mark_at-more : (k : ℕ) → mark_at (take (m + 1) runs) k ≡ (if is_within f k then Some (mark_within f k) else mark_at (take m runs) k)
  mark_at-more k =
      ap (λ (fs : List Fragment). mark_at fs k) (take_more runs m f lt ∙ ap (λ (g : Fragment). take m runs ++ g ∷ []) (sym is))
      ∙ mark_at-push (take m runs) f k (none-before k)

  -- its bytes are put in their places, and all others stay
  pub HasBytes-more : (s : Job) (old new : List ℕ) → length new ≡ length old → HasBytes s (take m runs) old
      → ((k : ℕ) → k < length old → slice_index new k ≡ (if is_within f k then marked_byte s (Some (mark_within f k)) else slice_index old k))
      → HasBytes s (take (m + 1) runs) new
  HasBytes-more s old new same has put k lt' =
      let within : k < length old = omega (arith, lt', same) in
      put k within ∙ elim (cases_Bool (is_within f k)) [
        | inl inside ↦ rw inside (sym (ap (marked_byte s) (mark_at-more k ∙ cond-true (is_within f k) _ _ inside)))
        | inr outside ↦
            rw outside (has k within ∙ sym (ap (marked_byte s) (mark_at-more k ∙ cond-false (is_within f k) _ _ outside)))
      ]

-- ---- none, and all

pub HasBytes-none : (s : Job) (runs : List Fragment) (n : ℕ) → HasBytes s (take 0 runs) (replicate n 0)
HasBytes-none s runs n k lt = get_or-replicate n k 0 0 (let size = length-replicate {A = ℕ} n 0 in omega (arith, lt, size))

-- where all runs were fetched, the bytes are those of their marks
pub HasBytes-whole : (s : Job) (runs : List Fragment) (bytes : List ℕ) → HasBytes s runs bytes
    → bytes ≡ map (marked_byte s) (marks_of_fragments runs (length bytes))
HasBytes-whole s runs bytes has =
    fill_by_all (λ k. marked_byte s (mark_at runs k)) bytes (length bytes) 0 refl has
    ∙ sym (map-map (marked_byte s) (mark_at runs) (range_with_len 0 (length bytes)))

-- a client's log is in memory as all are
pub in_memory : (s : Job) (logs : List Log) (r : ℕ) → AreInMemory s logs → IfSome (slice_get logs r) (IsInMemory s)
in_memory s logs r all = if_some (slice_get logs r) (IsInMemory s) (λ log is.
    subst (IsInMemory s) (get_or_from_slice_get logs r log log is) (all r log (slice_get_within logs r log is)))
