-- The marks of a write's parts, put over what is pending.
use Rattle.std.specs.Option.{option_or}
use Rattle.std.proofs.Math.Arith.{digits_div, digits_mod}
use Rattle.std.proofs.lemmas.Grind.{fold-append}
use Rattle.std.proofs.lemmas.List.{ext_get_or}
use Rattle.fs_types.proofs.Common.{◌≡◌, ℕ, zero, suc, ◌+◌, ◌-◌, ◌*◌, ◌<◌, ◌≤◌, max, cond, Bool, true, false, ◌&&◌, nat_le, nat_lt, le-leb}
use Rattle.fs_types.proofs.Common.{List, [], ◌∷◌, ◌++◌, map, length, get_or, All, All-head, All-tail, All-weaker, Option, Some, None}
use Rattle.fs_types.proofs.Common.{refl, sym, ap, ◌∙◌, subst, arith, nat_tests, cases_lt, inl, inr, cond-true, cond-false, range_with_len, and_parts, leb-true, ltb-true}
use Rattle.fs_types.proofs.Common.{get_or-map-range_with_len, length-map-range_with_len}
use Rattle.fs_types.proofs.CallerLemmas.{get_or-put, length-put}
use Rattle.fs_types.specs.FragmentMarks.{is_within, mark_at, mark_within, marks_of_fragments}
use Rattle.fs_types.specs.Fragments.{end_of}
use Rattle.fs_types.specs.Marks.{Mark, mark_of, marks_of, no_mark}
use Rattle.fs_types.specs.Overwrite.{put}
use Rattle.fs_types.specs.Pieces.{Fragment}
use Rattle.fs_types.specs.PlainFile.{written}
use Rattle.fs_types.specs.declared.limits.TheConstants.{LONGEST_FILE}
use Rattle.span_list.proofs.CallerLemmas.{get_or-marks, put_ends}
use Rattle.span_list.specs.Spans.{put_fragment}
use Rattle.piece_table.specs.HeldSpans.{put_fragments}
use Rattle.piece_table.proofs.CallerLemmas.{mark_at-put_ordered}
use Rattle.client_map.specs.PendingWrites.{HaveMarks, marks_of_writes}
use Rattle.client_map.specs.Writes.{Write, part_count, part_of, parts_of}
use Rattle.client_map.proofs.WriteParts.{part-begins, parts-end, parts-ordered, parts-reach}

-- fragments put over others end where one of the two do
ends-put_fragments : (over fs : List Fragment) (e : ℕ) → All (λ f. end_of f ≤ e) over → All (λ f. end_of f ≤ e) fs
    → All (λ f. end_of f ≤ e) (put_fragments over fs)
ends-put_fragments [] fs e of_over of_fs = of_fs
ends-put_fragments (f ∷ over) fs e of_over of_fs =
    let last = All-head (λ g. end_of g ≤ e) f over of_over in
    ends-put_fragments over (put_fragment f fs) e (All-tail (λ g. end_of g ≤ e) f over of_over)
    (All-weaker (λ g. end_of g ≤ max e (end_of f)) (λ g. end_of g ≤ e) (λ g end. omega (arith, end, last)) (put_fragment f fs)
    (put_ends f fs e of_fs))

or-cond : {X : Type 0} (b : Bool) (x : X) (z : Option X) → option_or (cond b (Some x) None) z ≡ cond b (Some x) z
or-cond true x z = refl
or-cond false x z = refl

cond-same : {X : Type 0} (b : Bool) (x y z : X) → (b ≡ true → x ≡ y) → cond b x z ≡ cond b y z
cond-same true x y z same = same refl
cond-same false x y z same = refl

module _ (chunk : ℕ) (w : Write) (some : 0 < chunk) where
  -- the mark of the byte that was written to a place
  abbrev mark_there : ℕ → Option Mark
  mark_there k = Some (mark_of chunk w.line (k - w.off))

  -- it is that of the byte of the part that stands there
  part-mark : (j k : ℕ) → w.off + j * chunk ≤ k → k < w.off + j * chunk + chunk → Some (mark_within (part_of chunk w j) k) ≡ mark_there k
  part-mark j k from to =
      let i : ℕ = k - (w.off + j * chunk) in
      let below : i < chunk = omega (arith, from, to) in
      let place : j * chunk + i ≡ k - w.off = omega (arith, from) in
      let number = digits_div j {m = chunk} {r = i} below in
      let rest = digits_mod j {m = chunk} {r = i} below in
      let mark : ℕ → ℕ → Option Mark = λ part at. Some (let m : Mark = record { line = w.line; part = part; place = at } in m) in
      ap (mark j) (omega arith) ∙ (λ d. mark (sym number d) (sym rest d)) ∙ ap (λ n. Some (mark_of chunk w.line n)) place

  -- a place that was written, from part j on
  abbrev is_from : ℕ → ℕ → Bool
  is_from j k = nat_le (w.off + j * chunk) k && nat_lt k (w.off + w.len)

  -- the marks of the parts from part j on
  marks-from : (j n k : ℕ) → w.len ≤ (j + n) * chunk → ((i : ℕ) → i < j + n → i * chunk < w.len)
      → mark_at (map (part_of chunk w) (range_with_len j n)) k ≡ cond (is_from j k) (mark_there k) None
  marks-from j zero k reach begins =
      let all : (j + 0) * chunk ≡ j * chunk = ap (λ m. m * chunk) (omega arith) in
      sym (cond-false (is_from j k) _ _ (grind (arith, nat_tests)))
  marks-from j (suc n) k reach begins =
      let f : Fragment = part_of chunk w j in
      let next : (j + 1) * chunk ≡ j * chunk + chunk = grind arith in
      let begin : j * chunk < w.len = begins j (omega arith) in
      let rest = marks-from (j + 1) n k (subst (λ m. w.len ≤ m * chunk) (omega arith) reach) (λ i below. begins i (omega (arith, below))) in
      elim (cases_lt k (w.off + j * chunk)) [
        | inl before ↦
            let same : is_from (j + 1) k ≡ is_from j k = grind (arith, nat_tests) in
            cond-false (is_within f k) _ _ (grind (arith, nat_tests)) ∙ rest ∙ ap (λ b. cond b (mark_there k) None) same
        | inr behind ↦ elim (cases_lt k (end_of f)) [
          | inl inside ↦
              cond-true (is_within f k) _ _ (grind (arith, nat_tests)) ∙ part-mark j k behind (omega (arith, inside))
              ∙ sym (cond-true (is_from j k) _ _ (grind (arith, nat_tests)))
          | inr past ↦
              let same : is_from (j + 1) k ≡ is_from j k = grind (arith, nat_tests) in
              cond-false (is_within f k) _ _ (grind (arith, nat_tests)) ∙ rest ∙ ap (λ b. cond b (mark_there k) None) same
        ]
      ]

  -- the marks of all
  marks-parts : (k : ℕ) → mark_at (parts_of chunk w) k ≡ cond (nat_le w.off k && nat_lt k (w.off + w.len)) (mark_there k) None
  marks-parts k =
      let first : w.off + 0 * chunk ≡ w.off = omega arith in
      marks-from 0 (part_count chunk w) k (subst (λ m. w.len ≤ m * chunk) (omega arith) (parts-reach chunk w some))
      (λ i below. part-begins chunk w some i (omega (arith, below)))
      ∙ ap (λ at. cond (nat_le at k && nat_lt k (w.off + w.len)) (mark_there k) None) first

  -- ---- put over others

  module _ (fs new : List Fragment) (put_over : new ≡ put_fragments (parts_of chunk w) fs) where
    -- where the write stands are its marks, and elsewhere those that were there
    pub marks-put : (k : ℕ) → mark_at new k ≡ cond (nat_le w.off k && nat_lt k (w.off + w.len)) (mark_there k) (mark_at fs k)
    marks-put k =
        ap (λ us. mark_at us k) put_over ∙ mark_at-put_ordered (parts_of chunk w) fs k (parts-ordered chunk w some)
        ∙ ap (λ o. option_or o (mark_at fs k)) (marks-parts k)
        ∙ or-cond (nat_le w.off k && nat_lt k (w.off + w.len)) (mark_of chunk w.line (k - w.off)) (mark_at fs k)

    -- all end by a place by which the write ends, and all others
    pub ends-put : (e : ℕ) → All (λ f. end_of f ≤ e) fs → w.off + w.len ≤ e → All (λ f. end_of f ≤ e) new
    ends-put e ends reach =
        subst (All (λ f. end_of f ≤ e)) (sym put_over)
        (ends-put_fragments (parts_of chunk w) fs e
        (All-weaker (λ f. end_of f ≤ w.off + w.len) (λ f. end_of f ≤ e) (λ f end. omega (arith, end, reach)) (parts_of chunk w)
        (parts-end chunk w some))
        ends)

  -- ---- one write more

  module _ (ws : List Write) (fs new : List Fragment) (has_bytes : 0 < w.len) (in_file : w.off + w.len ≤ LONGEST_FILE)
      (put_over : new ≡ put_fragments (parts_of chunk w) fs) (have : HaveMarks chunk ws fs) where
    abbrev before : List (Option Mark)
    before = marks_of_writes chunk ws

    abbrev brought : List (Option Mark)
    brought = marks_of chunk w.line w.len

    abbrev after : List (Option Mark)
    after = marks_of_writes chunk (ws ++ w ∷ [])

    long : length brought ≡ w.len
    long = length-map-range_with_len (λ i. Some (mark_of chunk w.line i)) 0 w.len

    is_put : after ≡ put no_mark before w.off brought
    is_put =
        fold-append (λ ms x. written no_mark ms x.off (marks_of chunk x.line x.len)) [] ws (w ∷ [])
        ∙ cond-true (nat_le (w.off + length brought) LONGEST_FILE) _ _ (le-leb _ _ (omega (arith, long, in_file)))

    length-after : length after ≡ max (length before) (w.off + w.len)
    length-after =
        ap length is_put ∙ length-put no_mark before w.off brought (omega (arith, long, has_bytes))
        ∙ ap (λ n. max (length before) (w.off + n)) long

    ends : All (λ f. end_of f ≤ length after) new
    ends =
        ends-put fs new put_over (length after)
        (All-weaker (λ f. end_of f ≤ length before) (λ f. end_of f ≤ length after) (λ f end. omega (arith, end, length-after)) fs
        have.within)
        (omega (arith, length-after))

    brought-at : (k : ℕ) → (nat_le w.off k && nat_lt k (w.off + length brought)) ≡ true → get_or brought (k - w.off) no_mark ≡ mark_there k
    brought-at k inside =
        let both = and_parts (nat_le w.off k) (nat_lt k (w.off + length brought)) inside in
        let below : k - w.off < w.len = omega (arith, leb-true w.off k both.0, ltb-true k (w.off + length brought) both.1, long) in
        get_or-map-range_with_len (λ i. Some (mark_of chunk w.line i)) 0 w.len (k - w.off) (k - w.off) no_mark below (omega arith)

    mark-after : (k : ℕ) → mark_at new k ≡ get_or after k no_mark
    mark-after k =
        marks-put fs new put_over k
        ∙ (λ d. cond (nat_le w.off k && nat_lt k (w.off + sym long d)) (mark_there k)
        ((sym (get_or-marks fs (length before) k have.within) ∙ ap (λ ms. get_or ms k no_mark) have.marks) d))
        ∙ sym (ap (λ ms. get_or ms k no_mark) is_put ∙ get_or-put no_mark before w.off brought k
        ∙ cond-same (nat_le w.off k && nat_lt k (w.off + length brought)) _ _ (get_or before k no_mark) (brought-at k))

    pub have-added : HaveMarks chunk (ws ++ w ∷ []) new
    have-added = record {
      marks = ext_get_or no_mark (marks_of_fragments new (length after)) after (length-map-range_with_len (mark_at new) 0 (length after))
          (λ k inside. get_or-marks new (length after) k ends ∙ mark-after k);
      within = ends;
    }
