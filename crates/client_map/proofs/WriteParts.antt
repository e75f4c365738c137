-- The parts of a write: where they stand, and the pieces that they name.
use Rattle.fs_types.proofs.Common.{◌≡◌, ℕ, ◌+◌, ◌-◌, ◌*◌, ◌^◌, ◌<◌, ◌≤◌, min, List, length, get_or, All}
use Rattle.fs_types.proofs.Common.{[], ◌∷◌, sym, ap, ◌∙◌, subst, arith, nat_tests, cases_lt, inl, inr, All-map, All-weaker, get_or-map, length-map}
use Rattle.fs_types.proofs.Common.{length-map-range_with_len, get_or-map-range_with_len, false, false_from_ne_true}
use Rattle.std.specs.Prelude.{AllPairs}
use Rattle.std.proofs.Math.Nat.{le-mul_of_pos_right}
use Rattle.std.proofs.lemmas.Grind.{div_ceil_times}
use Rattle.std.proofs.lemmas.List.Folds.{list_any_none}
use Rattle.fs_types.specs.Fragments.{AreHeldFragments, HeldPiece, LiesWithin, end_of, fragment_count, held_pieces, piece_eq}
use Rattle.fs_types.specs.Pieces.{Fragment, Piece}
use Rattle.fs_types.specs.declared.limits.TheConstants.{LONGEST_FILE}
use Rattle.span_list.specs.Spans.{AreSpans, IsSpan}
use Rattle.piece_table.specs.HeldSpans.{is_named}
use Rattle.piece_table.proofs.CallerLemmas.{All-named, AreApart, counts_same, few_of, named_some, same_piece}
use Rattle.client_map.specs.Writes.{Write, line_of, part_of, part_count, parts_of, pieces_of, write_of}

module _ (chunk : ℕ) (w : Write) (some : 0 < chunk) where
  -- a part that there is begins before the last byte ends, and all parts reach that end
  pub part-begins : (k : ℕ) → k < part_count chunk w → k * chunk < w.len
  part-begins k below =
      let times = div_ceil_times w.len chunk some in
      let more : (k + 1) * chunk ≤ part_count chunk w * chunk = grind arith in
      omega (arith, times.1, more)

  pub parts-reach : w.len ≤ part_count chunk w * chunk
  parts-reach = (div_ceil_times w.len chunk some).0

  -- there are no more parts than bytes
  pub parts-few : part_count chunk w ≤ w.len
  parts-few = elim (cases_lt 0 (part_count chunk w)) [
    | inl there ↦
        let last : ℕ = part_count chunk w - 1 in
        let begins = part-begins last (omega (arith, there)) in
        omega (arith, begins, le-mul_of_pos_right last some, there)
    | inr none ↦ omega (arith, none)
  ]

  pub length-parts : length (parts_of chunk w) ≡ part_count chunk w
  length-parts = length-map-range_with_len (part_of chunk w) 0 (part_count chunk w)

  pub part-at : (k : ℕ) (d : Fragment) → k < part_count chunk w → get_or (parts_of chunk w) k d ≡ part_of chunk w k
  part-at k d below = get_or-map-range_with_len (part_of chunk w) 0 (part_count chunk w) k k d below (omega arith)

  -- what holds of each part, and of each two
  All-parts : (P : Fragment → Type 0) → ((k : ℕ) → k < part_count chunk w → P (part_of chunk w k)) → All P (parts_of chunk w)
  All-parts P each k d inside =
      let below : k < part_count chunk w = omega (arith, inside, length-parts) in
      subst P (sym (part-at k d below)) (each k below)

  AllPairs-parts : (R : Fragment → Fragment → Type 0)
      → ((i j : ℕ) → i < j → j < part_count chunk w → R (part_of chunk w i) (part_of chunk w j)) → AllPairs R (parts_of chunk w)
  AllPairs-parts R each i j d before inside =
      let below : j < part_count chunk w = omega (arith, inside, length-parts) in
      let first = part-at i d (omega (arith, before, below)) in
      subst (R (get_or (parts_of chunk w) i d)) (sym (part-at j d below))
      (subst (λ f. R f (part_of chunk w j)) (sym first) (each i j before below))

  -- each part ends before a later one begins, and all end where the write does
  pub parts-ordered : AllPairs (λ f g. end_of f ≤ g.at) (parts_of chunk w)
  parts-ordered = AllPairs-parts (λ f g. end_of f ≤ g.at) (λ i j before below.
      let more : (i + 1) * chunk ≤ j * chunk = grind arith in
      omega (arith, more))

  pub parts-end : All (λ f. end_of f ≤ w.off + w.len) (parts_of chunk w)
  parts-end = All-parts (λ f. end_of f ≤ w.off + w.len) (λ k below. let begins = part-begins k below in omega (arith, begins))

  pub parts-have_bytes : All (λ f. 0 < f.len) (parts_of chunk w)
  parts-have_bytes = All-parts (λ f. 0 < f.len) (λ k below. let begins = part-begins k below in omega (arith, begins, some))

  -- they may be kept
  pub parts-spans : chunk < 2 ^ 32 → w.off + w.len ≤ LONGEST_FILE → AreSpans (parts_of chunk w)
  parts-spans small in_file = record {
    each = All-parts IsSpan (λ k below.
        let begins = part-begins k below in
        record {
          has_bytes = omega (arith, begins, some);
          in_file = omega (arith, begins, in_file);
          in_piece = omega (arith, small);
        });
    in_order = parts-ordered;
  }

  -- no two are of one piece, so each piece is named once
  parts-apart : AllPairs (AreApart (λ (f : Fragment). f.piece)) (parts_of chunk w)
  parts-apart = AllPairs-parts (AreApart (λ (f : Fragment). f.piece)) (λ i j before below. grind (arith, nat_tests))

  named-once : All (λ f. fragment_count f.piece (parts_of chunk w) ≡ 1) (parts_of chunk w)
  named-once k d inside =
      let q : Piece = (get_or (parts_of chunk w) k d).piece in
      omega (
        arith,
        few_of (λ (f : Fragment). f.piece) q (parts_of chunk w) parts-apart,
        named_some q (parts_of chunk w) (All-named (parts_of chunk w) k d inside),
      )

  -- no piece is named that is of another line, or behind the last part
  pub parts-unnamed : (q : Piece) → (w.line ≡ q.line → part_count chunk w ≤ q.part) → is_named (parts_of chunk w) q ≡ false
  parts-unnamed q behind =
      list_any_none (λ f. piece_eq f.piece q) (parts_of chunk w) (All-parts (λ f. piece_eq f.piece q ≡ false) (λ k below.
      false_from_ne_true (piece_eq (part_of chunk w k).piece q) (λ is.
      let same : (part_of chunk w k).piece ≡ q = same_piece (part_of chunk w k).piece q is in
      let part : k ≡ q.part = ap (λ (x : Piece). x.part) same in
      absurd (omega (arith, below, part, behind (ap (λ (x : Piece). x.line) same))))))

  -- they may be sent with a hold of each piece
  parts-held : w.off + w.len ≤ LONGEST_FILE → AreHeldFragments LONGEST_FILE (parts_of chunk w) (pieces_of chunk w)
  parts-held in_file = record {
    have_bytes = parts-have_bytes;
    in_order = parts-ordered;
    in_file = All-weaker (λ f. end_of f ≤ w.off + w.len) (λ f. end_of f ≤ LONGEST_FILE) (λ f end. omega (arith, end, in_file))
        (parts_of chunk w) parts-end;
    in_piece = All-parts (λ f. All (LiesWithin f) (pieces_of chunk w)) (λ i _.
        All-map (LiesWithin (part_of chunk w i)) as_held (parts_of chunk w)
        (All-parts (λ g. g.piece ≡ (part_of chunk w i).piece → 0 + min chunk (w.len - i * chunk) ≤ g.len) (λ j _ same.
        let number : j ≡ i = ap (λ (p : Piece). p.part) same in
        subst (λ n. 0 + min chunk (w.len - i * chunk) ≤ min chunk (w.len - n * chunk)) (sym number) (omega arith))));
    one_hold = λ k d inside.
        counts_same (λ (f : Fragment). f.piece) (λ f. f.len) (get_or (parts_of chunk w) k d).piece (parts_of chunk w)
        ∙ named-once k d inside;
    named = All-map (λ h. 0 < fragment_count h.piece (parts_of chunk w)) as_held (parts_of chunk w)
        (λ k d inside. omega (arith, named-once k d inside));
  }
    where
      as_held : Fragment → HeldPiece
      as_held f = record { piece = f.piece; bytes = f.len }

  -- ---- their holds
  module _ {H : Type 0} (piece : H → Piece) (byte_count : H → ℕ) (holds : List H)
      (pieces : held_pieces piece byte_count holds ≡ pieces_of chunk w) where
    abbrev of_hold : H → HeldPiece
    of_hold h = record { piece = piece h; bytes = byte_count h }

    abbrev of_part : Fragment → HeldPiece
    of_part f = record { piece = f.piece; bytes = f.len }

    pub length-holds : length holds ≡ part_count chunk w
    length-holds = sym (length-map holds of_hold) ∙ ap length pieces ∙ length-map (parts_of chunk w) of_part ∙ length-parts

    -- the part of each hold begins before the last byte ends
    pub hold-begins : (k : ℕ) → k < length holds → k * chunk < w.len
    hold-begins k inside = part-begins k (omega (arith, inside, length-holds))

    -- hold k is of part k
    pub piece-at : (k : ℕ) (d : H) → k < length holds → piece (get_or holds k d) ≡ record { line = w.line; part = k }
    piece-at k d inside =
        let below : k < part_count chunk w = omega (arith, inside, length-holds) in
        let f : Fragment = part_of chunk w k in
        ap (λ (h : HeldPiece). h.piece)
        (sym (get_or-map of_hold holds k d (of_hold d) inside) ∙ ap (λ hs. get_or hs k (of_hold d)) pieces
        ∙ get_or-map of_part (parts_of chunk w) k f (of_hold d) (omega (arith, below, length-parts))
        ∙ ap of_part (part-at k f below))

    -- so what the line writes is told by the holds
    pub write_of-parts : 0 < w.len → write_of piece w.off w.len holds ≡ w
    write_of-parts has_bytes =
        let there : 0 < length holds = omega (arith, length-holds, some_part) in
        λ i. record { line = line_of-first holds there (λ d. ap (λ (p : Piece). p.line) (piece-at 0 d there)) i; off = w.off; len = w.len }
      where
        some_part : 0 < part_count chunk w
        some_part = elim (cases_lt 0 (part_count chunk w)) [
          | inl there ↦ there
          | inr none ↦
              let zero : part_count chunk w * chunk ≡ 0 * chunk = ap (λ n. n * chunk) (omega (arith, none)) in
              absurd (omega (arith, parts-reach, zero, has_bytes))
        ]

        line_of-first : (hs : List H) → 0 < length hs → ((d : H) → (piece (get_or hs 0 d)).line ≡ w.line) → line_of piece hs ≡ w.line
        line_of-first [] there first = absurd (omega (arith, there))
        line_of-first (h ∷ hs) there first = first h

    -- its parts with these holds are a push that may be put
    pub push-held : (frags : List Fragment) → frags ≡ parts_of chunk w → w.off + w.len ≤ LONGEST_FILE
        → AreHeldFragments LONGEST_FILE frags (held_pieces piece byte_count holds)
    push-held frags are in_file =
        subst (λ fs. AreHeldFragments LONGEST_FILE fs (held_pieces piece byte_count holds)) (sym are)
        (subst (AreHeldFragments LONGEST_FILE (parts_of chunk w)) (sym pieces) (parts-held in_file))
