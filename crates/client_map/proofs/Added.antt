-- What a caller knows of a write that it adds by one hold of each of its parts, in order: that it may be added, and which marks and
-- holds there are then.
use Rattle.fs_types.proofs.Common.{◌≡◌, ℕ, ◌+◌, ◌-◌, ◌*◌, ◌<◌, ◌≤◌, min, nat_le, nat_lt, ◌&&◌, ◌==◌, List, length, map, get_or, All, IsTrue}
use Rattle.fs_types.proofs.Common.{Some, None, slice_get, slice_get_cases, sym, ap, ◌∙◌, subst, arith, inl, inr, if◌then◌else◌}
use Rattle.fs_types.proofs.Common.{cond-true, cond-false, cond_both, cases_Bool, eqb-true, eqb-false, get_or-map, length-map, Bool, false, refl}
use Rattle.std.proofs.lemmas.List.{ext_get_or}
use Rattle.fs_types.specs.FragmentMarks.{mark_at}
use Rattle.fs_types.specs.Fragments.{HeldPiece, held_pieces}
use Rattle.fs_types.specs.Marks.{mark_of}
use Rattle.fs_types.specs.Pieces.{Fragment, Piece}
use Rattle.fs_types.specs.declared.limits.TheConstants.{LONGEST_FILE}
use Rattle.piece_table.specs.HeldSpans.{Held, PutsAll, is_named, pushed, put_fragments}
use Rattle.client_map.specs.Writes.{MayAdd, Write, part_count, part_of, parts_of, pieces_of, write_of}
use Rattle.client_map.proofs.WriteMarks.{marks-put}
use Rattle.client_map.proofs.WriteParts.{length-holds, length-parts, part-at, parts-unnamed, piece-at, write_of-parts}

-- the holds are of the parts of a write, one each and in order
pub record AreOfParts {H : Type 0} (piece : H → Piece) (byte_count : H → ℕ) (chunk : ℕ) (w : Write) (holds : List H) : Type 0 where
  pub some : 0 < chunk
  pub has_bytes : 0 < w.len
  pub pieces : held_pieces piece byte_count holds ≡ pieces_of chunk w

-- so it is where hold k is of part k, and as long
pub part-holds : {H : Type 0} (piece : H → Piece) (byte_count : H → ℕ) (chunk : ℕ) (w : Write) (holds : List H) → 0 < chunk → 0 < w.len
    → length holds ≡ part_count chunk w
    → ((k : ℕ) (h : H) → slice_get holds k ≡ Some h → piece h ≡ record { line = w.line; part = k })
    → ((k : ℕ) (h : H) → slice_get holds k ≡ Some h → byte_count h ≡ min chunk (w.len - k * chunk))
    → AreOfParts piece byte_count chunk w holds
part-holds {H} piece byte_count chunk w holds some has_bytes count of_part long = record {
  some = some;
  has_bytes = has_bytes;
  pieces = ext_get_or none (map held_by holds) (map held_as (parts_of chunk w))
      (length-map holds held_by ∙ count ∙ sym (length-map (parts_of chunk w) held_as ∙ length-parts chunk w some)) at;
}
  where
    held_by : H → HeldPiece
    held_by h = record { piece = piece h; bytes = byte_count h }

    held_as : Fragment → HeldPiece
    held_as f = record { piece = f.piece; bytes = f.len }

    none : HeldPiece
    none = record { piece = record { line = 0; part = 0 }; bytes = 0 }

    at : (k : ℕ) → k < length (map held_by holds) → get_or (map held_by holds) k none ≡ get_or (map held_as (parts_of chunk w)) k none
    at k inside =
        let within : k < length holds = omega (arith, inside, length-map holds held_by) in
        let f : Fragment = part_of chunk w k in
        elim (slice_get_cases holds k).1 [
          | inr (past, none) ↦ absurd (omega (arith, past, within))
          | inl (h, there, is, same) ↦
              get_or-map held_by holds k h none within ∙ ap held_by same
              ∙ (λ i. record { piece = of_part k h is i; bytes = long k h is i })
              ∙ sym (get_or-map held_as (parts_of chunk w) k f none (omega (arith, within, count, length-parts chunk w some))
              ∙ ap held_as (part-at chunk w some k f (omega (arith, within, count))))
        ]

module _ {H : Type 0} {piece : H → Piece} {byte_count : H → ℕ} {chunk : ℕ} {w : Write} {holds : List H}
    (are : AreOfParts piece byte_count chunk w holds) (map_chunk : ℕ) (same_chunk : map_chunk ≡ chunk) where
  -- the holds tell this write
  is_write : write_of piece w.off w.len holds ≡ w
  is_write = write_of-parts chunk w are.some piece byte_count holds are.pieces are.has_bytes

  -- the write may be added where no piece of its line is pending
  pub may-add : (is_ready : H → Bool) (x : Held H) → w.off + w.len ≤ LONGEST_FILE → All (λ h. IsTrue (is_ready h)) holds
      → ((k : ℕ) → x.hold_of (record { line = w.line; part = k }) ≡ None)
      → MayAdd is_ready piece byte_count map_chunk (write_of piece w.off w.len holds) holds x
  may-add is_ready x in_file ready fresh =
      subst (λ c. MayAdd is_ready piece byte_count c (write_of piece w.off w.len holds) holds x) (sym same_chunk)
      (subst (λ v. MayAdd is_ready piece byte_count chunk v holds x) (sym is_write) (record {
        has_bytes = are.has_bytes;
        in_file = in_file;
        ready = ready;
        pieces = are.pieces;
        new_pieces = λ k d inside.
            ap x.hold_of (piece-at chunk w are.some piece byte_count holds are.pieces k d inside) ∙ fresh k;
      }))

  module _ (old new : Held H) (puts : PutsAll (pushed piece (parts_of map_chunk (write_of piece w.off w.len holds)) holds) old new) where
    -- its parts were put over the others
    put_over : new.fragments ≡ put_fragments (parts_of chunk w) old.fragments
    put_over = puts.fragments ∙ (λ i. put_fragments (parts_of (same_chunk i) (is_write i)) old.fragments)

    -- once it was added, the marks of its bytes stand where it is, and elsewhere those that stood there
    pub marks-added : (k : ℕ) → mark_at new.fragments k
        ≡ (if nat_le w.off k && nat_lt k (w.off + w.len) then Some (mark_of chunk w.line (k - w.off)) else mark_at old.fragments k)
    marks-added = marks-put chunk w are.some old.fragments new.fragments put_over

    -- a piece that none of its parts names keeps its hold while some fragment names it
    hold-other : (q : Piece) → is_named (parts_of chunk w) q ≡ false
        → new.hold_of q ≡ (if is_named new.fragments q then old.hold_of q else None)
    hold-other q unnamed =
        puts.holds q
        ∙ cond-false (is_named (parts_of map_chunk (write_of piece w.off w.len holds)) q) _ _
        ((λ i. is_named (parts_of (same_chunk i) (is_write i)) q) ∙ unnamed)

    -- its parts have the holds that were given, and every other piece its own while some fragment names it
    pub holds-added : ((k : ℕ) → old.hold_of (record { line = w.line; part = k }) ≡ None) → All (λ h. new.hold_of (piece h) ≡ Some h) holds
        → (x : Piece) → new.hold_of x
        ≡ (if x.line == w.line then slice_get holds x.part else if is_named new.fragments x then old.hold_of x else None)
    holds-added fresh own x = elim (cases_Bool (x.line == w.line)) [
      | inr other ↦
          hold-other x (parts-unnamed chunk w are.some x (λ same. absurd (eqb-false x.line w.line other (sym same))))
          ∙ sym (cond-false (x.line == w.line) _ _ other)
      | inl line ↦
          let is : x ≡ record { line = w.line; part = x.part } =
          let same = eqb-true x.line w.line line in λ i. record { line = same i; part = x.part } in
          let count = length-holds chunk w are.some piece byte_count holds are.pieces in
          elim (slice_get_cases holds x.part).1 [
            | inl (h, there, at, same) ↦
                ap new.hold_of (is ∙ sym (piece-at chunk w are.some piece byte_count holds are.pieces x.part h there))
                ∙ own x.part h there ∙ ap Some same ∙ sym at
            | inr (past, none) ↦
                hold-other x (parts-unnamed chunk w are.some x (λ _. omega (arith, past, count)))
                ∙ cond_both (is_named new.fragments x) (old.hold_of x) None (λ o. o ≡ None) (λ _. ap old.hold_of is ∙ fresh x.part) (λ _. refl)
                ∙ sym none
          ]
          ∙ sym (cond-true (x.line == w.line) _ _ line)
    ]
