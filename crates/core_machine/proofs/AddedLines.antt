-- What is pending once one more line was put over it.
use Rattle.fs_types.proofs.Common.{◌≡◌, ℕ, ◌+◌, ◌-◌, ◌*◌, ◌<◌, max, min, ◌&&◌, if◌then◌else◌, nat_le, nat_lt, List, [], ◌∷◌, ◌++◌}
use Rattle.fs_types.proofs.Common.{length, drop, get_or, Option, Some, None, sym, ap, ◌∙◌, arith, cond-true, le-leb}
use Rattle.fs_types.proofs.Common.{length-map-range_with_len, length-take, length-drop}
use Rattle.std.proofs.lemmas.List.{ext_get_or}
use Rattle.fs_types.proofs.CallerLemmas.{length-put}
use Rattle.fs_types.specs.FragmentMarks.{mark_at, marks_of_fragments}
use Rattle.fs_script.specs.Vocabulary.{Job, LONGEST_FILE, Mark, mark_of, marks_in, marks_put, offset, part, parts_of, payload, put}
use Rattle.fs_script.specs.Vocabulary.{put_lines}
use Rattle.fs_script.proofs.CallerLemmas.{AllByRecursion-push}
use Rattle.fs_script.proofs.MarksGrow.{get_or-line_put, marks_put-append}
use Rattle.span_list.proofs.CallerLemmas.{get_or-marks}
use Rattle.piece_table.specs.HeldSpans.{Held}
use Rattle.client_map.specs.Kept.{pending_end}
use Rattle.client_map.specs.Writes.{Write}
use Rattle.client_map.proofs.CallerLemmas as map
use Rattle.core_machine.specs.ClientPath.{Pending}
use Rattle.core_machine.specs.PendingWrites.{ArePartHolds, ArePending, BringsBytes}
use Rattle.core_machine.specs.PlainHolds.{AreHeldPlain}
use Rattle.core_machine.specs.declared.plain_hold.PlainHold.{PlainHold}

-- these fragments with their holds as what is pending, where these lines wrote it
abbrev pub pending_as : Held PlainHold → List ℕ → Pending
pending_as x lines = record { lines = lines; held = x; end = pending_end x.fragments }

-- ---- the marks

module _ (s : Job) (n : ℕ) (brings : BringsBytes s n) where
  abbrev size : ℕ
  size = length (payload s n)

  abbrev mark_in : ℕ → Option Mark
  mark_in i = Some (mark_of s.shape.chunk n i)

  -- how long a file is then
  pub length-line_put : (xs : List (Option Mark)) → length (put_lines s (marks_in s) (n ∷ []) xs) ≡ max (length xs) (offset s n + size)
  length-line_put xs =
      let off : ℕ = offset s n in
      let brought : List (Option Mark) = (marks_in s).of_line n in
      let long : length brought ≡ size = length-map-range_with_len mark_in 0 size in
      let end = brings.end in
      let some = brings.some in
      ap length (cond-true (nat_le (off + length brought) LONGEST_FILE) (put None xs off brought) xs
      (le-leb (off + length brought) LONGEST_FILE (omega (arith, long, end))))
      ∙ length-put None xs off brought (omega (arith, long, some)) ∙ ap (λ m. max (length xs) (off + m)) long

  -- where the line's marks stand, the fragments have them, and elsewhere those that stood there
  module _ (lines : List ℕ) (old new : Held PlainHold) (was : ArePending s (pending_as old lines))
      (stand : (k : ℕ) → mark_at new.fragments k
      ≡ (if nat_le (offset s n) k && nat_lt k (offset s n + size) then mark_in (k - offset s n) else mark_at old.fragments k))
      (end : pending_end new.fragments ≡ max (pending_end old.fragments) (offset s n + size)) where
    marks-added : marks_of_fragments new.fragments (pending_end new.fragments) ≡ marks_put s (lines ++ n ∷ [])
    marks-added =
        let before : List (Option Mark) = marks_put s lines in
        let e : ℕ = pending_end old.fragments in
        let size_old : length before ≡ e = ap length (sym was.marks) ∙ length-map-range_with_len (mark_at old.fragments) 0 e in
        let size_new = length-map-range_with_len (mark_at new.fragments) 0 (pending_end new.fragments) in
        ext_get_or None (marks_of_fragments new.fragments (pending_end new.fragments)) (put_lines s (marks_in s) (n ∷ []) before)
        (size_new ∙ end ∙ ap (λ m. max m (offset s n + size)) (sym size_old) ∙ sym (length-line_put before))
        (λ k _. get_or-marks new.fragments (pending_end new.fragments) k (map.pending_end-ends new.fragments)
        ∙ stand k
        ∙ ap (λ o. if nat_le (offset s n) k && nat_lt k (offset s n + size) then mark_in (k - offset s n) else o)
        (sym (get_or-marks old.fragments e k was.within) ∙ ap (λ ms. get_or ms k None) was.marks)
        ∙ sym (get_or-line_put s n before k brings.end))
        ∙ sym (marks_put-append s lines (n ∷ []))

    pub pending-added : AreHeldPlain new → ArePending s (pending_as new (lines ++ n ∷ []))
    pending-added are_held = record {
      are_held = are_held;
      lines = AllByRecursion-push (BringsBytes s) lines n was.lines brings;
      marks = marks-added;
      within = map.pending_end-ends new.fragments;
      most = map.pending_end-in_file new.fragments are_held.spans;
    }

-- ---- the holds

length-part : (s : Job) (n p : ℕ) → length (part s n p) ≡ min s.shape.chunk (length (payload s n) - p * s.shape.chunk)
length-part s n p =
    length-take s.shape.chunk (drop (p * s.shape.chunk) (payload s n))
    ∙ ap (min s.shape.chunk) (length-drop (p * s.shape.chunk) (payload s n))

-- the holds of a line's parts are those of what it writes
pub write-holds : (s : Job) (n off len : ℕ) (holds : List PlainHold) → ArePartHolds s n holds → 0 < s.shape.chunk → BringsBytes s n
    → length (payload s n) ≡ len
    → map.AreOfParts (λ (h : PlainHold). h.piece) (λ h. h.bytes) s.shape.chunk (record { line = n; off = off; len = len }) holds
write-holds s n off len holds are chunk brings long =
    map.part-holds (λ (h : PlainHold). h.piece) (λ h. h.bytes) s.shape.chunk (let w : Write = record { line = n; off = off; len = len } in w)
    holds chunk (omega (arith, brings.some, long)) (are.each ∙ ap (parts_of s.shape.chunk) long) (λ k h is. (are.parts k h is).piece)
    (λ k h is. (are.parts k h is).bytes ∙ length-part s n k ∙ ap (λ m. min s.shape.chunk (m - k * s.shape.chunk)) long)
