-- Marks as lines are written, as the journal grows, and as answers come.
use Rattle.fs_types.proofs.Common.{◌≡◌, ℕ, suc, ◌+◌, ◌-◌, ◌≤◌, Bool, true, false, cond, leb, ltb, ◌&&◌, List, [], ◌∷◌, ◌++◌, length, get_or}
use Rattle.fs_types.proofs.Common.{Option, Some, None, list_any, refl, ap, ◌∙◌, arith, le-leb, leb-true, ltb-true, and_parts, cond-true}
use Rattle.fs_types.proofs.Common.{length-map-range_with_len, get_or-map-range_with_len, nat_le}
use Rattle.fs_types.proofs.CallerLemmas.{get_or-put}
use Rattle.fs_types.specs.declared.limits.TheConstants.{LONGEST_FILE}
use Rattle.fs_types.specs.Marks.{Mark, mark_of, marks_of}
use Rattle.fs_types.specs.Overwrite.{put}
use Rattle.fs_types.specs.Pieces.{Piece}
use Rattle.fs_script.specs.Growth.{AgreeBefore, SamePending}
use Rattle.fs_script.specs.Job.{Job}
use Rattle.fs_script.specs.Payload.{payload, offset, marks_in}
use Rattle.fs_script.specs.Pending.{Answering}
use Rattle.fs_script.specs.Effect.{put_lines, effect}
use Rattle.fs_script.specs.Journal.{JournalsByPath}
use Rattle.fs_script.specs.FileMarks.{marks_at, marks_put, cells_of, present_marks}
use Rattle.fs_script.specs.Live.{bears, named_paths, is_live, past_lines, pending_marks, is_pending}
use Rattle.fs_script.proofs.Agreement.{pending-agree}
use Rattle.fs_script.proofs.States.{put_lines-append, state_in-agree, state_in-push, state_in-push_last}

-- ---- what stands at a place after a line was put

cond-under : {X : Type 0} (b : Bool) {x y : X} (z : X) → (b ≡ true → x ≡ y) → cond b x z ≡ cond b y z
cond-under true z same = same refl
cond-under false z same = refl

module _ (s : Job) (n : ℕ) where
  abbrev mark_in : ℕ → Option Mark
  mark_in i = Some (mark_of s.shape.chunk n i)

  -- where the line wrote, the mark of its own byte there; elsewhere, what stood there
  pub get_or-line_put : (marks : List (Option Mark)) (k : ℕ) → offset s n + length (payload s n) ≤ LONGEST_FILE
      → get_or (put_lines s (marks_in s) (n ∷ []) marks) k None
      ≡ cond (leb (offset s n) k && ltb k (offset s n + length (payload s n)))
      (Some (mark_of s.shape.chunk n (k - offset s n))) (get_or marks k None)
  get_or-line_put marks k fits =
      let off = offset s n in
      let size = length (payload s n) in
      let brought = marks_of s.shape.chunk n size in
      let long : length brought ≡ size = length-map-range_with_len mark_in 0 size in
      let in_limit : nat_le (off + length brought) LONGEST_FILE ≡ true = le-leb (off + length brought) LONGEST_FILE (omega (arith, long)) in
      ap (λ ms. get_or ms k None) (cond-true (nat_le (off + length brought) LONGEST_FILE) (put None marks off brought) marks in_limit)
      ∙ get_or-put None marks off brought k
      ∙ ap (λ m. cond (leb off k && ltb k (off + m)) (get_or brought (k - off) None) (get_or marks k None)) long
      ∙ cond-under (leb off k && ltb k (off + size)) (get_or marks k None) (λ both.
      let parts = and_parts (leb off k) (ltb k (off + size)) both in
      let from = leb-true off k parts.0 in
      let to = ltb-true k (off + size) parts.1 in
      get_or-map-range_with_len mark_in 0 size (k - off) (k - off) None (omega arith) (omega arith))

-- ---- the journal grows

-- a later commit changes the marks of no version that was there
pub marks_at-push : (s : Job) (A : Answering) (J : List ℕ) (n v : ℕ) → v ≤ length J → marks_at s A (J ++ n ∷ []) v ≡ marks_at s A J v
marks_at-push s A J n v le = state_in-push s (marks_in s) A J n v le

-- the new version has the marks of the last one with the effect of the new line
pub marks_at-push_last : (s : Job) (A : Answering) (J : List ℕ) (n v : ℕ) → v ≡ suc (length J)
    → marks_at s A (J ++ n ∷ []) v ≡ effect s (marks_in s) A n (marks_at s A J (length J))
marks_at-push_last s A J n v is = state_in-push_last s (marks_in s) A J n v is

-- what is put after other lines is put over theirs
pub marks_put-append : (s : Job) (ns ms : List ℕ) → marks_put s (ns ++ ms) ≡ put_lines s (marks_in s) ms (marks_put s ns)
marks_put-append s ns ms = put_lines-append s (marks_in s) ns ms []

-- ---- answers come

-- the marks at a version, where nothing pending at the lines of the journal changes
pub marks_at-agree : (s : Job) (A B : Answering) (J : List ℕ) (v : ℕ) → SamePending s A B J → marks_at s A J v ≡ marks_at s B J v
marks_at-agree s A B J v same = state_in-agree s (marks_in s) A B J v same

pub present_marks-agree : (s : Job) (A B : Answering) (J : List ℕ) → SamePending s A B J → present_marks s A J ≡ present_marks s B J
present_marks-agree s A B J same = ap cells_of (marks_at-agree s A B J (length J) same)

-- what a client has pending to a path hangs on its own answers there alone
pub pending_marks-agree : (s : Job) (r : ℕ) (p : List ℕ) (A B : Answering) → AgreeBefore s r p A B (past_lines s)
    → pending_marks s A r p ≡ pending_marks s B r p
pending_marks-agree s r p A B agree = ap (marks_put s) (pending-agree s r p A B (past_lines s) agree)

-- so a live piece stays live
pub is_live-agree : (s : Job) (A B : Answering) (journals : JournalsByPath) (x : Piece) → ((p : List ℕ) → SamePending s A B (journals p))
    → is_live s A journals x ≡ is_live s B journals x
is_live-agree s A B journals x same =
    ap (λ test. list_any test (named_paths s)) (λ i p. bears (present_marks-agree s A B (journals p) (same p) i) x)

-- and a pending one pending
pub is_pending-agree : (s : Job) (r : ℕ) (A B : Answering) (x : Piece) → ((p : List ℕ) → AgreeBefore s r p A B (past_lines s))
    → is_pending s A r x ≡ is_pending s B r x
is_pending-agree s r A B x agree =
    ap (λ test. list_any test (named_paths s)) (λ i p. bears (pending_marks-agree s r p A B (agree p) i) x)
