-- Files and pending writes have a hold of a piece exactly where their marks bear it, and fragments where some line is pending.
use Rattle.fs_types.proofs.Common.{◌≡◌, ℕ, ◌<◌, true, List, [], ◌∷◌, length, is_some, sym, ap, refl, ◌∙◌, arith, nil_from_length, subst}
use Rattle.fs_types.proofs.Common.{AllByRecursion, cases_lt, inl, inr, length-map-range_with_len}
use Rattle.fs_types.specs.FragmentMarks.{mark_at, marks_of_fragments}
use Rattle.fs_types.specs.Pieces.{Fragment}
use Rattle.fs_script.specs.Vocabulary.{Job, Piece, bears, has_any, marks_in, marks_put, put_lines}
use Rattle.fs_script.proofs.CallerLemmas.{length-put_lines}
use Rattle.client_map.specs.Kept.{pending_end}
use Rattle.core_machine.specs.BookFiles.{IsFile, marks_of_file}
use Rattle.core_machine.specs.PendingWrites.{ArePending, BringsBytes, IsNonePending}
use Rattle.owner_book.specs.Kept.{BookFile}
use Rattle.core_machine.specs.declared.plain_hold.PlainHold.{PlainHold}
use Rattle.core_machine.specs.ClientPath.{Pending}
use Rattle.core_machine.proofs.AddedLines.{length-line_put}
use Rattle.core_machine.proofs.NamedPieces.{is_named-bears}

pub file-bears : (f : BookFile PlainHold) (x : Piece) → IsFile f → is_some (f.held.hold_of x) ≡ bears (marks_of_file f) x
file-bears f x file = file.are_held.named x ∙ is_named-bears f.held.fragments f.size x file.are_held.spans file.within

pub pending-bears : (s : Job) (q : Pending) (x : Piece) → ArePending s q
    → is_some (q.held.hold_of x) ≡ bears (marks_put s q.lines) x
pending-bears s q x pending =
    pending.are_held.named x ∙ is_named-bears q.held.fragments q.end x pending.are_held.spans pending.within
    ∙ ap (λ marks. bears marks x) pending.marks

-- nothing pending is pending writes of no lines
pub pending-none : (s : Job) (q : Pending) → IsNonePending q → ArePending s q
pending-none s q none = record {
  are_held = none.are_held;
  lines = subst (AllByRecursion (BringsBytes s)) (sym (nil_from_length q.lines none.lines)) tt;
  marks = ap (marks_of_fragments q.held.fragments) none.end ∙ ap (marks_put s) (sym (nil_from_length q.lines none.lines));
  within = λ k d below. absurd (omega (arith, below, none.fragments));
  most = omega (arith, none.end);
}

-- ---- whether anything is pending

module _ (s : Job) (q : Pending) (pending : ArePending s q) where
  length-marks : length (marks_put s q.lines) ≡ q.end
  length-marks = ap length (sym pending.marks) ∙ length-map-range_with_len (mark_at q.held.fragments) 0 q.end

  -- some line is, where some fragment is
  pub some-line : 0 < length q.held.fragments → has_any q.lines ≡ true
  some-line some = by q.lines refl
    where
      none : Fragment
      none = record { at = 0; len = 0; piece = record { line = 0; part = 0 }; from = 0 }

      by : (ns : List ℕ) → q.lines ≡ ns → has_any ns ≡ true
      by (n ∷ ns) is = refl
      by [] is = absurd (omega (
        arith,
        length-marks,
        ap (λ ns. length (marks_put s ns)) is,
        pending.within 0 none some,
        (pending.are_held.spans.each 0 none some).has_bytes,
      ))

  -- and none is, where no fragment is
  pub no-line : q.end ≡ pending_end q.held.fragments → (0 < length q.held.fragments → ⊥) → q.lines ≡ []
  no-line end none = by q.lines refl pending.lines
    where
      zero : length q.held.fragments ≡ 0
      zero = elim (cases_lt 0 (length q.held.fragments)) [ inl some ↦ absurd (none some) | inr le ↦ omega (arith, le) ]

      by : (ns : List ℕ) → q.lines ≡ ns → AllByRecursion (BringsBytes s) ns → q.lines ≡ []
      by [] is brings = is
      by (n ∷ ns) is brings = absurd (omega (
        arith,
        length-marks,
        ap (λ ms. length (marks_put s ms)) is,
        length-put_lines s (marks_in s) ns (put_lines s (marks_in s) (n ∷ []) []),
        length-line_put s n brings.0 [],
        brings.0.some,
        end ∙ ap pending_end (nil_from_length q.held.fragments zero),
      ))
