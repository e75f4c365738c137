-- Fragments that a push puts over those of a file: what they are with their holds, and where they end.
use Rattle.fs_types.proofs.Common.{◌≡◌, ℕ, ◌≤◌, max, List, [], ◌∷◌, All, All-head, All-tail, if◌then◌else◌, ◌∙◌, ap, arith}
use Rattle.fs_types.specs.Fragments.{end_of}
use Rattle.fs_types.specs.Pieces.{Fragment, Piece}
use Rattle.fs_types.specs.declared.limits.TheConstants.{LONGEST_FILE}
use Rattle.fs_types.specs.declared.push.Push.{Push}
use Rattle.span_list.specs.Spans.{put_fragment}
use Rattle.span_list.proofs.CallerLemmas.{put_ends}
use Rattle.piece_table.specs.HeldSpans.{Held, PutsAll, is_named, pushed, put_fragments, while_named}
use Rattle.owner_book.specs.Kept.{AreWithin, BookFile}
use Rattle.owner_book.specs.Commits.{laid_over, size_after, with_push}

-- what putting all of some fragments over others gives is one thing
pub laid-is : {H : Type 0} (over old new : Held H) → PutsAll over old new → new ≡ laid_over over old
laid-is over old new puts = λ i. record {
  fragments = puts.fragments i;
  hold_of = λ q. (puts.holds q ∙ ap (λ (fs : List Fragment). if is_named over.fragments q then over.hold_of q
      else while_named fs old.hold_of q) puts.fragments) i;
}

-- so is the file then
pub laid-file : {H : Type 0} (piece : H → Piece) (push : Push H) (f : BookFile H) (size : ℕ) (new : Held H)
    → size ≡ size_after f.size push.frags.items → PutsAll (pushed piece push.frags.items push.holds.items) f.held new
    → record { size = size; frozen = f.frozen; held = new } ≡ with_push piece push f
laid-file piece push f size new is puts =
    let laid = laid-is (pushed piece push.frags.items push.holds.items) f.held new puts in
    λ i. record { size = is i; frozen = f.frozen; held = laid i }

-- they end within the size after
pub ends-laid : (over fs : List Fragment) (n : ℕ) → All (λ f. end_of f ≤ n) fs
    → All (λ f. end_of f ≤ size_after n over) (put_fragments over fs)
ends-laid [] fs n ends = ends
ends-laid (f ∷ over) fs n ends = ends-laid over (put_fragment f fs) (max n (end_of f)) (put_ends f fs n ends)

-- which is no longer than the longest file where all end within that
most-after : (over : List Fragment) (n : ℕ) → n ≤ LONGEST_FILE → All (λ f. end_of f ≤ LONGEST_FILE) over → size_after n over ≤ LONGEST_FILE
most-after [] n most ends = most
most-after (f ∷ over) n most ends =
    let end : end_of f ≤ LONGEST_FILE = All-head (λ g. end_of g ≤ LONGEST_FILE) f over ends in
    most-after over (max n (end_of f)) (omega (arith, most, end)) (All-tail (λ g. end_of g ≤ LONGEST_FILE) f over ends)

pub within-laid : (over fs : List Fragment) (n : ℕ) → All (λ f. end_of f ≤ LONGEST_FILE) over → AreWithin n fs
    → AreWithin (size_after n over) (put_fragments over fs)
within-laid over fs n ends within =
    record { ends = ends-laid over fs n within.ends; most = most-after over n within.most ends }
