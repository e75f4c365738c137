-- The laws of the marks of fragments: what stands at each place after a put and after a cut, and around what a look-up finds.
use Rattle.std.specs.Prelude.{◌≡◌, ℕ, ◌<◌, ◌≤◌, nat_lt, List, Some, None, if◌then◌else◌}
use Rattle.fs_types.specs.FragmentMarks.{is_within, mark_at, mark_within}
use Rattle.fs_types.specs.Fragments.{end_of}
use Rattle.fs_types.specs.Pieces.{Fragment}
use Rattle.span_list.specs.Spans.{AreSpans, cut_fragments, next_fragment, put_fragment}

-- a place of a fragment that was put has its mark, and every other place the mark that it had
abbrev pub PutsMarks : Type 0
PutsMarks = (f : Fragment) (fs : List Fragment) (k : ℕ)
    → mark_at (put_fragment f fs) k ≡ (if is_within f k then Some (mark_within f k) else mark_at fs k)

-- below the place of a cut each mark is as before, and from there on there is none
abbrev pub CutsMarks : Type 0
CutsMarks = (size : ℕ) (fs : List Fragment) (k : ℕ) → mark_at (cut_fragments size fs) k ≡ (if nat_lt k size then mark_at fs k else None)

-- from the place of a look-up up to what it finds no mark stands
abbrev pub NoneBeforeNext : Type 0
NoneBeforeNext = (at : ℕ) (fs : List Fragment) (f : Fragment) (k : ℕ) → AreSpans fs → next_fragment at fs ≡ Some f
    → at ≤ k → k < f.at → mark_at fs k ≡ None

-- what it finds has its own marks from the place on
abbrev pub NextHasItsMarks : Type 0
NextHasItsMarks = (at : ℕ) (fs : List Fragment) (f : Fragment) (k : ℕ) → next_fragment at fs ≡ Some f
    → at ≤ k → f.at ≤ k → k < end_of f → mark_at fs k ≡ Some (mark_within f k)

-- where it finds nothing, no mark stands from the place on
abbrev pub NoneAfterLast : Type 0
NoneAfterLast = (at : ℕ) (fs : List Fragment) (k : ℕ) → next_fragment at fs ≡ None → at ≤ k → mark_at fs k ≡ None
