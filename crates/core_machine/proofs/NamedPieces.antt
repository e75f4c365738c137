-- Fragments name a piece exactly where their marks bear it.
use Rattle.fs_types.proofs.Common.{◌≡◌, ℕ, ◌+◌, ◌≤◌, Bool, true, false, ◌||◌, List, [], ◌∷◌, Option, Some, None}
use Rattle.fs_types.proofs.Common.{refl, sym, ap, ◌∙◌, All, cond_both}
use Rattle.fs_types.specs.Fragments.{end_of, piece_eq}
use Rattle.fs_types.specs.FragmentMarks.{mark_at, marks_of_fragments}
use Rattle.fs_script.specs.Vocabulary.{Fragment, Mark, Piece, bears, goes_on, piece_of, runs}
use Rattle.fs_script.specs.Live.{is_of_piece}
use Rattle.fs_script.specs.Runs.{byte_run, with_run, runs_from}
use Rattle.fs_script.proofs.CallerLemmas.{bears-at, bears-place}
use Rattle.span_list.specs.Spans.{AreSpans}
use Rattle.span_list.proofs.CallerLemmas.{get_or-marks, is_mark_of, mark-from_named, named-from_mark}
use Rattle.piece_table.proofs.CallerLemmas.{named_some, some_named}
use Rattle.piece_table.specs.HeldSpans.{is_named}
use Rattle.core_machine.specs.ReadRuns.{joined}
use Rattle.fs_script.proofs.RunsOfMarks.{GoesOn-from}

-- two tests that come out true for one another are the same
both_true : (b c : Bool) → (b ≡ true → c ≡ true) → (c ≡ true → b ≡ true) → b ≡ c
both_true true c there back = sym (there refl)
both_true false true there back = back refl
both_true false false there back = refl

-- ---- a piece that is named has a mark

-- both crates below say alike whether a mark is of a piece
same_mark : (x : Piece) (m : Option Mark) → is_mark_of x m ≡ is_of_piece x m
same_mark x None = refl
same_mark x (Some m) = refl

-- a piece of which some place has a mark is named
pub named-from_place : (fs : List Fragment) (k : ℕ) (x : Piece) → is_of_piece x (mark_at fs k) ≡ true → is_named fs x ≡ true
named-from_place fs k x is = some_named x fs (named-from_mark x fs k (same_mark x (mark_at fs k) ∙ is))

-- and of a piece that is named some place has a mark
pub place-of_named : (fs : List Fragment) (x : Piece) → AreSpans fs → is_named fs x ≡ true → (k : ℕ) × (is_of_piece x (mark_at fs k) ≡ true)
place-of_named fs x spans named =
    let there = mark-from_named x fs spans (named_some x fs named) in (there.0, sym (same_mark x (mark_at fs there.0)) ∙ there.1)

-- so fragments that end by a length name what their marks bear
pub is_named-bears : (fs : List Fragment) (len : ℕ) (x : Piece) → AreSpans fs → All (λ f. end_of f ≤ len) fs
    → is_named fs x ≡ bears (marks_of_fragments fs len) x
is_named-bears fs len x spans ends = both_true (is_named fs x) (bears (marks_of_fragments fs len) x)
    (λ named.
    let there = place-of_named fs x spans named in
    bears-at (marks_of_fragments fs len) there.0 x (ap (is_of_piece x) (get_or-marks fs len there.0 ends) ∙ there.1))
    (λ borne.
    let there = bears-place (marks_of_fragments fs len) x borne in
    named-from_place fs there.0 x (ap (is_of_piece x) (sym (get_or-marks fs len there.0 ends)) ∙ there.1))

-- ---- the runs of marks name what these bear

or_twice : (b c : Bool) → (b || c) ≡ (b || (b || c))
or_twice true c = refl
or_twice false c = refl

is_named-with_run : (f : Fragment) (gs : List Fragment) (x : Piece) → is_named (with_run f gs) x ≡ (piece_eq f.piece x || is_named gs x)
is_named-with_run f [] x = refl
is_named-with_run f (g ∷ gs) x =
    cond_both (goes_on f g) (joined f g ∷ gs) (f ∷ g ∷ gs) (λ fs. is_named fs x ≡ (piece_eq f.piece x || is_named (g ∷ gs) x))
    (λ on. or_twice (piece_eq f.piece x) (is_named gs x)
    ∙ ap (λ p. piece_eq f.piece x || (piece_eq p x || is_named gs x)) (sym (GoesOn-from f g on).piece))
    (λ _. refl)

bears-runs_from : (at : ℕ) (marks : List (Option Mark)) (x : Piece) → bears marks x ≡ is_named (runs_from at marks) x
bears-runs_from at [] x = refl
bears-runs_from at (None ∷ marks) x = bears-runs_from (at + 1) marks x
bears-runs_from at (Some m ∷ marks) x =
    ap (λ b. piece_eq (piece_of m) x || b) (bears-runs_from (at + 1) marks x)
    ∙ sym (is_named-with_run (byte_run at m) (runs_from (at + 1) marks) x)

pub bears-runs : (marks : List (Option Mark)) (x : Piece) → bears marks x ≡ is_named (runs marks) x
bears-runs marks x = bears-runs_from 0 marks x
