-- The marks of a file after pending writes were put over it.
use Rattle.fs_types.proofs.Common.{◌≡◌, ℕ, ◌≤◌, max, List, [], ◌∷◌, length, get_or, None}
use Rattle.fs_types.proofs.Common.{sym, ap, ◌∙◌, arith, All, All-head, All-tail, All-weaker, length-map-range_with_len}
use Rattle.std.specs.Option.{option_or}
use Rattle.std.proofs.lemmas.List.{ext_get_or}
use Rattle.fs_types.specs.Fragments.{end_of}
use Rattle.fs_types.specs.FragmentMarks.{mark_at, marks_of_fragments}
use Rattle.fs_script.specs.Vocabulary.{Fragment, Job, marks_in, marks_put, put_lines}
use Rattle.fs_script.proofs.CallerLemmas.{length-put_lines, get_or-put_lines}
use Rattle.span_list.specs.Spans.{AreSpans, put_fragment}
use Rattle.span_list.proofs.CallerLemmas.{get_or-marks, put_ends}
use Rattle.piece_table.proofs.CallerLemmas.{mark_at-put_fragments}
use Rattle.piece_table.specs.HeldSpans.{put_fragments}

-- ---- where they end

pub ends-put_fragments : (over fs : List Fragment) (len : ℕ) → All (λ f. end_of f ≤ len) over → All (λ f. end_of f ≤ len) fs
    → All (λ f. end_of f ≤ len) (put_fragments over fs)
ends-put_fragments [] fs len within ends = ends
ends-put_fragments (f ∷ over) fs len within ends =
    let end : end_of f ≤ len = All-head (λ g. end_of g ≤ len) f over within in
    ends-put_fragments over (put_fragment f fs) len (All-tail (λ g. end_of g ≤ len) f over within)
    (All-weaker (λ g. end_of g ≤ max len (end_of f)) (λ g. end_of g ≤ len) (λ g most. omega (arith, most, end)) (put_fragment f fs)
    (put_ends f fs len ends))

abbrev pub EndBy : ℕ → List Fragment → Type 0
EndBy len fs = All (λ f. end_of f ≤ len) fs

pub ends-later : (fs : List Fragment) (len most : ℕ) → len ≤ most → EndBy len fs → EndBy most fs
ends-later fs len most le ends = All-weaker (λ f. end_of f ≤ len) (λ f. end_of f ≤ most) (λ f end. omega (arith, end, le)) fs ends

pub ends-committed : (over old : List Fragment) (e len : ℕ) → EndBy e over → EndBy len old → EndBy (max len e) (put_fragments over old)
ends-committed over old e len within ends =
    ends-put_fragments over old (max len e) (ends-later over e (max len e) (omega arith) within)
    (ends-later old len (max len e) (omega arith) ends)

-- ---- the marks of the file

pub marks-committed : (s : Job) (ns : List ℕ) (over old : List Fragment) (e len : ℕ) → AreSpans over
    → marks_of_fragments over e ≡ marks_put s ns → All (λ f. end_of f ≤ e) over → All (λ f. end_of f ≤ len) old
    → marks_of_fragments (put_fragments over old) (max len e) ≡ put_lines s (marks_in s) ns (marks_of_fragments old len)
marks-committed s ns over old e len spans marks within ends =
    let new : List Fragment = put_fragments over old in
    let size_over = length-map-range_with_len (mark_at over) 0 e in
    let size_old = length-map-range_with_len (mark_at old) 0 len in
    let size = length-map-range_with_len (mark_at new) 0 (max len e) in
    let size_put = length-put_lines s (marks_in s) ns (marks_of_fragments old len) in
    ext_get_or None (marks_of_fragments new (max len e)) (put_lines s (marks_in s) ns (marks_of_fragments old len))
    (omega (arith, size_over, size_old, size, size_put, ap length marks))
    (λ k below. get_or-marks new (max len e) k (ends-committed over old e len within ends)
    ∙ mark_at-put_fragments over old k spans
    ∙ (λ i. option_or (sym (get_or-marks over e k within) i) (sym (get_or-marks old len k ends) i))
    ∙ ap (λ ms. option_or (get_or ms k None) (get_or (marks_of_fragments old len) k None)) marks
    ∙ sym (get_or-put_lines s ns (marks_of_fragments old len) k))
