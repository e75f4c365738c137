-- Where the last byte of fragments ends: all end by there, a mark stands before it, and a write that is put over them moves it.
use Rattle.fs_types.proofs.Common.{◌≡◌, ℕ, suc, ◌+◌, ◌-◌, ◌<◌, ◌≤◌, max, Bool, true, nat_le, nat_lt, ◌&&◌, List, [], ◌∷◌, Option, Some}
use Rattle.fs_types.proofs.Common.{All, All-cons, All-nil, All-head, All-tail, All-weaker, is_some, refl, sym, ap, ◌∙◌, arith, cases_lt, inl, inr}
use Rattle.fs_types.proofs.Common.{cond_both, cond-true, and_from, le-leb, lt-ltb, false≢true}
use Rattle.fs_types.specs.FragmentMarks.{is_within, mark_at, mark_within}
use Rattle.fs_types.specs.Fragments.{end_of}
use Rattle.fs_types.specs.Marks.{Mark, mark_of}
use Rattle.fs_types.specs.Pieces.{Fragment}
use Rattle.fs_types.specs.declared.limits.TheConstants.{LONGEST_FILE}
use Rattle.span_list.specs.Spans.{AreSpans, IsSpan}
use Rattle.span_list.proofs.CallerLemmas.{mark_at-past}
use Rattle.piece_table.specs.HeldSpans.{put_fragments}
use Rattle.client_map.specs.Kept.{pending_end}
use Rattle.client_map.specs.Writes.{Write, parts_of}
use Rattle.client_map.proofs.WriteMarks.{ends-put, marks-put}

-- all end by the last end
pub pending_end-ends : (fs : List Fragment) → All (λ f. end_of f ≤ pending_end fs) fs
pending_end-ends [] = All-nil (λ f. end_of f ≤ 0)
pending_end-ends (f ∷ fs) =
    let e : ℕ = max (end_of f) (pending_end fs) in
    All-cons (λ g. end_of g ≤ e) f fs (omega arith)
    (All-weaker (λ g. end_of g ≤ pending_end fs) (λ g. end_of g ≤ e) (λ g end. omega (arith, end)) fs (pending_end-ends fs))

-- and it is the first such place
pub pending_end-least : (fs : List Fragment) (e : ℕ) → All (λ f. end_of f ≤ e) fs → pending_end fs ≤ e
pending_end-least [] e ends = omega arith
pending_end-least (f ∷ fs) e ends =
    let here = All-head (λ g. end_of g ≤ e) f fs ends in
    let rest = pending_end-least fs e (All-tail (λ g. end_of g ≤ e) f fs ends) in
    omega (arith, here, rest)

-- fragments that may be kept end within the longest file
pub pending_end-in_file : (fs : List Fragment) → AreSpans fs → pending_end fs ≤ LONGEST_FILE
pending_end-in_file fs spans =
    pending_end-least fs LONGEST_FILE (All-weaker IsSpan (λ f. end_of f ≤ LONGEST_FILE) (λ f span. span.in_file) fs spans.each)

-- each mark stands before it
marked-before : (fs : List Fragment) (k : ℕ) → is_some (mark_at fs k) ≡ true → k < pending_end fs
marked-before fs k marked = elim (cases_lt k (pending_end fs)) [
  | inl before ↦ before
  | inr past ↦
      let none = mark_at-past fs k
      (All-weaker (λ f. end_of f ≤ pending_end fs) (λ f. end_of f ≤ k) (λ f end. omega (arith, end, past)) fs (pending_end-ends fs)) in
      absurd (false≢true (sym (ap is_some none) ∙ marked))
]

-- and one right before it
marked-last : (fs : List Fragment) (k : ℕ) → All (λ f. 0 < f.len) fs → pending_end fs ≡ suc k → is_some (mark_at fs k) ≡ true
marked-last [] k some end = absurd (omega (arith, end))
marked-last (f ∷ fs) k some end =
    let here = All-head (λ g. 0 < g.len) f fs some in
    elim (cases_lt (pending_end fs) (end_of f)) [
      | inl last ↦
          ap is_some (cond-true (is_within f k) (Some (mark_within f k)) (mark_at fs k)
          (and_from (nat_le f.at k) (nat_lt k (end_of f)) (le-leb f.at k (omega (arith, here, last, end)))
          (lt-ltb k (end_of f) (omega (arith, last, end)))))
      | inr behind ↦
          let rest = marked-last fs k (All-tail (λ g. 0 < g.len) f fs some) (omega (arith, behind, end)) in
          cond_both (is_within f k) (Some (mark_within f k)) (mark_at fs k) (λ o. is_some o ≡ true) (λ _. refl) (λ _. rest)
    ]

-- the last end after a write was put over them
pub pending_end-put : (chunk : ℕ) (w : Write) (some : 0 < chunk) (fs new : List Fragment) → 0 < w.len → AreSpans fs
    → new ≡ put_fragments (parts_of chunk w) fs → pending_end new ≡ max (pending_end fs) (w.off + w.len)
pending_end-put chunk w some fs new has_bytes spans put_over =
    let e : ℕ = max (pending_end fs) (w.off + w.len) in
    let is_there : ℕ → Bool = λ k. nat_le w.off k && nat_lt k (w.off + w.len) in
    let mark : ℕ → Option Mark = λ k. Some (mark_of chunk w.line (k - w.off)) in
    let most : pending_end new ≤ e = pending_end-least new e
    (ends-put chunk w some fs new put_over e
    (All-weaker (λ f. end_of f ≤ pending_end fs) (λ f. end_of f ≤ e) (λ f end. omega (arith, end)) fs (pending_end-ends fs)) (omega arith)) in
    let last : ℕ = w.off + w.len - 1 in
    let written : last < pending_end new = marked-before new last
    (ap is_some (marks-put chunk w some fs new put_over last
    ∙ cond-true (is_there last) (mark last) (mark_at fs last)
    (and_from (nat_le w.off last) (nat_lt last (w.off + w.len)) (le-leb w.off last (omega (arith, has_bytes)))
    (lt-ltb last (w.off + w.len) (omega (arith, has_bytes)))))) in
    elim (cases_lt 0 (pending_end fs)) [
      | inl there ↦
          let k : ℕ = pending_end fs - 1 in
          let was : is_some (mark_at fs k) ≡ true = marked-last fs k
          (All-weaker IsSpan (λ f. 0 < f.len) (λ f span. span.has_bytes) fs spans.each) (omega (arith, there)) in
          let kept : k < pending_end new = marked-before new k
          (ap is_some (marks-put chunk w some fs new put_over k)
          ∙ cond_both (is_there k) (mark k) (mark_at fs k) (λ o. is_some o ≡ true) (λ _. refl) (λ _. was)) in
          omega (arith, most, written, kept, has_bytes)
      | inr none ↦ omega (arith, most, written, none, has_bytes)
    ]
