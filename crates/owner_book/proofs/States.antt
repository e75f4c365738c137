-- A path's file is the state of its journal: one line more.
use Rattle.fs_types.proofs.Common.{◌≡◌, ℕ, ◌<◌, ◌≤◌, max, Bool, true, false, List, [], ◌∷◌, ◌++◌, map, fold, All, All-head, All-tail}
use Rattle.fs_types.proofs.Common.{Option, Some, None}
use Rattle.fs_types.proofs.Common.{refl, sym, ap, ◌∙◌, map-append, IfSome, none-some, suc, arith, option_map, if◌then◌else◌, length, cond-false, not, true≢false}
use Rattle.fs_types.specs.Marks.{Mark, no_mark}
use Rattle.fs_types.specs.Overwrite.{cut}
use Rattle.fs_types.specs.PlainFile.{File}
use Rattle.owner_book.specs.declared.book_no.BookNo.TheVariants.{ReadOnly}
use Rattle.fs_types.specs.FragmentMarks.{marks_of_fragments}
use Rattle.fs_types.specs.Fragments.{end_of}
use Rattle.fs_types.specs.Pieces.{Fragment, Piece}
use Rattle.span_list.specs.Spans.{put_fragment}
use Rattle.span_list.proofs.CallerLemmas.{cut_ends, marks_of_fragments-cut, marks_of_fragments-put, put_ends}
use Rattle.piece_table.specs.HeldSpans.{put_fragments}
use Rattle.owner_book.specs.Kept.{BookFile, BookPath, no_path}
use Rattle.owner_book.specs.Calls.{attr_in, change_refusal, create_refusal}
use Rattle.owner_book.specs.Commits.{size_after, with_push}
use Rattle.owner_book.specs.Journals.{CommittedStands, CreatedStands, FrozenByTheLast, LaminatedStands, StandsFor, TruncatedStands, UnlinkedStands}
use Rattle.owner_book.specs.Journals.{creation, addition, truncation, lamination, removal, Deed, Entry, can_be_done, deed_after, file_after, is_lamination}
use Rattle.owner_book.specs.Journals.{marked, put_marks}
use Rattle.owner_book.specs.Laminations.{frozen}
use Rattle.owner_book.specs.Truncations.{with_size}
use Rattle.owner_book.proofs.Pushes.{ends-laid}

fold-push : {X Y : Type 0} (f : Y → X → Y) (z : Y) (xs : List X) (x : X) → fold f z (xs ++ x ∷ []) ≡ f (fold f z xs) x
fold-push f z [] x = refl
fold-push f z (y ∷ xs) x = fold-push f (f z y) xs x

file_after-more : (entries : List Entry) (e : Entry) → file_after (entries ++ e ∷ []) ≡ deed_after (file_after entries) e.deed
file_after-more entries e = fold-push (λ f d. deed_after f d.deed) None entries e

-- the marks after all fragments of a list were put
pub marks-laid : (over fs : List Fragment) (n : ℕ) → All (λ f. 0 < f.len) over → All (λ f. end_of f ≤ n) fs
    → marks_of_fragments (put_fragments over fs) (size_after n over) ≡ put_marks over (marks_of_fragments fs n)
marks-laid [] fs n some ends = refl
marks-laid (f ∷ over) fs n some ends =
    marks-laid over (put_fragment f fs) (max n (end_of f)) (All-tail (λ g. 0 < g.len) f over some) (put_ends f fs n ends)
    ∙ ap (put_marks over) (marks_of_fragments-put f fs n (All-head (λ g. 0 < g.len) f over some) ends)

-- a removal leaves no file
removed : (f : File (Option Mark)) → deed_after f removal ≡ None
removed None = refl
removed (Some f) = refl

-- a file with these marks
abbrev file_with : Bool → List (Option Mark) → File (Option Mark)
file_with frozen marks = Some (record { cells = marks; frozen = frozen })

-- the marks of a file that isn't frozen become others
unfrozen-marks : (frozen now : Bool) (marks old new : List (Option Mark)) → frozen ≡ false → marks ≡ new
    → file_with now marks ≡ (if frozen then file_with frozen old else file_with now new)
unfrozen-marks frozen now marks old new unfrozen same =
    ap (file_with now) same ∙ sym (cond-false frozen (file_with frozen old) (file_with now new) unfrozen)

-- a deed that could be done leaves a frozen file exactly where it is a lamination
abbrev is_frozen : File (Option Mark) → Bool
is_frozen None = false
is_frozen (Some f) = f.frozen

frozen-after : (f : File (Option Mark)) (deed : Deed) → can_be_done f deed ≡ true → is_frozen (deed_after f deed) ≡ is_lamination deed
frozen-after None creation done = refl
frozen-after (Some f) creation done = absurd (true≢false (sym done))
frozen-after None (addition frags) done = absurd (true≢false (sym done))
frozen-after (Some f) (addition frags) done = by f.frozen done where
  by : (b : Bool) → not b ≡ true → is_frozen (if b then file_with b f.cells else file_with b (put_marks frags f.cells)) ≡ false
  by false _ = refl
  by true e = absurd (true≢false (sym e))
frozen-after None (truncation frags size) done = absurd (true≢false (sym done))
frozen-after (Some f) (truncation frags size) done = by f.frozen done where
  by : (b : Bool) → not b ≡ true
      → is_frozen (if b then file_with b f.cells else file_with b (cut no_mark (put_marks frags f.cells) size)) ≡ false
  by false _ = refl
  by true e = absurd (true≢false (sym e))
frozen-after None (lamination frags) done = absurd (true≢false (sym done))
frozen-after (Some f) (lamination frags) done = by f.frozen where
  by : (b : Bool) → is_frozen (if b then file_with b f.cells else file_with true (put_marks frags f.cells)) ≡ true
  by false = refl
  by true = refl
frozen-after None removal done = absurd (true≢false (sym done))
frozen-after (Some f) removal done = refl

module _ {H : Type 0} where
  -- the fragments of a file end within it
  abbrev pub IsWithin : Option (BookFile H) → Type 0
  IsWithin file = IfSome file (λ f. All (λ g. end_of g ≤ f.size) f.held.fragments)

  lines-more : (entries : List Entry) (x : BookPath H) (e : Entry) → x.journal ≡ map (λ d. d.line) entries
      → x.journal ++ e.line ∷ [] ≡ map (λ d. d.line) (entries ++ e ∷ [])
  lines-more entries x e same = ap (λ ls. ls ++ e.line ∷ []) same ∙ sym (map-append (λ d. d.line) entries (e ∷ []))

  pub none-stands : StandsFor [] (no_path {H = H})
  none-stands = record { journal = refl; file = refl; within = tt }

  absent : (journal : List ℕ) (file : Option (BookFile H)) → create_refusal (record { journal = journal; file = file }) ≡ None → file ≡ None
  absent journal None none = refl
  absent journal (Some f) none = absurd (none-some _ (sym none))

  pub created-stands : CreatedStands H
  created-stands entries x line stands none = record {
    journal = lines-more entries x (record { line = line; deed = creation }) stands.journal;
    file = sym (file_after-more entries (record { line = line; deed = creation }) ∙ ap (λ f. deed_after f creation) (sym stands.file)
        ∙ ap (λ f. deed_after (marked f) creation) (absent x.journal x.file none));
    within = λ k d below. absurd (nothing k below);
  }
    where
      nothing : (k : ℕ) → suc k ≤ 0 → ⊥
      nothing k below = omega arith

  pub unlinked-stands : UnlinkedStands H
  unlinked-stands entries x line stands = record {
    journal = lines-more entries x (record { line = line; deed = removal }) stands.journal;
    file = sym (file_after-more entries (record { line = line; deed = removal }) ∙ removed (file_after entries));
    within = tt;
  }

  -- what makes of a file that isn't frozen what a deed makes of its marks
  abbrev DoesSo : (BookFile H → BookFile H) → Deed → Type 0
  DoesSo change deed =
      (f : BookFile H) → f.frozen ≡ false → IsWithin (Some f)
      → (marked (Some (change f)) ≡ deed_after (marked (Some f)) deed) × IsWithin (Some (change f))

  -- does so with a file that may be changed
  changed : (change : BookFile H → BookFile H) (deed : Deed) → DoesSo change deed → (journal : List ℕ) (file : Option (BookFile H))
      → change_refusal (record { journal = journal; file = file }) ≡ None → IsWithin file
      → (marked (option_map change file) ≡ deed_after (marked file) deed) × IsWithin (option_map change file)
  changed change deed so journal None none within = absurd (none-some _ (sym none))
  changed change deed so journal (Some f) none within = so f (unfrozen f.frozen none) within
    where
      unfrozen : (b : Bool) → (if b then Some (ReadOnly (length journal)) else None) ≡ None → b ≡ false
      unfrozen true none = absurd (none-some _ (sym none))
      unfrozen false none = refl

  changed-stands : (change : BookFile H → BookFile H) (deed : Deed) → DoesSo change deed → (entries : List Entry) (x : BookPath H) (line : ℕ)
      → StandsFor entries x → change_refusal x ≡ None
      → StandsFor (entries ++ record { line = line; deed = deed } ∷ [])
      (record { journal = x.journal ++ line ∷ []; file = option_map change x.file })
  changed-stands change deed so entries x line stands none =
      let after = changed change deed so x.journal x.file none stands.within in
      record {
        journal = lines-more entries x (record { line = line; deed = deed }) stands.journal;
        file = after.0 ∙ ap (λ f. deed_after f deed) stands.file ∙ sym (file_after-more entries (record { line = line; deed = deed }));
        within = after.1;
      }

  pub committed-stands : (piece : H → Piece) → CommittedStands piece
  committed-stands piece entries x line push some =
      let over : List Fragment = push.frags.items in
      changed-stands (with_push piece push) (addition over)
      (λ f unfrozen within. (
        unfrozen-marks f.frozen f.frozen _ (marks_of_fragments f.held.fragments f.size) _ unfrozen (marks-laid over f.held.fragments f.size some within),
        ends-laid over f.held.fragments f.size within,
      ))
      entries x line

  pub truncated-stands : (piece : H → Piece) → TruncatedStands piece
  truncated-stands piece entries x line push size some =
      let over : List Fragment = push.frags.items in
      changed-stands (λ f. with_size size (with_push piece push f)) (truncation over size)
      (λ f unfrozen within. (
        unfrozen-marks f.frozen f.frozen _ (marks_of_fragments f.held.fragments f.size) _ unfrozen
            (marks_of_fragments-cut size (put_fragments over f.held.fragments) (size_after f.size over)
            (ends-laid over f.held.fragments f.size within)
            ∙ ap (λ ms. cut no_mark ms size) (marks-laid over f.held.fragments f.size some within)),
        cut_ends size (put_fragments over f.held.fragments),
      ))
      entries x line

  pub laminated-stands : (piece : H → Piece) → LaminatedStands piece
  laminated-stands piece entries x line push some =
      let over : List Fragment = push.frags.items in
      changed-stands (λ f. frozen (with_push piece push f)) (lamination over)
      (λ f unfrozen within. (
        unfrozen-marks f.frozen true _ (marks_of_fragments f.held.fragments f.size) _ unfrozen
            (marks-laid over f.held.fragments f.size some within),
        ends-laid over f.held.fragments f.size within,
      ))
      entries x line

  -- a file is frozen where its marks are a frozen file
  frozen-marked : (file : Option (BookFile H)) → (attr_in file).frozen ≡ is_frozen (marked file)
  frozen-marked None = refl
  frozen-marked (Some f) = refl

  pub frozen-by_the_last : FrozenByTheLast H
  frozen-by_the_last entries e x stands done =
      frozen-marked x.file ∙ ap is_frozen (stands.file ∙ file_after-more entries e) ∙ frozen-after (file_after entries) e.deed done
