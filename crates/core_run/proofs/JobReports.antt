-- The report of a run, made path by path.
use Rattle.std.proofs.Common.{◌≡◌, ℕ, ◌+◌, List, [], ◌∷◌, ◌++◌, take, Some, refl, sym, ap, subst}
use Rattle.std.proofs.Common.{◌∙◌, add-one, length}
use Rattle.std.proofs.Math.Seq.{take-suc}
use Rattle.std.proofs.lemmas.List.{length-map}
use Rattle.std.proofs.lemmas.Option.{slice_get_within, get_or_from_slice_get, slice_get-map}
use Rattle.std.specs.List.{slice_get}
use Rattle.std.specs.Option.{option_map}
use Rattle.fs_types.specs.declared.file_state.FileState.{FileState}
use Rattle.fs_script.specs.Report.{file_state_of}
use Rattle.core_machine.specs.Moment.{Moment, file_now}
use Rattle.core_machine.specs.MomentReport.{report_of}
use Rattle.fs_report.specs.declared.report.Report as kept
use Rattle.fs_report.specs.ReportView.{report_view}
use Rattle.core_run.specs.declared.run.PathReport.{PathReport}
use Rattle.core_run.specs.PathReport.{journal_entry, file_entry}

-- one more of a list
take-get : {X : Type 0} (xs : List X) (i : ℕ) (x : X)
    → slice_get xs i ≡ Some x → take (i + 1) xs ≡ take i xs ++ x ∷ []
take-get xs i x at =
    ap (λ k. take k xs) (add-one i) ∙ take-suc xs i x (slice_get_within xs i x at)
    ∙ ap (λ y. take i xs ++ y ∷ []) (get_or_from_slice_get xs i x x at)

-- one more path is reported
pub journals-push : (m n : Moment) (v w : List (List ℕ × List ℕ)) (r : PathReport) (i : ℕ)
    → n ≡ m → w ≡ v ++ journal_entry r ∷ [] → v ≡ take i m.journals
    → slice_get n.journals i ≡ Some (journal_entry r)
    → w ≡ take (i + 1) m.journals
journals-push m n v w r i same more so_far here =
    let at = subst (λ (k : Moment). slice_get k.journals i ≡ Some (journal_entry r)) same here in
    more ∙ ap (λ entries. entries ++ journal_entry r ∷ []) so_far ∙ sym (take-get m.journals i (journal_entry r) at)

pub files-push : (m n : Moment) (v w : List (List ℕ × FileState)) (r : PathReport) (i : ℕ)
    → n ≡ m → w ≡ v ++ file_entry r ∷ [] → v ≡ take i (report_of m).files
    → slice_get n.journals i ≡ Some (journal_entry r) → r.state ≡ file_state_of (file_now n r.path)
    → w ≡ take (i + 1) (report_of m).files
files-push m n v w r i same more so_far here state =
    let at = subst (λ (k : Moment). slice_get k.journals i ≡ Some (journal_entry r)) same here in
    let now = subst (λ (k : Moment). r.state ≡ file_state_of (file_now k r.path)) same state in
    let file_of : (List ℕ × List ℕ) → (List ℕ × FileState) = λ j. (j.0, file_state_of (file_now m j.0)) in
    let entry : slice_get (report_of m).files i ≡ Some (file_entry r) =
    slice_get-map file_of m.journals i ∙ ap (option_map file_of) at ∙ ap (λ s. Some (r.path, s)) (sym now) in
    more ∙ ap (λ entries. entries ++ file_entry r ∷ []) so_far ∙ sym (take-get (report_of m).files i (file_entry r) entry)

-- the parts of a job's report are those of its last moment
pub report_view-is : (m : Moment) (r : kept.Report)
    → r.answers.list ≡ m.answers → r.journals ≡ m.journals → r.files ≡ (report_of m).files → r.slots ≡ (report_of m).slots
    → report_of m ≡ report_view r
report_view-is m r answers journals files slots = rw (answers, journals, files, slots) refl

-- and there are as many files as journals
pub as_many_files : (m : Moment) (js : List (List ℕ × List ℕ)) (fs : List (List ℕ × FileState)) → js ≡ m.journals → fs ≡ (report_of m).files
    → length js ≡ length fs
as_many_files m js fs journals files =
    ap length journals ∙ sym (length-map m.journals (λ j. (j.0, file_state_of (file_now m j.0)))) ∙ sym (ap length files)
