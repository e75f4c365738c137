-- What is reported of a file, by the bytes that were read of it.
use Rattle.fs_types.proofs.Common.{◌≡◌, ℕ, ◌∙◌, List, Option, Some, sym, ap, length, map, length-map, length-map-range_with_len}
use Rattle.std.proofs.lemmas.List.{take-map}
use Rattle.md5.specs.Md5.{md5}
use Rattle.fs_types.specs.declared.file_state.FileState.TheVariants as states
use Rattle.fs_types.specs.FragmentMarks.{mark_at, marks_of_fragments}
use Rattle.fs_types.specs.Marks.{Mark}
use Rattle.fs_types.specs.Pieces.{Fragment}
use Rattle.fs_script.specs.declared.limits.TheConstants.{DIGEST_LIMIT}
use Rattle.fs_script.specs.Vocabulary.{Job, file_state_of, marked_byte, runs, shown}
use Rattle.owner_book.specs.Kept.{BookFile}
use Rattle.core_machine.specs.declared.plain_hold.PlainHold.{PlainHold}
use Rattle.core_machine.specs.BookFiles.{marks_of_file}
use Rattle.core_machine.specs.Fetching.{HasBytes}
use Rattle.core_machine.specs.Kept.{file_of}
use Rattle.core_machine.proofs.FetchableRuns.{marks-of_runs}
use Rattle.core_machine.proofs.FetchedBytes.{HasBytes-whole}

-- the bytes of all runs of some marks are those of the marks
pub bytes-of_runs : (s : Job) (marks : List (Option Mark)) (fs : List Fragment) (bytes : List ℕ) → fs ≡ runs marks
    → length bytes ≡ length marks → HasBytes s fs bytes → bytes ≡ map (marked_byte s) marks
bytes-of_runs s marks fs bytes is size has =
    HasBytes-whole s fs bytes has ∙ ap (map (marked_byte s)) (ap (marks_of_fragments fs) size
    ∙ ap (λ (gs : List Fragment). marks_of_fragments gs (length marks)) is ∙ marks-of_runs marks)

-- a file's state by the digest of its first bytes
pub file_state-of_bytes : (s : Job) (f : BookFile PlainHold) (bytes : List ℕ) → bytes ≡ map (marked_byte s) (shown (marks_of_file f) 0 DIGEST_LIMIT)
    → states.Whole f.size f.frozen (md5 bytes) ≡ file_state_of (file_of s (Some f))
file_state-of_bytes s f bytes is =
    let size : f.size ≡ length (map (marked_byte s) (marks_of_file f)) =
    sym (length-map (marks_of_file f) (marked_byte s) ∙ length-map-range_with_len (mark_at f.held.fragments) 0 f.size) in
    let first = is ∙ sym (take-map (marked_byte s) DIGEST_LIMIT (marks_of_file f)) in
    λ i. states.Whole (size i) f.frozen (md5 (first i))
