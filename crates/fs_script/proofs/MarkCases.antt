-- Marks, their runs, and which pieces are live or pending, worked out by hand, in parts of 8 bytes.
use Rattle.std.proofs.Common.{◌≡◌, ℕ, List, [], ◌∷◌, Bool, Option, Some, None, true, false, refl}
use Rattle.std.specs.Prelude.{codes, bytes_eq, if◌then◌else◌}
use Rattle.fs_types.specs.AnswerList.{answer_at}
use Rattle.fs_types.specs.Marks.{Mark, mark_of, no_mark}
use Rattle.fs_types.specs.Overwrite.{shown}
use Rattle.fs_types.specs.Pieces.{Piece, Fragment}
use Rattle.fs_types.specs.declared.answer.Answer.TheVariants as answers
use Rattle.fs_script.specs.declared.line.Line.TheVariants as lines
use Rattle.fs_script.specs.declared.line.Op.{Op}
use Rattle.fs_script.specs.declared.line.Op.TheVariants as ops
use Rattle.fs_script.specs.declared.line.OpLine.{OpLine}
use Rattle.fs_script.specs.declared.line.Data.TheVariants.{Text}
use Rattle.fs_script.specs.Job.{Job, program}
use Rattle.fs_script.specs.Pending.{Answering}
use Rattle.fs_script.specs.Effect.{state}
use Rattle.fs_script.specs.Journal.{JournalsByPath}
use Rattle.fs_script.specs.FileMarks.{marks_at, present_marks, marked_bytes}
use Rattle.fs_script.specs.Live.{pieces_borne, named_paths, is_live, pending_marks, is_pending, pieces_by, live_or_pending}
use Rattle.fs_script.specs.Accepted.{accepted_pieces}
use Rattle.fs_script.specs.Runs.{runs}
use Rattle.fs_script.proofs.Cases.{overlapping, overlapping_answers, overlapping_journal}
use Rattle.fs_script.proofs.FiveLines.{path_a, on_a}
use Rattle.fs_script.proofs.TwoPhases.{other_on_a}

abbrev mark : ℕ → ℕ → Option Mark
mark line i = Some (mark_of 8 line i)

abbrev piece : ℕ → ℕ → Piece
piece line p = record { line = line; part = p }

-- client 0 commits two pieces, then two bytes in the middle of the first, then all of the first and what stands over it; then
-- it writes two bytes, and one more over each of them. Client 1 writes one byte, which is refused.
abbrev covering : Job
covering = record {
  shape = record { servers = 1; clients = 2; chunk = 8; shmem = 8; spill = 0 };
  lines =
      lines.Op (on_a ops.Create)
      ∷ lines.Op (on_a (ops.Write 0 (Text (codes "abcdefghij"))))
      ∷ lines.Op (on_a ops.Sync)
      ∷ lines.Op (on_a (ops.Write 2 (Text (codes "XY"))))
      ∷ lines.Op (on_a ops.Sync)
      ∷ lines.Op (on_a (ops.Write 0 (Text (codes "12345678"))))
      ∷ lines.Op (on_a ops.Sync)
      ∷ lines.Op (on_a (ops.Write 1 (Text (codes "pq"))))
      ∷ lines.Op (on_a (ops.Write 1 (Text (codes "rs"))))
      ∷ lines.Op (other_on_a (ops.Write 0 (Text (codes "t"))))
      ∷ [];
}

-- the answers up to the second sync
abbrev middle_answers : Answering
middle_answers = answer_at (
    (2, answers.Done 1) ∷ (3, answers.Wrote 2) ∷ (4, answers.Done 2) ∷ (5, answers.Wrote 1) ∷ (6, answers.Done 3) ∷ [])

-- all of them
abbrev last_answers : Answering
last_answers = answer_at (
    (2, answers.Done 1) ∷ (3, answers.Wrote 2) ∷ (4, answers.Done 2) ∷ (5, answers.Wrote 1) ∷ (6, answers.Done 3)
    ∷ (7, answers.Wrote 1) ∷ (8, answers.Done 4) ∷ (9, answers.Wrote 1) ∷ (10, answers.Wrote 1) ∷ (11, answers.BadF) ∷ [])

abbrev middle_journals : JournalsByPath
middle_journals p = 2 ∷ 4 ∷ 6 ∷ []

abbrev last_journals : JournalsByPath
last_journals p = 2 ∷ 4 ∷ 6 ∷ 8 ∷ []

-- ---- marks

no_marks_at_first : marks_at covering last_answers (2 ∷ 4 ∷ []) 0 ≡ None
no_marks_at_first = refl

-- the last two bytes are of the second part
marks_of_two_pieces : present_marks covering middle_answers (2 ∷ 4 ∷ [])
    ≡ mark 3 0 ∷ mark 3 1 ∷ mark 3 2 ∷ mark 3 3 ∷ mark 3 4 ∷ mark 3 5 ∷ mark 3 6 ∷ mark 3 7 ∷ mark 3 8 ∷ mark 3 9 ∷ []
marks_of_two_pieces = refl

second_part : mark 3 9 ≡ Some (record { line = 3; part = 1; place = 1 })
second_part = refl

marks_over_the_middle : marks_at covering middle_answers (2 ∷ 4 ∷ 6 ∷ []) 3 ≡ Some (record {
  cells = mark 3 0 ∷ mark 3 1 ∷ mark 5 0 ∷ mark 5 1 ∷ mark 3 4 ∷ mark 3 5 ∷ mark 3 6 ∷ mark 3 7 ∷ mark 3 8 ∷ mark 3 9 ∷ [];
  frozen = false;
})
marks_over_the_middle = refl

-- the bytes that these marks are of
bytes_over_the_middle : marked_bytes covering (marks_at covering middle_answers (2 ∷ 4 ∷ 6 ∷ []) 3)
    ≡ Some (record { cells = codes "abXYefghij"; frozen = false })
bytes_over_the_middle = refl

-- a gap has no marks, and its bytes are zeros
marks_of_gap : pieces_borne (present_marks overlapping overlapping_answers overlapping_journal) ≡ piece 3 0 ∷ piece 4 0 ∷ piece 7 0 ∷ []
marks_of_gap = refl

bytes_of_gap : marked_bytes overlapping (marks_at overlapping overlapping_answers overlapping_journal 3)
    ≡ state overlapping overlapping_answers overlapping_journal 3
bytes_of_gap = refl

-- ---- live pieces

abbrev is_live_then : Piece → Bool
is_live_then x = is_live covering middle_answers middle_journals x

abbrev is_live_last : Piece → Bool
is_live_last x = is_live covering last_answers last_journals x

paths_once : named_paths covering ≡ path_a ∷ []
paths_once = refl

-- a piece of which some bytes were written over comes before and after them, and is borne once
borne_over_the_middle : pieces_borne (present_marks covering middle_answers (2 ∷ 4 ∷ 6 ∷ [])) ≡ piece 3 0 ∷ piece 5 0 ∷ piece 3 1 ∷ []
borne_over_the_middle = refl

live_over_the_middle : live_or_pending covering middle_answers middle_journals 0 ≡ piece 3 0 ∷ piece 3 1 ∷ piece 5 0 ∷ []
live_over_the_middle = refl

live_once : is_live_then (piece 3 0) ≡ true
live_once = refl

-- the third sync covers it and what stood over it, and leaves the second piece of the line
covered_is_not_live : is_live_last (piece 3 0) ≡ false
covered_is_not_live = refl

covered_over_it_is_not_live : is_live_last (piece 5 0) ≡ false
covered_over_it_is_not_live = refl

other_piece_is_live : is_live_last (piece 3 1) ≡ true
other_piece_is_live = refl

part_without_bytes_is_not_live : is_live_last (piece 3 2) ≡ false
part_without_bytes_is_not_live = refl

-- ---- two paths

abbrev path_b : List ℕ
path_b = codes "/unifyfs/b"

abbrev on_b : Op → OpLine
on_b op = record { rank = 1; path = path_b; op = op }

-- client 0 makes file a and writes into it, and client 1 makes file b, and commits to it
abbrev two_files : Job
two_files = record {
  shape = covering.shape;
  lines =
      lines.Op (on_a ops.Create)
      ∷ lines.Op (on_b ops.Create)
      ∷ lines.Op (on_a (ops.Write 0 (Text (codes "u"))))
      ∷ lines.Op (on_b (ops.Write 0 (Text (codes "v"))))
      ∷ lines.Op (on_b ops.Sync)
      ∷ [];
}

abbrev two_files_answers : Answering
two_files_answers = answer_at (
    (2, answers.Done 1) ∷ (3, answers.Done 1) ∷ (4, answers.Wrote 1) ∷ (5, answers.Wrote 1) ∷ (6, answers.Done 2) ∷ [])

abbrev two_files_journals : JournalsByPath
two_files_journals p = if bytes_eq p path_b then 3 ∷ 6 ∷ [] else 2 ∷ []

two_paths : named_paths two_files ≡ path_a ∷ path_b ∷ []
two_paths = refl

-- the file of the second path bears it
live_at_the_second_path : is_live two_files two_files_answers two_files_journals (piece 5 0) ≡ true
live_at_the_second_path = refl

not_synced_is_not_live : is_live two_files two_files_answers two_files_journals (piece 4 0) ≡ false
not_synced_is_not_live = refl

not_synced_is_pending : is_pending two_files two_files_answers 0 (piece 4 0) ≡ true
not_synced_is_pending = refl

not_pending_for_another : is_pending two_files two_files_answers 1 (piece 4 0) ≡ false
not_pending_for_another = refl

one_of_each_client : (live_or_pending two_files two_files_answers two_files_journals 0 ≡ piece 4 0 ∷ [])
    × (live_or_pending two_files two_files_answers two_files_journals 1 ≡ piece 5 0 ∷ [])
one_of_each_client = (refl, refl)

-- ---- pending pieces

marks_pending : pending_marks covering last_answers 0 path_a ≡ no_mark ∷ mark 10 0 ∷ mark 10 1 ∷ []
marks_pending = refl

last_write_is_pending : is_pending covering last_answers 0 (piece 10 0) ≡ true
last_write_is_pending = refl

covered_is_not_pending : is_pending covering last_answers 0 (piece 9 0) ≡ false
covered_is_not_pending = refl

pending_is_not_live : is_live_last (piece 10 0) ≡ false
pending_is_not_live = refl

synced_is_not_pending : is_pending covering last_answers 0 (piece 7 0) ≡ false
synced_is_not_pending = refl

refused_is_not_pending : is_pending covering last_answers 1 (piece 11 0) ≡ false
refused_is_not_pending = refl

-- ---- how many

pieces_of_client : pieces_by covering 0 ≡ piece 3 0 ∷ piece 3 1 ∷ piece 5 0 ∷ piece 7 0 ∷ piece 9 0 ∷ piece 10 0 ∷ []
pieces_of_client = refl

live_or_pending_last : live_or_pending covering last_answers last_journals 0 ≡ piece 3 1 ∷ piece 7 0 ∷ piece 10 0 ∷ []
live_or_pending_last = refl

accepted_of_client : accepted_pieces covering last_answers (program covering 0) ≡ 6
accepted_of_client = refl

nothing_of_another : live_or_pending covering last_answers last_journals 1 ≡ []
nothing_of_another = refl

refused_is_not_accepted : accepted_pieces covering last_answers (program covering 1) ≡ 0
refused_is_not_accepted = refl

-- ---- runs

abbrev run : ℕ → ℕ → Piece → ℕ → Fragment
run at len x from = record { at = at; len = len; piece = x; from = from }

-- two runs of one piece with another's between them, and one of a second piece
runs_over_the_middle : runs (present_marks covering middle_answers (2 ∷ 4 ∷ 6 ∷ []))
    ≡ run 0 2 (piece 3 0) 0 ∷ run 2 2 (piece 5 0) 0 ∷ run 4 4 (piece 3 0) 4 ∷ run 8 2 (piece 3 1) 0 ∷ []
runs_over_the_middle = refl

-- what is shown from the second byte of the first run on
runs_shown : runs (shown (present_marks covering middle_answers (2 ∷ 4 ∷ 6 ∷ [])) 1 2) ≡ run 0 1 (piece 3 0) 1 ∷ run 1 1 (piece 5 0) 0 ∷ []
runs_shown = refl

-- zeros that nobody wrote are in no run
runs_round_a_gap : runs (present_marks overlapping overlapping_answers overlapping_journal)
    ≡ run 0 3 (piece 3 0) 0 ∷ run 3 3 (piece 4 0) 0 ∷ run 10 1 (piece 7 0) 0 ∷ []
runs_round_a_gap = refl

no_runs : runs [] ≡ []
no_runs = refl
