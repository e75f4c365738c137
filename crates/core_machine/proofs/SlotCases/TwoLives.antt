-- A file that is taken away and made again: what a read under way still shows of the first one, and holds; what becomes of pending
-- writes; and which versions the answers print.
use Rattle.fs_types.proofs.Common.{◌≡◌, ℕ, List, [], ◌∷◌, map, Option, Some, None, refl, false, codes}
use Rattle.fs_script.specs.Vocabulary.{File, Job, Piece, state}
use Rattle.core_machine.specs.Vocabulary.{Op, Text, Moment, answering, journal, ready, report_of}
use Rattle.fs_script.proofs.CallerLemmas.{path_a}
use Rattle.core_machine.proofs.SlotCases.Jobs.{by_client, piece, run, holds, holds_by, slot_line, start_of}
use Rattle.fs_types.specs.declared.answer.Answer.TheVariants as answers
use Rattle.fs_types.specs.declared.answer.Body.TheVariants as bodies
use Rattle.fs_script.specs.declared.line.Line.TheVariants as lines
use Rattle.fs_script.specs.declared.line.Op.TheVariants as ops

abbrev empty_log : List (Option Piece)
empty_log = None ∷ None ∷ None ∷ []

abbrev writes : ℕ → List ℕ → Op
writes off bytes = ops.Write off (Text bytes)

-- ---- a read of the first file, while its path gets another

-- client 0 makes a file with abc; after the barrier it writes def behind that, takes the file away, tries to once more, and makes
-- another with xy; client 1 opens the path and reads twice
abbrev two_files : Job
two_files = record {
  shape = record { servers = 1; clients = 2; chunk = 64; shmem = 3; spill = 0 };
  lines =
      by_client 0 ops.Create
      ∷ by_client 0 (writes 0 (codes "abc"))
      ∷ by_client 0 ops.Sync
      ∷ lines.Barrier
      ∷ by_client 0 (writes 3 (codes "def"))
      ∷ by_client 0 ops.Unlink
      ∷ by_client 0 ops.Unlink
      ∷ by_client 0 ops.Create
      ∷ by_client 0 (writes 0 (codes "xy"))
      ∷ by_client 0 ops.Sync
      ∷ by_client 1 ops.Open
      ∷ by_client 1 (ops.Read 0 9 false)
      ∷ by_client 1 (ops.Read 0 9 false)
      ∷ [];
}

-- client 1 looked up what abc shows, and def is pending
abbrev looked_up : Moment
looked_up = run (0 ∷ 0 ∷ 0 ∷ 1 ∷ 1 ∷ 0 ∷ []) (start_of two_files)

abc_is_named : holds looked_up ≡ 2 ∷ 1 ∷ 0 ∷ []
abc_is_named = refl

-- the file is gone, and what its client had pending: the read alone holds abc
abbrev unlinked : Moment
unlinked = run (0 ∷ []) looked_up

def_is_free : unlinked.logs ≡ (piece 3 ∷ None ∷ None ∷ []) ∷ empty_log ∷ []
def_is_free = refl

abc_is_read : holds unlinked ≡ 1 ∷ 0 ∷ 0 ∷ []
abc_is_read = refl

-- so it is while the other file is made
abbrev made_again : Moment
made_again = run (0 ∷ 0 ∷ 0 ∷ 0 ∷ []) unlinked

both_held : holds made_again ≡ 1 ∷ 1 ∷ 0 ∷ []
both_held = refl

-- until the read shows it, in its second event from there on
still_held : holds (run (1 ∷ []) made_again) ≡ 1 ∷ 1 ∷ 0 ∷ []
still_held = refl

abbrev was_read : Moment
was_read = run (1 ∷ 1 ∷ []) made_again

abc_is_free : was_read.logs ≡ (None ∷ piece 10 ∷ None ∷ []) ∷ empty_log ∷ []
abc_is_free = refl

-- the other read shows the other file
abbrev ended : Moment
ended = run (1 ∷ 1 ∷ 1 ∷ []) was_read

answers_are : ended.answers
    ≡ (2, answers.Done 1)
    ∷ (3, answers.Wrote 1)
    ∷ (4, answers.Done 2)
    ∷ (6, answers.Wrote 1)
    ∷ (7, answers.Done 3)
    ∷ (8, answers.NoEnt 3)
    ∷ (9, answers.Done 4)
    ∷ (10, answers.Wrote 1)
    ∷ (11, answers.Done 5)
    ∷ (12, answers.Done 2)
    ∷ (13, answers.Shown 2 3 (bodies.Hex (codes "abc")))
    ∷ (14, answers.Shown 5 2 (bodies.Hex (codes "xy")))
    ∷ []
answers_are = refl

none_ready : ready ended ≡ []
none_ready = refl

slots_at_end : (report_of ended).slots ≡ slot_line 0 1 2 ∷ slot_line 1 0 3 ∷ []
slots_at_end = refl

-- the file at each version: none, empty, abc, none again, empty again, and xy
abbrev file_with : List ℕ → File ℕ
file_with bytes = Some (record { cells = bytes; frozen = false })

versions_are : map (state two_files (answering ended) (journal ended path_a)) (0 ∷ 1 ∷ 2 ∷ 3 ∷ 4 ∷ 5 ∷ [])
    ≡ None ∷ file_with [] ∷ file_with (codes "abc") ∷ None ∷ file_with [] ∷ file_with (codes "xy") ∷ []
versions_are = refl

-- ---- another client's pending writes

-- client 0 makes a file, and after the barrier takes it away and makes it again; client 1 opens it and writes hey, and tries to
-- commit that and to read; then it commits nothing, and asks for the size
abbrev pending_over : Job
pending_over = record {
  shape = record { servers = 1; clients = 2; chunk = 64; shmem = 3; spill = 0 };
  lines =
      by_client 0 ops.Create
      ∷ lines.Barrier
      ∷ by_client 0 ops.Unlink
      ∷ by_client 0 ops.Create
      ∷ by_client 1 ops.Open
      ∷ by_client 1 (writes 0 (codes "hey"))
      ∷ by_client 1 ops.Sync
      ∷ by_client 1 (ops.Read 0 9 false)
      ∷ by_client 1 ops.Sync
      ∷ by_client 1 ops.Size
      ∷ [];
}

-- the file is gone, and hey is still pending
abbrev hey_waits : Moment
hey_waits = run (0 ∷ 1 ∷ 1 ∷ 0 ∷ []) (start_of pending_over)

hey_is_held : holds_by 1 hey_waits ≡ 1 ∷ 0 ∷ 0 ∷ []
hey_is_held = refl

-- until its client's sync is answered that there is no file
hey_is_free : (run (1 ∷ []) hey_waits).logs ≡ empty_log ∷ empty_log ∷ []
hey_is_free = refl

-- and nothing of it comes into the other file
other_answers : (run (1 ∷ 1 ∷ 0 ∷ 1 ∷ 1 ∷ []) hey_waits).answers
    ≡ (2, answers.Done 1)
    ∷ (4, answers.Done 2)
    ∷ (5, answers.Done 3)
    ∷ (6, answers.Done 1)
    ∷ (7, answers.Wrote 1)
    ∷ (8, answers.NoEnt 2)
    ∷ (9, answers.NoEnt 2)
    ∷ (10, answers.Done 3)
    ∷ (11, answers.Sized 3 0 false)
    ∷ []
other_answers = refl
