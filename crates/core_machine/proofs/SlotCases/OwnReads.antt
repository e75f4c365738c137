-- Reads with the reader's own pending writes put over the file: what they show, and which slots they hold.
use Rattle.fs_types.proofs.Common.{◌≡◌, ℕ, List, [], ◌∷◌, ◌++◌, Option, None, refl, true, false, codes}
use Rattle.fs_script.specs.Vocabulary.{Answer, Job, Piece}
use Rattle.core_machine.specs.Vocabulary.{Text, Moment}
use Rattle.core_machine.proofs.SlotCases.Jobs.{by_client, part_at, piece, run, holds, holds_by, start_of}
use Rattle.fs_types.specs.declared.answer.Answer.TheVariants as answers
use Rattle.fs_types.specs.declared.answer.Body.TheVariants as bodies
use Rattle.fs_script.specs.declared.line.Line.TheVariants as lines
use Rattle.fs_script.specs.declared.line.Op.TheVariants as ops

abbrev empty_log : List (Option Piece)
empty_log = None ∷ None ∷ None ∷ None ∷ []

-- client 0 writes abcdefgh in two pieces and commits it; after the barrier client 1 opens the file, writes EFGH over the second
-- piece and Z one place past the end, reads with that, reads without it, and commits it; client 0 may take the file away
abbrev own_writes : Job
own_writes = record {
  shape = record { servers = 1; clients = 2; chunk = 4; shmem = 4; spill = 0 };
  lines =
      by_client 0 ops.Create
      ∷ by_client 0 (ops.Write 0 (Text (codes "abcdefgh")))
      ∷ by_client 0 ops.Sync
      ∷ lines.Barrier
      ∷ by_client 1 ops.Open
      ∷ by_client 1 (ops.Write 4 (Text (codes "EFGH")))
      ∷ by_client 1 (ops.Write 9 (Text (codes "Z")))
      ∷ by_client 1 (ops.Read 0 16 true)
      ∷ by_client 1 (ops.Read 0 16 false)
      ∷ by_client 1 ops.Sync
      ∷ by_client 0 ops.Unlink
      ∷ [];
}

abbrev written : Moment
written = run (0 ∷ 0 ∷ 0 ∷ 1 ∷ 1 ∷ 1 ∷ []) (start_of own_writes)

-- what is shown is counted twice: the first piece of the file, and both pending ones; the second piece of the file is covered,
-- and isn't named
abbrev looked_up : Moment
looked_up = run (1 ∷ []) written

covered_is_not_named : holds looked_up ≡ 2 ∷ 1 ∷ 0 ∷ 0 ∷ []
covered_is_not_named = refl

pending_are_named : holds_by 1 looked_up ≡ 2 ∷ 2 ∷ 0 ∷ 0 ∷ []
pending_are_named = refl

-- three runs are fetched, and shown with a zero where nobody wrote
abbrev first_answers : List (ℕ × Answer)
first_answers =
    (2, answers.Done 1)
    ∷ (3, answers.Wrote 2)
    ∷ (4, answers.Done 2)
    ∷ (6, answers.Done 2)
    ∷ (7, answers.Wrote 1)
    ∷ (8, answers.Wrote 1)
    ∷ []

abbrev shown_with_own : ℕ × Answer
shown_with_own = (9, answers.Shown 2 10 (bodies.Hex (codes "abcdEFGH" ++ 0 ∷ codes "Z")))

abbrev was_read : Moment
was_read = run (1 ∷ 1 ∷ 1 ∷ 1 ∷ []) looked_up

all_held_once : holds was_read ++ holds_by 1 was_read ≡ 1 ∷ 1 ∷ 0 ∷ 0 ∷ 1 ∷ 1 ∷ 0 ∷ 0 ∷ []
all_held_once = refl

answers_are : was_read.answers ≡ first_answers ++ shown_with_own ∷ []
answers_are = refl

-- the other read names the file's pieces alone, and shows nothing of what is pending
file_is_named : holds (run (1 ∷ []) was_read) ++ holds_by 1 (run (1 ∷ []) was_read) ≡ 2 ∷ 2 ∷ 0 ∷ 0 ∷ 1 ∷ 1 ∷ 0 ∷ 0 ∷ []
file_is_named = refl

-- once that is committed, the covered piece's slot is free
abbrev synced : Moment
synced = run (1 ∷ 1 ∷ 1 ∷ 1 ∷ 1 ∷ []) was_read

later_answers : synced.answers
    ≡ first_answers ++ shown_with_own ∷ (10, answers.Shown 2 8 (bodies.Hex (codes "abcdefgh"))) ∷ (11, answers.Done 3) ∷ []
later_answers = refl

covered_is_free : synced.logs ≡ (part_at 3 0 ∷ None ∷ None ∷ None ∷ []) ∷ (piece 7 ∷ piece 8 ∷ None ∷ None ∷ []) ∷ []
covered_is_free = refl

-- ---- the file is taken away during the first read

abbrev unlinked : Moment
unlinked = run (0 ∷ []) looked_up

-- the read alone holds the first piece, and the covered one is free; what is pending stays so
read_and_pending : holds unlinked ++ holds_by 1 unlinked ≡ 1 ∷ 0 ∷ 0 ∷ 0 ∷ 2 ∷ 2 ∷ 0 ∷ 0 ∷ []
read_and_pending = refl

-- the read shows what it looked up; the other one and the sync find no file, and so no slot is held
abbrev ended : Moment
ended = run (1 ∷ 1 ∷ 1 ∷ 1 ∷ 1 ∷ 1 ∷ []) unlinked

none_found : ended.answers
    ≡ first_answers ++ shown_with_own ∷ (10, answers.NoEnt 3) ∷ (11, answers.NoEnt 3) ∷ (12, answers.Done 3) ∷ []
none_found = refl

none_held : ended.logs ≡ empty_log ∷ empty_log ∷ []
none_held = refl
