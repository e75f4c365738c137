-- A file that is cut and extended: which pieces stay, and which slots are free in the event of the cut.
use Rattle.fs_types.proofs.Common.{◌≡◌, List, [], ◌∷◌, ◌++◌, Option, Some, None, refl, false, codes}
use Rattle.fs_script.specs.Vocabulary.{Job, Piece}
use Rattle.core_machine.specs.Vocabulary.{Text, Moment, file_now}
use Rattle.fs_script.proofs.CallerLemmas.{path_a}
use Rattle.core_machine.proofs.SlotCases.Jobs.{by_client, part_at, run, holds, start_of}
use Rattle.fs_types.specs.declared.answer.Answer.TheVariants as answers
use Rattle.fs_types.specs.declared.answer.Body.TheVariants as bodies
use Rattle.fs_script.specs.declared.line.Line.TheVariants as lines
use Rattle.fs_script.specs.declared.line.Op.TheVariants as ops

abbrev empty_log : List (Option Piece)
empty_log = None ∷ None ∷ None ∷ None ∷ []

-- client 0 writes abcdef in two pieces and commits it; after the barrier it writes gh over its end, cuts the file within the first
-- piece, extends it, cuts it to nothing, and has nothing to commit; client 1 opens the file and reads it
abbrev cuts : Job
cuts = record {
  shape = record { servers = 1; clients = 2; chunk = 4; shmem = 4; spill = 0 };
  lines =
      by_client 0 ops.Create
      ∷ by_client 0 (ops.Write 0 (Text (codes "abcdef")))
      ∷ by_client 0 ops.Sync
      ∷ lines.Barrier
      ∷ by_client 0 (ops.Write 4 (Text (codes "gh")))
      ∷ by_client 0 (ops.Trunc 3)
      ∷ by_client 0 (ops.Trunc 5)
      ∷ by_client 0 (ops.Trunc 0)
      ∷ by_client 0 ops.Sync
      ∷ by_client 1 ops.Open
      ∷ by_client 1 (ops.Read 0 9 false)
      ∷ [];
}

-- both pieces of abcdef are live, and gh is pending
abbrev written : Moment
written = run (0 ∷ 0 ∷ 0 ∷ 0 ∷ []) (start_of cuts)

three_held : holds written ≡ 1 ∷ 1 ∷ 1 ∷ 0 ∷ []
three_held = refl

-- a piece that is cut in its middle stays; what lay behind the cut dies in that event, also gh, which was committed in it
abbrev cut_within : Moment
cut_within = run (0 ∷ []) written

first_stays : cut_within.logs ≡ (part_at 3 0 ∷ None ∷ None ∷ None ∷ []) ∷ empty_log ∷ []
first_stays = refl

abc_is : file_now cut_within path_a ≡ Some (record { cells = codes "abc"; frozen = false })
abc_is = refl

-- the file is extended by zeros, and not by the bytes that were cut off
abbrev extended : Moment
extended = run (0 ∷ []) cut_within

zeros_follow : file_now extended path_a ≡ Some (record { cells = codes "abc" ++ 0 ∷ 0 ∷ []; frozen = false })
zeros_follow = refl

first_held : holds extended ≡ 1 ∷ 0 ∷ 0 ∷ 0 ∷ []
first_held = refl

-- cut to nothing, it holds no slot
abbrev emptied : Moment
emptied = run (0 ∷ []) extended

none_held : emptied.logs ≡ empty_log ∷ empty_log ∷ []
none_held = refl

-- and a sync commits nothing after it
answers_are : (run (0 ∷ []) emptied).answers
    ≡ (2, answers.Done 1)
    ∷ (3, answers.Wrote 2)
    ∷ (4, answers.Done 2)
    ∷ (6, answers.Wrote 1)
    ∷ (7, answers.Done 3)
    ∷ (8, answers.Done 4)
    ∷ (9, answers.Done 5)
    ∷ (10, answers.Done 5)
    ∷ []
answers_are = refl

-- ---- client 1 reads while the file is cut to nothing

abbrev looked_up : Moment
looked_up = run (1 ∷ 1 ∷ []) extended

first_is_named : holds looked_up ≡ 2 ∷ 0 ∷ 0 ∷ 0 ∷ []
first_is_named = refl

first_is_read : holds (run (0 ∷ []) looked_up) ≡ 1 ∷ 0 ∷ 0 ∷ 0 ∷ []
first_is_read = refl

-- the read shows what it looked up, and the slot is free
abbrev was_read : Moment
was_read = run (0 ∷ 1 ∷ 1 ∷ []) looked_up

first_is_free : was_read.logs ≡ empty_log ∷ empty_log ∷ []
first_is_free = refl

shows_zeros : was_read.answers
    ≡ (2, answers.Done 1)
    ∷ (3, answers.Wrote 2)
    ∷ (4, answers.Done 2)
    ∷ (6, answers.Wrote 1)
    ∷ (7, answers.Done 3)
    ∷ (8, answers.Done 4)
    ∷ (9, answers.Done 5)
    ∷ (11, answers.Done 4)
    ∷ (12, answers.Shown 4 5 (bodies.Hex (codes "abc" ++ 0 ∷ 0 ∷ [])))
    ∷ []
shows_zeros = refl
