-- Files that are overwritten in part and then wholly: which pieces are live, and which slots hold them.
use Rattle.fs_types.proofs.Common.{◌≡◌, ℕ, List, [], ◌∷◌, ◌++◌, map, Option, Some, None, refl, true, false, Bool, codes}
use Rattle.fs_script.specs.Vocabulary.{Answer, Job, Mark, Piece, is_live, cells_of}
use Rattle.core_machine.specs.Vocabulary.{Op, OpLine, Text, nothing, Moment, answering, journal, marks_now, file_now, log_of, fresh_client}
use Rattle.core_machine.specs.Vocabulary.{report_of}
use Rattle.fs_script.proofs.CallerLemmas.{path_a, on_a}
use Rattle.core_machine.proofs.SlotCases.Jobs.{piece, client, run, holds, slot_line}
use Rattle.fs_types.specs.declared.answer.Answer.TheVariants as answers
use Rattle.fs_types.specs.declared.answer.Body.TheVariants as bodies
use Rattle.fs_script.specs.declared.line.Line.TheVariants as lines
use Rattle.fs_script.specs.declared.line.Op.TheVariants as ops

-- ---- one client

-- abcde is written and committed, and XY over bc; the file is read; vwxyz is written over it all
abbrev one_client : Job
one_client = record {
  shape = record { servers = 1; clients = 1; chunk = 64; shmem = 4; spill = 0 };
  lines =
      lines.Op (on_a ops.Create)
      ∷ lines.Op (on_a (ops.Write 0 (Text (codes "abcde"))))
      ∷ lines.Op (on_a ops.Sync)
      ∷ lines.Op (on_a (ops.Write 1 (Text (codes "XY"))))
      ∷ lines.Op (on_a ops.Sync)
      ∷ lines.Op (on_a (ops.Read 0 9 false))
      ∷ lines.Op (on_a (ops.Write 0 (Text (codes "vwxyz"))))
      ∷ lines.Op (on_a ops.Sync)
      ∷ [];
}

abbrev moment_at : ℕ → List (ℕ × Answer) → List ℕ → List (Option Piece) → Moment
moment_at place given committed log = record {
  job = one_client;
  clients = client place nothing ∷ [];
  answers = given;
  journals = (path_a, committed) ∷ [];
  logs = log ∷ [];
  spent = false;
}

abbrev start : Moment
start = moment_at 0 [] [] (None ∷ None ∷ None ∷ None ∷ [])

abbrev first_answers : List (ℕ × Answer)
first_answers = (2, answers.Done 1) ∷ (3, answers.Wrote 1) ∷ (4, answers.Done 2) ∷ (5, answers.Wrote 1) ∷ (6, answers.Done 3) ∷ []

abbrev overwritten : Moment
overwritten = moment_at 5 first_answers (2 ∷ 4 ∷ 6 ∷ []) (piece 3 ∷ piece 5 ∷ None ∷ None ∷ [])

overwritten_is : run (0 ∷ 0 ∷ 0 ∷ 0 ∷ 0 ∷ []) start ≡ overwritten
overwritten_is = refl

abbrev live_piece : Moment → ℕ → Bool
live_piece m n = is_live m.job (answering m) (journal m) (record { line = n; part = 0 })

-- both pieces have bytes in the file
both_live : map (live_piece overwritten) (3 ∷ 5 ∷ 8 ∷ []) ≡ true ∷ true ∷ false ∷ []
both_live = refl

abbrev mark : ℕ → ℕ → Option Mark
mark line place = Some (record { line = line; part = 0; place = place })

marks_are : cells_of (marks_now overwritten path_a) ≡ mark 3 0 ∷ mark 5 0 ∷ mark 5 1 ∷ mark 3 3 ∷ mark 3 4 ∷ []
marks_are = refl

-- a read names both, and fetches three runs
both_named : holds (run (0 ∷ []) overwritten) ≡ 2 ∷ 2 ∷ 0 ∷ 0 ∷ []
both_named = refl

abbrev was_read : Moment
was_read = moment_at 6 (first_answers ++ (7, answers.Shown 3 5 (bodies.Hex (codes "aXYde"))) ∷ []) (2 ∷ 4 ∷ 6 ∷ [])
    (piece 3 ∷ piece 5 ∷ None ∷ None ∷ [])

five_events : run (0 ∷ 0 ∷ 0 ∷ 0 ∷ 0 ∷ []) overwritten ≡ was_read
five_events = refl

-- the new piece is pending, and the old ones are live until it is committed
three_held : holds (run (0 ∷ []) was_read) ≡ 1 ∷ 1 ∷ 1 ∷ 0 ∷ []
three_held = refl

abbrev ended : Moment
ended = run (0 ∷ 0 ∷ []) was_read

one_live : map (live_piece ended) (3 ∷ 5 ∷ 8 ∷ []) ≡ false ∷ false ∷ true ∷ []
one_live = refl

log_at_end : log_of ended 0 ≡ None ∷ None ∷ piece 8 ∷ None ∷ []
log_at_end = refl

-- ---- two clients

abbrev by_second : Op → OpLine
by_second op = record { rank = 1; path = path_a; op = op }

-- client 0 writes aa, and client 1 b over the second byte
abbrev two_clients : Job
two_clients = record {
  shape = record { servers = 1; clients = 2; chunk = 64; shmem = 4; spill = 0 };
  lines =
      lines.Op (on_a ops.Create)
      ∷ lines.Barrier
      ∷ lines.Op (on_a (ops.Write 0 (Text (codes "aa"))))
      ∷ lines.Op (on_a ops.Sync)
      ∷ lines.Op (by_second ops.Open)
      ∷ lines.Op (by_second (ops.Write 1 (Text (codes "b"))))
      ∷ lines.Op (by_second ops.Sync)
      ∷ [];
}

abbrev both_start : Moment
both_start = record {
  job = two_clients;
  clients = fresh_client ∷ fresh_client ∷ [];
  answers = [];
  journals = (path_a, []) ∷ [];
  logs = (None ∷ None ∷ None ∷ None ∷ []) ∷ (None ∷ None ∷ None ∷ None ∷ []) ∷ [];
  spent = false;
}

-- client 0 commits first: each has a byte in the file
abbrev second_last : Moment
second_last = run (0 ∷ 0 ∷ 0 ∷ 1 ∷ 1 ∷ 1 ∷ []) both_start

ab_is : file_now second_last path_a ≡ Some (record { cells = codes "ab"; frozen = false })
ab_is = refl

one_each : (report_of second_last).slots ≡ slot_line 0 1 3 ∷ slot_line 1 1 3 ∷ []
one_each = refl

-- client 1 commits first, and client 0 over its byte
abbrev first_last : Moment
first_last = run (0 ∷ 1 ∷ 1 ∷ 1 ∷ 0 ∷ 0 ∷ []) both_start

aa_is : file_now first_last path_a ≡ Some (record { cells = codes "aa"; frozen = false })
aa_is = refl

none_of_second : (report_of first_last).slots ≡ slot_line 0 1 3 ∷ slot_line 1 0 4 ∷ []
none_of_second = refl
