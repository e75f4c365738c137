-- Moments of two clients with a barrier between their lines, worked out by hand.
use Rattle.fs_types.proofs.Common.{◌≡◌, ℕ, List, [], ◌∷◌, Option, Some, None, refl, false, codes}
use Rattle.fs_script.specs.Vocabulary.{Job, Piece}
use Rattle.core_machine.specs.Vocabulary.{Text, nothing, Client, Moment, fresh_client, ready, report_of, Turn, step}
use Rattle.fs_script.proofs.CallerLemmas.{path_a, on_a}
use Rattle.fs_types.specs.declared.answer.Answer.TheVariants as answers
use Rattle.fs_script.specs.declared.line.Line.TheVariants as lines
use Rattle.fs_script.specs.declared.line.Op.TheVariants as ops

-- client 0 makes a file; after the barrier it writes line 4 and commits it, and client 1 tries to
-- make the file again
abbrev pub two_clients : Job
two_clients = record {
  shape = record { servers = 1; clients = 2; chunk = 64; shmem = 4; spill = 0 };
  lines =
      lines.Op (on_a ops.Create)
      ∷ lines.Barrier
      ∷ lines.Op (on_a (ops.Write 0 (Text (codes "hi"))))
      ∷ lines.Op (record { rank = 1; path = path_a; op = ops.Create })
      ∷ lines.Op (on_a ops.Sync)
      ∷ [];
}

abbrev empty_log : List (Option Piece)
empty_log = None ∷ None ∷ None ∷ None ∷ []

abbrev start : Moment
start = record {
  job = two_clients;
  clients = fresh_client ∷ fresh_client ∷ [];
  answers = [];
  journals = (path_a, []) ∷ [];
  logs = empty_log ∷ empty_log ∷ [];
  spent = false;
}

-- whose turn it is
abbrev turn_of : ℕ → Turn
turn_of r = record { client = r }

-- a client that has done one line
abbrev after_one : Client
after_one = record { place = 1; doing = nothing }

-- client 1 has a line, whose phase hasn't begun
first_phase : ready start ≡ 0 ∷ []
first_phase = refl

abbrev second : Moment
second = step start (turn_of 0)

second_phase : ready second ≡ 0 ∷ 1 ∷ []
second_phase = refl

-- client 1 goes first, and then has no line left
abbrev other_first : Moment
other_first = step second (turn_of 1)

other_is : other_first ≡ record {
  job = two_clients;
  clients = after_one ∷ after_one ∷ [];
  answers = (2, answers.Done 1) ∷ (5, answers.Exists 1) ∷ [];
  journals = (path_a, 2 ∷ []) ∷ [];
  logs = empty_log ∷ empty_log ∷ [];
  spent = false;
}
other_is = refl

other_done : ready other_first ≡ 0 ∷ []
other_done = refl

-- it goes last, and finds the version that client 0 made
abbrev other_last : Moment
other_last = step (step (step second (turn_of 0)) (turn_of 0)) (turn_of 1)

last_is : other_last.answers
    ≡ (2, answers.Done 1) ∷ (4, answers.Wrote 1) ∷ (5, answers.Exists 2) ∷ (6, answers.Done 2) ∷ []
last_is = refl

none_ready_at_end : ready other_last ≡ []
none_ready_at_end = refl

-- the piece that client 0 wrote stands in its lowest slot
logs_at_end : other_last.logs ≡ (Some (record { line = 4; part = 0 }) ∷ None ∷ None ∷ None ∷ []) ∷ empty_log ∷ []
logs_at_end = refl

slots_at_end : (report_of other_last).slots
    ≡ record { rank = 0; held = 1; free = 3; faults = 0 } ∷ record { rank = 1; held = 0; free = 4; faults = 0 } ∷ []
slots_at_end = refl
