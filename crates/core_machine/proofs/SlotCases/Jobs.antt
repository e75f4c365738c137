-- Jobs whose slots are worked out by hand, and what their moments are made of.
use Rattle.fs_types.proofs.Common.{ℕ, ◌+◌, false, List, [], ◌∷◌, ◌++◌, map, replicate, Option, Some, None, codes}
use Rattle.fs_script.specs.declared.line.Line.{Line}
use Rattle.fs_script.specs.declared.line.Line.TheVariants as lines
use Rattle.fs_script.specs.declared.line.Op.TheVariants as ops
use Rattle.fs_script.specs.Vocabulary.{Job, Piece, SlotLine}
use Rattle.core_machine.specs.Vocabulary.{Op, Text, Doing, reading, Client, Moment, fresh_client, holds_in, log_of, step, Turn}
use Rattle.fs_script.proofs.CallerLemmas.{path_a, on_a}

-- client 0 makes a file, and writes abc and commits it; after the barrier it writes foo over that and commits it, and does these
-- lines; client 1 opens the file and reads it
abbrev pub job_with : ℕ → List Line → Job
job_with slots more = record {
  shape = record { servers = 1; clients = 2; chunk = 64; shmem = slots; spill = 0 };
  lines =
      lines.Op (on_a ops.Create)
      ∷ lines.Op (on_a (ops.Write 0 (Text (codes "abc"))))
      ∷ lines.Op (on_a ops.Sync)
      ∷ lines.Barrier
      ∷ lines.Op (on_a (ops.Write 0 (Text (codes "foo"))))
      ∷ lines.Op (on_a ops.Sync)
      ∷ more ++ lines.Op (record { rank = 1; path = path_a; op = ops.Open })
      ∷ lines.Op (record { rank = 1; path = path_a; op = ops.Read 0 3 false })
      ∷ [];
}

abbrev pub writes_bar : Line
writes_bar = lines.Op (on_a (ops.Write 0 (Text (codes "bar"))))

-- part p of line n, in a slot
abbrev pub part_at : ℕ → ℕ → Option Piece
part_at n p = Some (record { line = n; part = p })

-- the only piece of a line
abbrev pub piece : ℕ → Option Piece
piece n = part_at n 0

-- an operation of a client on the one path
abbrev pub by_client : ℕ → Op → Line
by_client r op = lines.Op (record { rank = r; path = path_a; op = op })

-- the read that looked up version 2, and fetched so many runs
abbrev pub read_with : ℕ → Doing
read_with fetched = reading (record {
  version = 2;
  marks = map (λ i. Some (record { line = 3; part = 0; place = i })) (0 ∷ 1 ∷ 2 ∷ []);
  fetched = fetched;
})

abbrev pub client : ℕ → Doing → Client
client place doing = record { place = place; doing = doing }

abbrev pub turn_of : ℕ → Turn
turn_of r = record { client = r }

-- the moment after turns of these clients
abbrev pub run : List ℕ → Moment → Moment
run [] m = m
run (r ∷ rs) m = run rs (step m (turn_of r))

-- how often what is in each of client r's slots is held
abbrev pub holds_by : ℕ → Moment → List ℕ
holds_by r m = map (holds_in m r) (log_of m r)

-- and in each of client 0's
abbrev pub holds : Moment → List ℕ
holds m = holds_by 0 m

abbrev pub slot_line : ℕ → ℕ → ℕ → SlotLine
slot_line r held free = record { rank = r; held = held; free = free; faults = 0 }

-- the first moment of a job on the one path
abbrev pub start_of : Job → Moment
start_of s = record {
  job = s;
  clients = replicate s.shape.clients fresh_client;
  answers = [];
  journals = (path_a, []) ∷ [];
  logs = replicate s.shape.clients (replicate (s.shape.shmem + s.shape.spill) None);
  spent = false;
}
