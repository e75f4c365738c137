-- One step of a simulated run: the client whose turn it is has one event, by what the definitions say of the moment.
use Rattle.std.specs.Prelude.{ℕ, ◌+◌, false, List, length, is_some, Option, Some, None, slice_set, if◌then◌else◌}
use Rattle.fs_types.specs.declared.answer.Answer.{Answer}
use Rattle.fs_types.specs.AnswerList.{put_answer}
use Rattle.fs_script.specs.declared.line.OpLine.{OpLine}
use Rattle.fs_script.specs.declared.line.Op.{Op}
use Rattle.fs_script.specs.declared.line.Op.TheVariants as ops
use Rattle.fs_types.specs.Pieces.{Piece}
use Rattle.fs_script.specs.Job.{Job, op_at}
use Rattle.fs_script.specs.FileMarks.{marks_at}
use Rattle.fs_script.specs.Operations.{range_of}
use Rattle.fs_script.specs.Payload.{write_of}
use Rattle.fs_script.specs.Pending.{Answering, pending}
use Rattle.fs_script.specs.Effect.{state}
use Rattle.fs_script.specs.Front.{front, is_open}
use Rattle.core_machine.specs.Doing.{Doing}
use Rattle.core_machine.specs.Moment.{Client, Moment, answering, client_of, journal, log_of, next_line, with_entry}
use Rattle.core_machine.specs.Slots.{empty_slots, with_line, without_dead}
use Rattle.core_machine.specs.Event.{Event, PathNow, known_of}
use Rattle.core_machine.specs.Events.Create.{create_event}
use Rattle.core_machine.specs.Events.Open.{open_event}
use Rattle.core_machine.specs.Events.Write.{write_event}
use Rattle.core_machine.specs.Events.Sync.{sync_event}
use Rattle.core_machine.specs.Events.Read.{read_event}
use Rattle.core_machine.specs.Events.Size.{size_event}
use Rattle.core_machine.specs.Events.Trunc.{trunc_event}
use Rattle.core_machine.specs.Events.Laminate.{laminate_event}
use Rattle.core_machine.specs.Events.Unlink.{unlink_event}

-- whose turn it is
pub record Turn : Type 0 where
  pub client : ℕ

-- the event of an operation, by what it sees of its path and what its client is in the midst of; of all operations a read
-- alone has several events
abbrev pub event_of : Job → PathNow → Doing → Op → Event
event_of s w d ops.Create = create_event w
event_of s w d ops.Open = open_event w
event_of s w d (ops.Write off text) = write_event s.shape.chunk w (write_of off text)
event_of s w d ops.Sync = sync_event w
event_of s w d (ops.Read off len own) = read_event s w d (range_of off len own)
event_of s w d ops.Size = size_event w
event_of s w d (ops.Trunc n) = trunc_event w
event_of s w d ops.Laminate = laminate_event w
event_of s w d ops.Unlink = unlink_event w

-- what line n, the operation o, sees of its path, whose journal is J, and of the log of its client
abbrev pub path_now : Job → Answering → List ℕ → List (Option Piece) → ℕ → OpLine → PathNow
path_now s A J log n o = record {
  file = state s A J (length J);
  marks = marks_at s A J (length J);
  version = length J;
  pending = pending s A o.rank o.path n;
  is_open = is_open s A o.rank o.path n;
  front = front s A J o.rank o.path n;
  at_front = known_of (state s A J (front s A J o.rank o.path n));
  free = length (empty_slots log);
}

-- the event that line n of the moment's job has now
abbrev pub event_at : Moment → ℕ → OpLine → Event
event_at m n o =
    event_of m.job (path_now m.job (answering m) (journal m o.path) (log_of m o.rank) n o) (client_of m o.rank).doing o.op

-- the answers with that to line n, if it has one
abbrev pub answers_with : ℕ → Option Answer → List (ℕ × Answer) → List (ℕ × Answer)
answers_with n None xs = xs
answers_with n (Some a) xs = put_answer n a xs

-- a client after an event of its line: an answer brings it to the next one
abbrev pub after_turn : Client → Event → Client
after_turn c e = record { place = if is_some e.answer then c.place + 1 else c.place; doing = e.doing }

-- the logs once client r's line n had this event
abbrev pub logs_with : Moment → ℕ → ℕ → Event → List (List (Option Piece))
logs_with m r n e = if e.fills then slice_set m.logs r (with_line m.job n (log_of m r)) else m.logs

-- the moment after client r's line n, the operation o, had this event, while the pieces that died in it still have their slots
abbrev pub had_event : Moment → ℕ → ℕ → OpLine → Event → Moment
had_event m r n o e = record {
  job = m.job;
  clients = slice_set m.clients r (after_turn (client_of m r) e);
  answers = answers_with n e.answer m.answers;
  journals = if e.commits then with_entry o.path n m.journals else m.journals;
  logs = logs_with m r n e;
  spent = false;
}

-- the moment after the event
abbrev pub after_event : Moment → ℕ → ℕ → OpLine → Event → Moment
after_event m r n o e = without_dead (had_event m r n o e)

abbrev pub step_line : Moment → ℕ → ℕ → Option OpLine → Moment
step_line m r n None = m
step_line m r n (Some o) = after_event m r n o (event_at m n o)

abbrev pub step_at : Moment → ℕ → Option ℕ → Moment
step_at m r None = m
step_at m r (Some n) = step_line m r n (op_at m.job n)

-- the moment after one event of the client whose turn it is; a client with no line left has none
abbrev pub step : Moment → Turn → Moment
step m t = step_at m t.client (next_line m t.client)
