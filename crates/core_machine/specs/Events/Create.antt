-- A create makes a file where there is none.
use Rattle.std.specs.Prelude.{ℕ, ◌+◌, Some, None}
use Rattle.fs_script.specs.Vocabulary.{File}
use Rattle.core_machine.specs.Event.{Event, PathNow, answered, committed_as}
use Rattle.fs_types.specs.declared.answer.Answer.TheVariants as answers

abbrev pub create_over : PathNow → File ℕ → Event
create_over w None = committed_as (w.version + 1)
create_over w (Some f) = answered (answers.Exists w.version)

abbrev pub create_event : PathNow → Event
create_event w = create_over w w.file
