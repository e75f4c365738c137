-- An open finds the file as it is now.
use Rattle.std.specs.Prelude.{ℕ, Some, None}
use Rattle.fs_types.specs.declared.answer.Answer.TheVariants as answers
use Rattle.fs_types.specs.PlainFile.{File}
use Rattle.core_machine.specs.Event.{Event, PathNow, answered}

abbrev pub open_over : PathNow → File ℕ → Event
open_over w None = answered (answers.NoEnt w.version)
open_over w (Some f) = answered (answers.Done w.version)

abbrev pub open_event : PathNow → Event
open_event w = open_over w w.file
