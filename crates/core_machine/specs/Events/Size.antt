-- A size tells the length of the file as it is now.
use Rattle.std.specs.Prelude.{ℕ, length, Some, None}
use Rattle.fs_types.specs.declared.answer.Answer.TheVariants as answers
use Rattle.fs_types.specs.PlainFile.{File}
use Rattle.core_machine.specs.Event.{Event, PathNow, answered, if_open}

abbrev pub size_over : PathNow → File ℕ → Event
size_over w None = answered (answers.NoEnt w.version)
size_over w (Some f) = answered (answers.Sized w.version (length f.cells) f.frozen)

abbrev pub size_event : PathNow → Event
size_event w = if_open w (size_over w w.file)
