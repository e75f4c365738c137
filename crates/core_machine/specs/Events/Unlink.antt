-- An unlink takes the file away, frozen or not.
use Rattle.std.specs.Prelude.{ℕ, ◌+◌, Some, None}
use Rattle.fs_script.specs.Vocabulary.{File}
use Rattle.core_machine.specs.Event.{Event, PathNow, answered, committed_as, if_open}
use Rattle.fs_types.specs.declared.answer.Answer.TheVariants as answers

abbrev pub unlink_over : PathNow → File ℕ → Event
unlink_over w None = answered (answers.NoEnt w.version)
unlink_over w (Some f) = committed_as (w.version + 1)

abbrev pub unlink_event : PathNow → Event
unlink_event w = if_open w (unlink_over w w.file)
