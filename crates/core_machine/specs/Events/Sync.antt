-- A sync commits what is pending, if something is and the file may be changed.
use Rattle.std.specs.Prelude.{ℕ, ◌+◌, Some, None, if◌then◌else◌}
use Rattle.fs_script.specs.Vocabulary.{File, has_any}
use Rattle.core_machine.specs.Event.{Event, PathNow, answered, committed_as, if_open}
use Rattle.fs_types.specs.declared.answer.Answer.TheVariants as answers

abbrev pub sync_over : PathNow → File ℕ → Event
sync_over w None = answered (answers.NoEnt w.version)
sync_over w (Some f) =
    if has_any w.pending then if f.frozen then answered (answers.ReadOnly w.version) else committed_as (w.version + 1)
    else answered (answers.Done w.version)

abbrev pub sync_event : PathNow → Event
sync_event w = if_open w (sync_over w w.file)
