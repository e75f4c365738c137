-- A lamination commits what is pending, and freezes the file, where the file may be changed.
use Rattle.std.specs.Prelude.{ℕ, ◌+◌, Some, None, if◌then◌else◌}
use Rattle.fs_script.specs.Vocabulary.{File}
use Rattle.core_machine.specs.Event.{Event, PathNow, answered, committed_as, if_open}
use Rattle.fs_types.specs.declared.answer.Answer.TheVariants as answers

abbrev pub laminate_over : PathNow → File ℕ → Event
laminate_over w None = answered (answers.NoEnt w.version)
laminate_over w (Some f) = if f.frozen then answered (answers.ReadOnly w.version) else committed_as (w.version + 1)

abbrev pub laminate_event : PathNow → Event
laminate_event w = if_open w (laminate_over w w.file)
