-- The report of a moment: its answers, its journals, each path's file as it is then, and the slots of each client's log.
use Rattle.std.specs.Prelude.{map}
use Rattle.std.specs.List.{range_with_len}
use Rattle.fs_script.specs.Vocabulary.{Report, file_state_of}
use Rattle.core_machine.specs.Moment.{Moment, file_now}
use Rattle.core_machine.specs.Slots.{census}

abbrev pub report_of : Moment → Report
report_of m = record {
  answers = m.answers;
  journals = m.journals;
  files = map (λ j. (j.0, file_state_of (file_now m j.0))) m.journals;
  slots = map (census m) (range_with_len 0 m.job.shape.clients);
}
