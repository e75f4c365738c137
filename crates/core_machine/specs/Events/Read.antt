-- A read looks up what its range shows at the version now, of the file alone or with its client's pending writes put over it,
-- fetches the runs of these bytes one after the other, and shows them.
use Rattle.std.specs.Prelude.{ℕ, ◌+◌, nat_lt, List, length, map, Option, Some, None, if◌then◌else◌}
use Rattle.fs_script.specs.Vocabulary.{Answer, Job, shown, File, Mark, Range, body_of, marked_byte, marks_in, runs, view_of}
use Rattle.core_machine.specs.Doing.{Doing, Reading, nothing, reading}
use Rattle.core_machine.specs.Event.{Event, PathNow, answered, goes_on_reading, if_open}
use Rattle.fs_types.specs.declared.answer.Answer.TheVariants as answers

-- these bytes of version v are shown
abbrev pub shows : ℕ → List ℕ → Answer
shows v bytes = answers.Shown v (length bytes) (body_of bytes)

-- what is to be read of a file that is there, and nothing of it fetched yet
abbrev pub lookup_over : PathNow → File (Option Mark) → Range → Event
lookup_over w None x = answered (answers.NoEnt w.version)
lookup_over w (Some f) x = goes_on_reading (record { version = w.version; marks = shown f.cells x.off x.len; fetched = 0 })

abbrev pub lookup_event : Job → PathNow → Range → Event
lookup_event s w x = if_open w (lookup_over w (view_of s (marks_in s) x.own w.pending w.marks) x)

-- what a read under way will show
abbrev pub to_show : Job → Reading → Answer
to_show s d = shows d.version (map (marked_byte s) d.marks)

-- one run more is fetched; or all were, and the bytes are shown
abbrev pub fetch_event : Job → Reading → Event
fetch_event s d =
    if nat_lt d.fetched (length (runs d.marks)) then goes_on_reading (record d { fetched = d.fetched + 1 }) else answered (to_show s d)

abbrev pub read_event : Job → PathNow → Doing → Range → Event
read_event s w nothing x = lookup_event s w x
read_event s w (reading d) x = fetch_event s d
