-- A write fills slots of its client's log, where the file at the client's front may be written, the write doesn't end past the
-- longest file, and enough slots are free.
use Rattle.std.specs.Prelude.{ℕ, ◌+◌, nat_lt, length, if◌then◌else◌}
use Rattle.fs_script.specs.Vocabulary.{LONGEST_FILE, Write, parts_of}
use Rattle.core_machine.specs.Event.{Event, PathNow, answered, wrote_into, if_open}
use Rattle.fs_types.specs.declared.answer.Answer.TheVariants as answers

abbrev pub write_where_free : ℕ → PathNow → Event
write_where_free need w = if nat_lt w.free need then answered (answers.NoSpace need w.free) else wrote_into need

abbrev pub write_within : ℕ → PathNow → Write → Event
write_within chunk w x =
    if nat_lt LONGEST_FILE (x.at + length x.bytes) then answered answers.TooBig
    else write_where_free (parts_of chunk (length x.bytes)) w

abbrev pub write_at_front : ℕ → PathNow → Write → Event
write_at_front chunk w x =
    if w.at_front.exists then if w.at_front.frozen then answered (answers.ReadOnly w.front) else write_within chunk w x
    else answered (answers.NoEnt w.front)

abbrev pub write_event : ℕ → PathNow → Write → Event
write_event chunk w x = if_open w (write_at_front chunk w x)
