-- The words of the machine and of what the code keeps, passed on from one place to proofs and to the crate above. Declares nothing.
pub use Rattle.fs_script.specs.declared.line.Data.{Data}
pub use Rattle.fs_script.specs.declared.line.Data.TheVariants.{Text}
pub use Rattle.fs_script.specs.declared.line.Line.{Line}
pub use Rattle.fs_script.specs.declared.line.Op.{Op}
pub use Rattle.fs_script.specs.declared.line.Op.TheVariants.{Sync}
pub use Rattle.fs_script.specs.declared.line.OpLine.{OpLine}
pub use Rattle.core_machine.specs.Core.{moment}
pub use Rattle.core_machine.specs.Doing.{nothing, reading, Doing, Reading}
pub use Rattle.core_machine.specs.Event.{Event, PathNow, if_open, known_of, answered, committed_as, wrote_into, goes_on_reading}
pub use Rattle.core_machine.specs.EventsLeft.{most_events, most_events_in, most_events_of, left_in, left_for, events_left}
pub use Rattle.core_machine.specs.Events.Create.{create_over, create_event}
pub use Rattle.core_machine.specs.Events.Laminate.{laminate_over, laminate_event}
pub use Rattle.core_machine.specs.Events.Read.{shows, lookup_over, lookup_event, to_show, fetch_event, read_event}
pub use Rattle.core_machine.specs.Events.Sync.{sync_over, sync_event}
pub use Rattle.core_machine.specs.Events.Trunc.{trunc_over, trunc_event}
pub use Rattle.core_machine.specs.Events.Unlink.{unlink_over, unlink_event}
pub use Rattle.core_machine.specs.Events.Write.{write_where_free, write_within, write_at_front, write_event}
pub use Rattle.core_machine.specs.Follows.{EventFollows, EventKept, EventSound, Follows, FollowsBy}
pub use Rattle.core_machine.specs.Follows.{IsWhole, KeepsAll, KeptStand, Knows, KnowsLookedUp}
pub use Rattle.core_machine.specs.Follows.{HasAttr, LookedUpWithin, MayBeIn, attr_seen, free_in, kept_event}
pub use Rattle.core_machine.specs.BookFiles.{IsFile, marks_of_file}
pub use Rattle.core_machine.specs.Gfids.{AreGfids, gfid_in, gfids_of}
pub use Rattle.core_machine.specs.HoldsKept.{holds_kept, keeps}
pub use Rattle.core_machine.specs.PendingWrites.{ArePending, IsNonePending}
pub use Rattle.core_machine.specs.Logs.{HoldsStand, IsHeldIn, IsInMemory, SameFrames, piece_in, pieces_in, pieces_of, slot_in, slot_of, stored_part}
pub use Rattle.core_machine.specs.Settling.{FillsLog, LogsFollow, Settles}
pub use Rattle.core_machine.specs.StandingLogs.{IsLogOf, StandsForLogs, StandsForSlot}
pub use Rattle.core_machine.specs.Task.{IsReadTask, IsTask, doing_of, marks_of_task, reading_of, task_hold}
pub use Rattle.owner_book.specs.Kept.{Book, BookFile, BookPath, no_path}
pub use Rattle.client_files.specs.Kept.{KeptBoard, told_in}
pub use Rattle.core_machine.specs.Books.{ChangesPath, path_at}
pub use Rattle.core_machine.specs.declared.plain_hold.PlainHold.{PlainHold}
pub use Rattle.core_machine.specs.declared.task.Task.{Task}
pub use Rattle.core_machine.specs.declared.task.Task.TheVariants.{Idle, Read}
pub use Rattle.core_machine.specs.Kept.{file_hold, file_marks, file_of, pending_hold, pending_lines}
pub use Rattle.core_machine.specs.Kept.{IsFreshClient, IsFreshPath, AreSound, OwnedPath}
pub use Rattle.client_files.specs.Noted.{later_of, unseen}
pub use Rattle.core_machine.specs.Kept.{fresh_owned, noted_now, owned_in}
pub use Rattle.core_machine.specs.Kept.{PathState, owner_told, with_told, kept_now}
pub use Rattle.core_machine.specs.LegalSoFar.{HasClients, CanRun, IsUnderWay, MayGoOn, IsLegalMoment, Reaches, IsAnsweredUpTo}
pub use Rattle.core_machine.specs.Moment.{Client, Moment, fresh_client, ready, printed, answering, client_of, journal, IsFirst, has_begun}
pub use Rattle.core_machine.specs.Moment.{may_come, next_line, with_entry, file_now, marks_now, log_of}
pub use Rattle.core_machine.specs.MomentKept.{client_at, clients_of, moment_of, journals_of}
pub use Rattle.core_machine.specs.MomentReport.{report_of}
pub use Rattle.core_machine.specs.PathTable.{texts, paths_of, with_op, with_path, with_path_of}
pub use Rattle.core_machine.specs.Program.{IsLeast, next_of, next_phases, ArePrograms, places_of, IsKept, with_program_line}
pub use Rattle.core_machine.specs.Standing.{Holds, Stands, StandsForOwner, StandsForClient, StandsForTask}
pub use Rattle.core_machine.specs.Standing.{StandsForLookUp, HoldsOfPath, IsPieceBy, IsPieceOn}
pub use Rattle.core_machine.specs.Slots.{is_owned, names, readers_of, holds_of, holds_in, empty_slots}
pub use Rattle.core_machine.specs.Slots.{with_pieces, with_line, still_held, without_dead}
pub use Rattle.core_machine.specs.Slots.{census, held_pieces, HoldsExactly}
pub use Rattle.core_machine.specs.Step.{Turn, step, path_now, answers_with, logs_with, had_event, after_event}
pub use Rattle.core_machine.specs.Step.{event_at, step_line, step_at, after_turn, event_of}
pub use Rattle.core_machine.specs.Turns.{Places, next_in, going, IsInPhase, is_of_phase, after_line}
pub use Rattle.client_files.specs.declared.noted.Noted.{Noted}
pub use Rattle.core_machine.specs.ClientPath.{ChangesOwn, ClientPath, Pending, lines_then, own_of, pending_of}
pub use Rattle.core_machine.specs.declared.client.Client.{Client as KeptClient}
pub use Rattle.core_machine.specs.declared.program.Program.{Program}
pub use Rattle.core_machine.specs.declared.turns.Turns.TheInside.{Inside}
