-- The words of scripts, answers and journals, passed on from one place to proofs and to the crates above. Declares nothing.
pub use Rattle.fs_types.specs.AnswerList.{answer_at, put_answer, IsRisingFrom, Given, IsRising}
pub use Rattle.fs_types.specs.Overwrite.{shown, put, cut}
pub use Rattle.fs_types.specs.PathLaws.{IsVisible}
pub use Rattle.fs_types.specs.PathText.{IsPath}
pub use Rattle.fs_types.specs.PlainFile.{File, written, is_open_to_change, is_frozen}
pub use Rattle.fs_types.specs.declared.answer.Answer.{Answer}
pub use Rattle.fs_types.specs.declared.answer.Body.{Body}
pub use Rattle.fs_types.specs.declared.file_state.FileState.{FileState}
pub use Rattle.fs_types.specs.Marks.{Mark, mark_of, marks_of}
pub use Rattle.fs_types.specs.Pieces.{Piece, Fragment}
pub use Rattle.fs_types.specs.declared.slot_line.SlotLine.{SlotLine}
pub use Rattle.fs_types.specs.declared.limits.TheConstants.{LONGEST_FILE}
pub use Rattle.fs_script.specs.AnswerKinds.{version_of, done_at}
pub use Rattle.fs_script.specs.Effect.{state, put_lines, effect, after_all, state_in, is_enabled, effect_in, makes, effect_of}
pub use Rattle.fs_script.specs.Effect.{with_lines, cut_to, view_of}
pub use Rattle.fs_script.specs.Fits.{Fits, AreTold, LineView, line_view, Accepts, ShowsAsked, body_of, IsInTable, IsNoLater, IsInReach}
pub use Rattle.fs_script.specs.Fits.{ShowsRange, entry, AgreesWithOpen, MayWrite, IsAtFront, EndsPast, NeedsMore, LacksSpace}
pub use Rattle.fs_script.specs.Front.{front, at_least, seen, is_open, of_earlier_phases, opens}
pub use Rattle.fs_script.specs.Growth.{SamePending, AddsAnswer, IsOfNoEarlierPhase, AllFit, AgreeBefore, ComesNext}
pub use Rattle.fs_script.specs.Job.{Job, rank_at, phase, op_at, op_lines, line_at, rank_in, Names, own_op, operation, own_at, program}
pub use Rattle.fs_script.specs.Job.{is_of_rank, is_barrier}
pub use Rattle.fs_script.specs.Accepted.{need, was_accepted, accepted_pieces, accepted_before}
pub use Rattle.fs_script.specs.FileMarks.{marks_at, marks_put, cells_of, present_marks, IsAtHome, marked_byte, marked_bytes, file_map}
pub use Rattle.fs_script.specs.Live.{piece_of, bears, pieces_borne, named_paths, is_live, past_lines, pending_marks, is_pending}
pub use Rattle.fs_script.specs.Live.{pieces_of_line, pieces_by, live_or_pending}
pub use Rattle.fs_script.specs.Runs.{goes_on, runs, AreMaximal}
pub use Rattle.fs_script.specs.Journal.{JournalsByPath, committed, IsLegalEntry, IsLegalJournal, commit_in, commit_by, enabled_in}
pub use Rattle.fs_script.specs.Journal.{commit_of}
pub use Rattle.fs_script.specs.Operations.{Range, range_of, asked, commits, has_any, needs_open}
pub use Rattle.fs_script.specs.Payload.{Cells, offset, brought, bytes_of, Write, brought_in, bytes_brought, payload, parts_of, part}
pub use Rattle.fs_script.specs.Payload.{marks_in, write_at}
pub use Rattle.fs_script.specs.Payload.{data_bytes}
pub use Rattle.fs_script.specs.Pending.{Answering, pending_at, pending, pending_for, one_more, after_answer, over_answers}
pub use Rattle.fs_script.specs.Printable.{AreBytes, IsPrintableBody, IsPrintableAnswer, IsPrintableLine, IsPrintableJournal}
pub use Rattle.fs_script.specs.Printable.{IsPrintableState, IsPrintableFile, IsPrintableSlots, IsPrintable, IsDigest}
pub use Rattle.fs_script.specs.Report.{Report, HasShape, FilesAreStates, IsLegal, answers_of, journal_of, AreRising, file_state_of}
pub use Rattle.fs_script.specs.Report.{ArePaths, AreCounted, SlotsAreCounted}
pub use Rattle.fs_script.specs.SoFar.{IsLegalSoFar, IsNextAnswer, Pushes}
pub use Rattle.fs_script.specs.Text.{text, answer_words, answer_line, body_text, entry_text, journal_line, flag_text, file_words, file_line}
pub use Rattle.fs_script.specs.Text.{path_lines, slot_words, slot_line, line_feed}
pub use Rattle.fs_script.specs.declared.fault.ScriptFault.{ScriptFault}
pub use Rattle.fs_script.specs.declared.limits.TheConstants.{DIGEST_LIMIT}
pub use Rattle.fs_script.specs.declared.line.Data.TheVariants.{Text}
pub use Rattle.fs_script.specs.declared.line.Line.{Line}
pub use Rattle.fs_script.specs.declared.line.Op.{Op}
pub use Rattle.fs_script.specs.declared.line.OpLine.{OpLine}
pub use Rattle.fs_script.specs.declared.shape.Shape.{Shape}
