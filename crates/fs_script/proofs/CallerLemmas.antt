-- What a caller cites of a job, of its answers and journals, and of the laws: the crates above import from here alone.

-- a job within the limits: what each of its operations is, and that reading finds it
pub use Rattle.fs_script.proofs.Jobs.{IsOpLine-from_job, op_at-within}
-- what one write brings is no more than one line may move
pub use Rattle.fs_script.proofs.Jobs.{length-data, length-payload}
pub use Rattle.fs_script.proofs.Reading.Scripts.{script_is_job}
-- phases rise with the lines, and each client's program has its operations, rising
pub use Rattle.fs_script.proofs.Fronts.{phase-rises}
pub use Rattle.fs_script.proofs.ProgramPlaces.{program-place, program-op}
-- what one more answer leaves as it was
pub use Rattle.fs_script.proofs.Agreement.{pending-agree, over_answers-agree, accepted_before-agree, AddsAnswer-put}
pub use Rattle.fs_script.proofs.JournalGrows.{own_op-rank, AgreeBefore-next, pending_at-answered, pending_at-next}
-- the file at a version, as answers come and as the journal grows
pub use Rattle.fs_script.proofs.States.{put_lines-append, state_in-agree, state_in-push, state_in-push_last}
-- lines put over a file, and a file that is cut: how long it is, and the marks that stand there and the pieces that they are of
pub use Rattle.fs_script.proofs.PutLines.{length-put_lines, get_or-put_lines, bears-at, bears-place, bears-put_lines, bears-put, bears-cut}
-- each mark stands where its line wrote its byte
pub use Rattle.fs_script.proofs.MarksAtHome.{IsAtHome-marks_put, IsAtHome-marks_at}
-- the runs of marks: what they are, and that no other fragments are so
pub use Rattle.fs_script.proofs.RunsOfMarks.{mark_at-of, AreMaximal-runs}
pub use Rattle.fs_script.proofs.RunsInOrder.{have_bytes-runs, in_order-runs, end-runs, length-runs, runs-unique}
-- which pieces are live and pending, what they are parts of, and which are once the next answer came
pub use Rattle.fs_script.proofs.LivePaths.{live-by_any_path}
pub use Rattle.fs_script.proofs.LivePieces.{IsPart-pending, IsPart-either, length-live_or_pending}
pub use Rattle.fs_script.proofs.MarksGrow.{is_live-agree}
pub use Rattle.fs_script.proofs.PiecesGrow.{IsNewPiece, is_live-next, is_pending-next, is_pending-now, view_of-bears}
pub use Rattle.fs_script.proofs.LivePaths.{named-passes}
pub use Rattle.fs_script.proofs.LivePieces.{IsPart-pending_marks}
-- the file at a version by its marks: its bytes, what a client sees of them, and whether it is there
pub use Rattle.fs_script.proofs.MarkedBytes.{state-by_marks, view_of-by_marks, is_some-marks_at, is_some-view_of}
-- pieces: two names of one, lists that have each once, and how many the accepted lines of a client have
pub use Rattle.fs_script.proofs.PiecesOnce.{same_piece, piece_eq_equiv, IsDistinct-filter, IsDistinct-pieces_by}
pub use Rattle.fs_script.proofs.PiecesOfClients.{IsPartOf, IsPartOf-from_pieces, any_from_Contains, part-at, part-there}
pub use Rattle.fs_script.proofs.PiecesOfClients.{length-pieces_of_line, Contains-pieces_by}
pub use Rattle.fs_script.proofs.CountedPieces.{distinct-le-accepted}
-- the lines of a legal journal, and the versions that a line may print as it is answered
pub use Rattle.fs_script.proofs.JournalGrows.{answered-in_journal, pending_at-in_journal}
pub use Rattle.fs_script.proofs.InReach.{front-le-length_fit, IsInReach-now, IsInReach-made}
-- a job stays legal so far, and its report is legal in the end
pub use Rattle.fs_script.proofs.SoFar.{IsLegalSoFar-none, IsLegalSoFar-kept, IsLegalSoFar-commit}
-- and what would fit a line that has no answer yet goes on fitting
pub use Rattle.fs_script.proofs.FitsOfOthers.{Fits-kept_other, Fits-commit_other}
pub use Rattle.fs_script.proofs.Finished.{IsLegal-finished}
-- the lines of rising answers are the numbers of a range that pass a test
pub use Rattle.fs_script.proofs.AnsweredLines.{rises_past, lines-passing}
-- paths in byte order, their places, and what stands beside each
pub use Rattle.fs_script.proofs.PathPlaces.{not_among, place_unique, same_bytes, other_bytes, journal_of-zip, journal_of-absent}
pub use Rattle.fs_script.proofs.PathPlaces.{slice_get-position, absent-from_position}
pub use Rattle.fs_script.proofs.LegalReports.{IsPath-named}
-- plain lists, ranges and options
pub use Rattle.fs_script.proofs.PlainLists.{some_of, none_from-is_some}
pub use Rattle.fs_script.proofs.PlainLists.{AllByRecursion-from_get, AllByRecursion-weaker, AllByRecursion-push, slice_get-push_last}
pub use Rattle.fs_script.proofs.PlainLists.{slice_get-set_same, slice_get-set_other, slice_get-map_some, slice_get-some}
pub use Rattle.fs_script.proofs.PlainLists.{AllByRecursion-from_contained}
pub use Rattle.fs_script.proofs.PlainLists.{range-push, slice_get-range}
pub use Rattle.fs_script.proofs.PlainLists.{passes, passing-rise, passing-place, passing-places, Contains-passing}
pub use Rattle.fs_script.proofs.PlainLists.{fold-min-le, fold-min-least, fold-min-there, filter_map-at, filter_map-from}
pub use Rattle.fs_script.proofs.PlainLists.{sum_by-range-falls}
-- the script of five lines, for worked cases
pub use Rattle.fs_script.proofs.FiveLines.{path_a, on_a, five_lines}
