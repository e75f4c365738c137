-- What a caller cites of sorted fragments and their marks: whatever the proofs of the crates above need is here.

-- the mark at each place after a put, after a cut, and of what stands from a place on; and before and behind the fragments
pub use Rattle.span_list.proofs.Marks.{mark_at-put, mark_at-cut, mark_at-from, mark_at-ahead, mark_at-past}
-- the list of marks after a put and after a cut
pub use Rattle.span_list.proofs.MarkLists.{marks_within, get_or-marks, marks_of_fragments-put, marks_of_fragments-cut}
-- what a look-up finds, and which places have no mark then
pub use Rattle.span_list.proofs.NextFragments.{IsNext, IsNext-found, IsSpan-found, mark_at-before_next, mark_at-in_next}
pub use Rattle.span_list.proofs.NextFragments.{ended-none, mark_at-after_last}
-- how many fragments name a piece, and that one does exactly where some place has a mark of it
pub use Rattle.span_list.proofs.Counts.{is_mark_of, named-from_mark, mark-from_named}
-- a put and a cut keep fragments in order, and where they end
pub use Rattle.span_list.proofs.Parts.{AreSpans-put, AreSpans-cut, AreSpans-from, put_ends, cut_ends}
-- what a place leaves of fragments that all end by it, or all begin from it on
pub use Rattle.span_list.proofs.Positions.{rests_before-ended, rests_before-begun, rests_from-ended, rests_from-begun}
-- a put adds two at most
pub use Rattle.span_list.proofs.Positions.{length-rests-le}
-- what stands before a place and from a place on, part by part
pub use Rattle.span_list.proofs.Parts.{IsAhead, before, from_on, at_rest_before, at_rest_from, All-rest_before, All-rest_from}
-- what holds of each pair of elements of a list
pub use Rattle.span_list.proofs.PlainLists.{AllPairs-nil, AllPairs-one, AllPairs-head, AllPairs-tail, AllPairs-append, All-flat_map}
