use Rattle.fs_types.proofs.Common.{◌≡◌, ◌-◌}
use Rattle.piece_table.specs.HeldSpans.{put_fragments}
use Rattle.client_map.specs.Kept.{pending_in}
use Rattle.owner_book.specs.Lookups.{parts_in}
use Rattle.span_list.specs.SpanList.{fragments_of}
use Rattle.core_machine.proofs.view.put_parts.Given as goal

-- with the parts from the place on put over what is there now, all of the range are
abbrev pub invariant-loop-part : goal.invariant-loop-part
invariant-loop-part l =
    let over = (pending_in l.client.pending l.p).fragments in
    put_fragments (parts_in l.at l.to over) (fragments_of l.spans)
    ≡ put_fragments (parts_in l.initial.at l.to over) (fragments_of l.initial.spans)

abbrev pub decreases-loop-part : goal.decreases-loop-part
decreases-loop-part l = l.to - l.at
