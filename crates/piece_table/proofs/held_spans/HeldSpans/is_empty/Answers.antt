use Rattle.piece_table.proofs.Covered.{empty_by_next}
use Rattle.piece_table.proofs.held_spans.HeldSpans.is_empty.Goals as goal

pub returns-clause-empty : goal.returns-clause-empty
returns-clause-empty g c =
    rw (← c.self.view_is)
    (empty_by_next (g.S.Spans.fragments c.self.inside.spans) (g.met.S.Spans.are_spans c.self.inside.spans).each c.next.result
    c.is_none.result c.next.ensures c.is_none.ensures)
