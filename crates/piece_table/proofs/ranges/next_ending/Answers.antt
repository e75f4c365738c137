use Rattle.fs_types.proofs.Common.{sym, ap, ◌∙◌, arith}
use Rattle.fs_types.specs.Fragments.{end_of}
use Rattle.span_list.specs.Spans.{IsSpan}
use Rattle.piece_table.proofs.Covered.{IsSpan-at}
use Rattle.piece_table.proofs.Ending.{ending_none, ending_next, ending_beyond}
use Rattle.piece_table.proofs.ranges.next_ending.Goals as goal

pub returns-in_default-clause-next : goal.returns-in_default-clause-next
returns-in_default-clause-next g c = ending_none c.args.at c.args.end _ (sym c.next.ensures ∙ c.in_default.is)

pub overflow_add-g-inside : goal.overflow_add-g-inside
overflow_add-g-inside g c =
    let span : IsSpan c.in-Some.g =
    IsSpan-at _ _ c.in-Some.g (g.met.S.Spans.are_spans c.args.spans.now).each (sym c.next.ensures ∙ c.in-Some.is) in
    let in_file = span.in_file in
    omega (arith, ap end_of c.g.view_is)

pub returns-then-end-g-clause-next : goal.returns-then-end-g-clause-next
returns-then-end-g-clause-next g c =
    ending_beyond c.args.at c.args.end _ c.in-Some.g (g.met.S.Spans.are_spans c.args.spans.now)
    (sym c.next.ensures ∙ c.in-Some.is) (omega (arith, ap end_of c.g.view_is))

pub returns-clause-next : goal.returns-clause-next
returns-clause-next g c =
    ending_next c.args.at c.args.end _ c.in-Some.g (g.met.S.Spans.are_spans c.args.spans.now)
    (sym c.next.ensures ∙ c.in-Some.is) (omega (arith, ap end_of c.g.view_is))

pub returns-clause-span : goal.returns-clause-span
returns-clause-span g c =
    IsSpan-at _ _ c.in-Some.g (g.met.S.Spans.are_spans c.args.spans.now).each (sym c.next.ensures ∙ c.in-Some.is)
