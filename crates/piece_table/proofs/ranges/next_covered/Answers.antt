use Rattle.fs_types.proofs.Common.{sym, ap, ◌∙◌, arith}
use Rattle.fs_types.specs.Fragments.{end_of}
use Rattle.piece_table.proofs.Covered.{none_covered, covered_next, covered_none}
use Rattle.piece_table.proofs.ranges.next_covered.Goals as goal

pub returns-in_default-clause-next : goal.returns-in_default-clause-next
returns-in_default-clause-next g c = none_covered c.args.at c.args.end _ (sym c.next_begun.ensures.next ∙ c.in_default.is)

pub returns-then-g-end-clause-next : goal.returns-then-g-end-clause-next
returns-then-g-end-clause-next g c =
    covered_none c.args.at c.args.end _ c.in-Some.g (g.met.S.Spans.are_spans c.args.spans.now)
    (sym c.next_begun.ensures.next ∙ c.in-Some.is) (omega (arith, ap end_of c.g.view_is))

pub returns-clause-next : goal.returns-clause-next
returns-clause-next g c =
    covered_next c.args.at c.args.end _ c.in-Some.g (g.met.S.Spans.are_spans c.args.spans.now)
    (sym c.next_begun.ensures.next ∙ c.in-Some.is) (omega (arith, ap end_of c.g.view_is))
