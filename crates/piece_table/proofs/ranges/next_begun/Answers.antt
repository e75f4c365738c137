use Rattle.fs_types.proofs.Common.{IfSome, sym, ap, ◌∙◌, subst, arith}
use Rattle.fs_types.specs.Fragments.{end_of}
use Rattle.fs_types.specs.Pieces.{Fragment}
use Rattle.span_list.specs.Spans.{IsSpan, next_fragment}
use Rattle.piece_table.proofs.Covered.{none_begun, found_begun, found_behind, IsSpan-found, IsSpan-at}
use Rattle.piece_table.proofs.ranges.next_begun.Goals as goal

pub returns-in_default-clause-next : goal.returns-in_default-clause-next
returns-in_default-clause-next g c =
    sym (none_begun c.args.at _ (g.met.S.Spans.are_spans c.args.spans.now) (sym c.next.ensures ∙ c.in_default.is))

pub returns-then-at-g-clause-next : goal.returns-then-at-g-clause-next
returns-then-at-g-clause-next g c =
    sym (found_begun c.args.at _ c.in-Some.g (g.met.S.Spans.are_spans c.args.spans.now) (sym c.next.ensures ∙ c.in-Some.is)
    (omega (arith, ap (λ (f : Fragment). f.at) c.g.view_is)))

pub returns-then-at-g-clause-span : goal.returns-then-at-g-clause-span
returns-then-at-g-clause-span g c =
    IsSpan-at _ _ c.in-Some.g (g.met.S.Spans.are_spans c.args.spans.now).each (sym c.next.ensures ∙ c.in-Some.is)

pub overflow_add-g-inside : goal.overflow_add-g-inside
overflow_add-g-inside g c =
    let span : IsSpan c.in-Some.g =
    IsSpan-at _ _ c.in-Some.g (g.met.S.Spans.are_spans c.args.spans.now).each (sym c.next.ensures ∙ c.in-Some.is) in
    let in_file = span.in_file in
    omega (arith, ap end_of c.g.view_is)

pub returns-clause-next : goal.returns-clause-next
returns-clause-next g c =
    c.next-2.ensures ∙ ap (λ (f : Fragment). next_fragment (end_of f) (g.S.Spans.fragments c.args.spans.now)) c.g.view_is
    ∙ sym (found_behind c.args.at _ c.in-Some.g (g.met.S.Spans.are_spans c.args.spans.now) (sym c.next.ensures ∙ c.in-Some.is)
    (omega (arith, ap (λ (f : Fragment). f.at) c.g.view_is)))

pub returns-clause-span : goal.returns-clause-span
returns-clause-span g c =
    subst (λ o. IfSome o IsSpan) (sym c.next-2.ensures) (IsSpan-found _ _ (g.met.S.Spans.are_spans c.args.spans.now).each)
