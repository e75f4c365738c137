use Rattle.fs_types.proofs.Common.{arith, sym, ◌∙◌, ap}
use Rattle.fs_types.specs.Fragments.{end_of}
use Rattle.span_list.proofs.CallerLemmas.{IsSpan-found}
use Rattle.span_list.proofs.tests.listed.Goals as goal

-- what a look-up finds ends within the longest file
pub overflow_add-at : goal.overflow_add-at
overflow_add-at g c =
    let list = c.args.list.now in
    let fs = g.S.Spans.fragments list in
    let span = IsSpan-found c.loop.at fs c.in-Some.f (g.met.S.Spans.are_spans list) (sym c.next.ensures ∙ c.in-Some.is) in
    omega (arith, span.in_file, ap end_of c.f.view_is)
