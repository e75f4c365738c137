use Rattle.fs_types.proofs.Common.{◌≡◌, false, cond-true, cond-false, sym, ap, ◌∙◌, arith}
use Rattle.fs_types.specs.Fragments.{end_of}
use Rattle.fs_types.specs.Pieces.{Fragment}
use Rattle.span_list.specs.Spans.{IsSpan}
use Rattle.piece_table.specs.Ranges.{reaches_past}
use Rattle.piece_table.proofs.Covered.{IsSpan-at, reaching_next, reaching_none, begun_within, ended_within, reaches}
use Rattle.piece_table.proofs.ranges.next_reaching.Goals.{then-at-g-via-then-at-g, then-at-g-via-else-at-g+then-g-end}
use Rattle.piece_table.proofs.ranges.next_reaching.Goals as goal

pub returns-in_default : goal.returns-in_default
returns-in_default g c = reaching_none c.args.at c.args.end _ c.requires (sym c.next.ensures ∙ c.in_default.is)

pub overflow_add-g-inside : goal.overflow_add-g-inside
overflow_add-g-inside g c =
    let span : IsSpan c.in-Some.g =
    IsSpan-at _ _ c.in-Some.g (g.met.S.Spans.are_spans c.args.spans.now).each (sym c.next.ensures ∙ c.in-Some.is) in
    let in_file = span.in_file in
    omega (arith, ap end_of c.g.view_is)

pub returns-then-at-g : goal.returns-then-at-g
returns-then-at-g g c =
    let test : reaches_past c.args.at c.args.end c.in-Some.g ≡ false =
    elim c.then-at-g.branch [
      | then-at-g-via-then-at-g w ↦ let within = w.if-at-g.true in
          begun_within c.args.at c.args.end c.in-Some.g (omega (arith, ap (λ (f : Fragment). f.at) c.g.view_is))
      | then-at-g-via-else-at-g+then-g-end w ↦ let within = w.if-g-end.true in
          ended_within c.args.at c.args.end c.in-Some.g (omega (arith, ap end_of c.g.view_is))
    ] in
    reaching_next c.args.at c.args.end _ c.in-Some.g (g.met.S.Spans.are_spans c.args.spans.now) c.requires
    (sym c.next.ensures ∙ c.in-Some.is) ∙ cond-false _ _ _ test

pub returns : goal.returns
returns g c =
    let before = c.if-at-g.false in
    let behind = c.if-g-end.false in
    let test = reaches c.args.at c.args.end c.in-Some.g (omega (arith, ap (λ (f : Fragment). f.at) c.g.view_is))
    (omega (arith, ap end_of c.g.view_is)) in
    reaching_next c.args.at c.args.end _ c.in-Some.g (g.met.S.Spans.are_spans c.args.spans.now) c.requires
    (sym c.next.ensures ∙ c.in-Some.is) ∙ cond-true _ _ _ test
