use Rattle.fs_types.proofs.Common.{ap, arith, length}
use Rattle.fs_types.specs.Fragments.{end_of}
use Rattle.fs_types.specs.Pieces.{Fragment}
use Rattle.piece_table.specs.Ranges.{covered}
use Rattle.piece_table.proofs.Covered.{few_covered}
use Rattle.piece_table.proofs.ranges.count_covered.Goals as goal

pub overflow_add-count : goal.overflow_add-count
overflow_add-count g c =
    omega (
      arith,
      c.loop-g.invariant,
      ap length c.in-Some.ensures.next,
      few_covered c.args.at c.args.end _ (g.met.S.Spans.are_spans c.args.spans.now),
    )

pub loop-g-smaller : goal.loop-g-smaller
loop-g-smaller g c =
    let fs = g.S.Spans.fragments c.args.spans.now in
    omega (arith, ap (λ (f : Fragment). length (covered (end_of f) c.args.end fs)) c.g.view_is, ap length c.in-Some.ensures.next)

pub loop-g-preserved : goal.loop-g-preserved
loop-g-preserved g c =
    let fs = g.S.Spans.fragments c.args.spans.now in
    omega (
      arith,
      c.loop-g.invariant,
      ap (λ (f : Fragment). length (covered (end_of f) c.args.end fs)) c.g.view_is,
      ap length c.in-Some.ensures.next,
    )
