use Rattle.fs_types.proofs.Common.{ap, arith}
use Rattle.fs_types.specs.Fragments.{end_of}
use Rattle.fs_types.specs.Pieces.{Fragment}
use Rattle.piece_table.specs.Ranges.{ending_count}
use Rattle.piece_table.proofs.Ending.{few_ending}
use Rattle.piece_table.proofs.ranges.count_ending.Goals as goal

pub overflow_add-count : goal.overflow_add-count
overflow_add-count g c =
    omega (
      arith,
      c.loop-g.invariant,
      c.in-Some.ensures.next,
      few_ending c.args.at c.args.end _ (g.met.S.Spans.are_spans c.args.spans.now),
    )

pub loop-g-preserved : goal.loop-g-preserved
loop-g-preserved g c =
    let fs = g.S.Spans.fragments c.args.spans.now in
    omega (
      arith,
      c.loop-g.invariant,
      ap (λ (f : Fragment). ending_count (end_of f) c.args.end fs) c.g.view_is,
      c.in-Some.ensures.next,
    )
