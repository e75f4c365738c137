use Rattle.fs_types.proofs.Common.{◌≡◌, ◌+◌, ◌∷◌, ap, arith, drop}
use Rattle.fs_types.specs.Fragments.{end_of}
use Rattle.fs_types.specs.Pieces.{Fragment}
use Rattle.piece_table.specs.Ranges.{ending_count, ends_under}
use Rattle.piece_table.proofs.Dropped.{drop-first}
use Rattle.piece_table.proofs.Ending.{few_under, under-cons}
use Rattle.piece_table.proofs.ranges.count_under.Goals as goal

pub overflow_add-count : goal.overflow_add-count
overflow_add-count g c =
    let fs = g.S.Spans.fragments c.args.spans.now in
    let f : Fragment = c.f-item.result in
    let rest = drop (c.loop-f.f-index + 1) c.args.over.now in
    let next : drop c.loop-f.f-index c.args.over.now ≡ f ∷ rest = drop-first c.args.over.now c.loop-f.f-index f c.loop-f-test.true c.f-item.is in
    omega (
      arith,
      c.loop-f.invariant,
      ap (λ us. ends_under us fs) next,
      under-cons f rest fs,
      c.count_ending-count.ensures,
      ap (λ (h : Fragment). ending_count h.at (end_of h) fs) c.f.view_is,
      few_under c.args.over.now fs c.requires (g.met.S.Spans.are_spans c.args.spans.now),
    )
