use Rattle.fs_types.proofs.Common.{◌++◌, ap, arith, length}
use Rattle.piece_table.proofs.Covered.{covered_all}
use Rattle.piece_table.proofs.ranges.list_fragments.Goals as goal

pub loop-f-init : goal.loop-f-init
loop-f-init g c =
    let fs = g.S.Spans.fragments c.args.spans.now in
    let all = covered_all fs (g.met.S.Spans.are_spans c.args.spans.now).each in
    record {
      all = ap (λ us. c.args.list.now.items ++ us) all;
      room = omega (arith, c.requires, ap length all);
    }
