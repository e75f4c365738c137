use Rattle.std.proofs.Common.{arith}
use Rattle.std.proofs.lemmas.Grind.{common_steps}
use Rattle.fs_dev.proofs.ToldLemmas.{then_bytes-portion}
use Rattle.fs_dev.proofs.writing.write_all.Goals as goal

pub loop-at-preserved : goal.loop-at-preserved
loop-at-preserved g c =
    let inv = c.loop-at.invariant in
    let wrote = c.in_ok-at.ensures in
    record {
      in_range = grind (arith, common_steps, wrote.within);
      taken = then_bytes-portion _ _ _ _ _ _ _ inv.taken wrote.taken (grind (arith, common_steps));
      calm = cc (inv.calm, wrote.calm);
    }
