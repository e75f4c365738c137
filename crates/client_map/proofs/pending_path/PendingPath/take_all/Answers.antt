use Rattle.fs_types.proofs.Common.{arith, ap, length, sym}
use Rattle.client_map.specs.Kept.{pending_end}
use Rattle.client_map.proofs.pending_path.PendingPath.take_all.Goals as goal

pub invariant_of-self : goal.invariant_of-self
invariant_of-self g c = record {
  end = sym (ap pending_end c.take_all.ensures.emptied);
  room = record {
    no_frags = c.take-frags.ensures.empty.0;
    no_holds = c.take-frags.ensures.empty.1;
    most = omega (arith, ap length c.take_all.ensures.emptied);
    frags = omega (arith, c.take-frags.ensures.most);
    holds = omega (arith, c.take_all.ensures.pieces);
  };
}
