use Rattle.fs_types.proofs.Common.{arith, ap, length, sym}
use Rattle.client_map.specs.Kept.{pending_end}
use Rattle.client_map.proofs.pending_path.PendingPath.new.Goals as goal

pub invariant_of-result : goal.invariant_of-result
invariant_of-result g c = record {
  end = sym (ap pending_end c.new.ensures.fragments);
  room = record {
    no_frags = c.new-2.ensures.empty.0;
    no_holds = c.new-2.ensures.empty.1;
    most = omega (arith, ap length c.new.ensures.fragments);
    frags = omega (arith, c.new-2.ensures.most);
    holds = omega (arith, c.new.ensures.pieces);
  };
}

pub returns : goal.returns
returns g c = λ i. record { fragments = c.new.ensures.fragments i; hold_of = λ q. c.new.ensures.holds q i }
