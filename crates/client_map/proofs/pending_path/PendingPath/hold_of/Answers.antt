use Rattle.fs_types.proofs.Common.{◌∙◌, refl, arith, ap, length, sym}
use Rattle.piece_table.specs.HeldSpans.{SetsHold}
use Rattle.client_map.specs.Kept.{pending_end}
use Rattle.client_map.proofs.pending_path.PendingPath.hold_of.Goals as goal

pub invariant_of-self-lent : goal.invariant_of-self-lent
invariant_of-self-lent g c w =
    let sets : SetsHold c.args.id w c.self.inside.held (c.hold_of.follows.lender w) = (rw c.in-Some.is at c.hold_of.follows.holds) w in
    let fits = c.self.invariant.room in
    record {
      end = c.self.invariant.end ∙ sym (ap pending_end sets.fragments);
      room = record {
        no_frags = fits.no_frags;
        no_holds = fits.no_holds;
        most = omega (arith, fits.most, ap length sets.fragments);
        frags = fits.frags;
        holds = omega (arith, fits.holds, sets.pieces.len);
      };
    }

pub returns : goal.returns
returns g c = (
  (
    refl,
    (λ w.
        let sets : SetsHold c.args.id w c.self.inside.held (c.hold_of.follows.lender w) = (rw c.in-Some.is at c.hold_of.follows.holds) w in
        rw (← c.self.view_is) (λ i. record { fragments = sets.fragments i; hold_of = λ q. sets.pieces.holds q i })),
    refl,
  ),
  record { writes_back = tt; hold = rw (← c.self.view_is) c.in-Some.ensures.hold },
)
