use Rattle.fs_types.proofs.Common.{refl, subst, sym}
use Rattle.piece_table.specs.HeldSpans.{SetsHold}
use Rattle.owner_book.specs.Kept.{AreWithin}
use Rattle.owner_book.proofs.Lent.{file-lent}
use Rattle.owner_book.proofs.owned_file.OwnedFile.hold_of.Goals as goal

pub invariant_of-self-lent : goal.invariant_of-self-lent
invariant_of-self-lent g c w =
    let sets : SetsHold c.args.id w c.self.inside.held (c.hold_of.follows.lender w) = (rw c.in-Some.is at c.hold_of.follows.holds) w in
    subst (AreWithin c.self.inside.size) (sym sets.fragments) c.self.invariant

pub returns : goal.returns
returns g c = (
  (
    refl,
    (λ w.
        let sets : SetsHold c.args.id w c.self.inside.held (c.hold_of.follows.lender w) = (rw c.in-Some.is at c.hold_of.follows.holds) w in
        rw (← c.self.view_is)
        (file-lent c.args.id w c.self.inside.size c.self.inside.frozen c.self.inside.held (c.hold_of.follows.lender w) sets)),
    refl,
  ),
  record { writes_back = tt; hold = rw (← c.self.view_is) c.in-Some.ensures.hold },
)
