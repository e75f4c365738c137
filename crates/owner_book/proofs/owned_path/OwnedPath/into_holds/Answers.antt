use Rattle.fs_types.proofs.Common.{subst}
use Rattle.piece_table.specs.HeldSpans.{HandsOver}
use Rattle.owner_book.specs.Kept.{held_at, none_held, path_of}
use Rattle.owner_book.proofs.BookHolds.{handed-none}
use Rattle.owner_book.proofs.owned_path.OwnedPath.into_holds.Goals as goal

pub returns : goal.returns
returns g c =
    subst (λ x. HandsOver g.H.Hold.piece (held_at (path_of x)) none_held c.args.holds.now.items c.args.holds.now.items) c.self.view_is
    (rw c.in-None.is (handed-none g.H.Hold.piece c.args.holds.now.items))
