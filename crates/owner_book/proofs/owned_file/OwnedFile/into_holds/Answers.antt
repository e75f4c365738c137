use Rattle.fs_types.proofs.Common.{OnOk, subst}
use Rattle.piece_table.specs.HeldSpans.{HandsOver, held}
use Rattle.owner_book.specs.Kept.{file_of, none_held}
use Rattle.owner_book.proofs.BookHolds.{handed-all, OnOk-with}
use Rattle.owner_book.proofs.owned_file.OwnedFile.into_holds.Goals as goal

pub returns : goal.returns
returns g c =
    subst (λ f. OnOk c.clear.result (HandsOver g.H.Hold.piece (file_of f).held none_held c.args.holds.now.items c.clear.new.dead.items))
    c.self.view_is
    (OnOk-with c.clear.result (handed-all g.H.Hold.piece (held c.self.inside.held) (held c.clear.new.self) c.args.holds.now.items
    c.clear.new.dead.items) c.clear.ensures.fragments c.clear.ensures.dead)
