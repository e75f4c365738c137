use Rattle.fs_types.proofs.Common.{◌∙◌, ap, arith, subst, sym, OnOk}
use Rattle.client_files.specs.PathMap.{Changes}
use Rattle.owner_book.specs.Kept.{path_in}
use Rattle.core_machine.specs.Vocabulary.{Noted, noted_now, told_in}
use Rattle.core_machine.proofs.BooksOfPaths.{is-home, path-here}
use Rattle.core_machine.proofs.run.tell_path.Goals as goal

pub returns : goal.returns
returns c =
    let books = c.args.books.now in
    let p = c.args.o.now.path in
    let hash = c.of_line-gfid.result in
    let servers = ap (λ s. s.servers) (sym c.shape.ensures.shape) in
    let below = c.owner_of-owner.ensures.below in
    let home = is-home books p c.shape.result.servers c.owner.inside.0 hash c.index-books-owner.result (c.requires.servers ∙ servers)
    (c.of_line-gfid.ensures c.args.s.now c.args.o.now c.requires.gfids c.requires.line) (c.owner.view_is ∙ c.owner_of-owner.ensures.owner) (omega (arith, below, c.owner.view_is)) in
    let path = path-here books p c.owner.inside.0 hash _ home.at home.is home.there in
    subst (λ (x : Noted). OnOk c.set.result (Changes (told_in c.args.board.now) (told_in c.set.new.self) p x))
    ((λ i. record { version = (c.attr-v.ensures.attr i).0; attr = (c.attr-v.ensures.attr i).1 }) ∙ ap noted_now (ap (λ b. path_in b hash p) c.index-books-owner.is ∙ sym path)) c.set.ensures.told
