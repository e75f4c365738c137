use Rattle.fs_types.proofs.Common.{IfSome, subst, sym}
use Rattle.owner_book.specs.Kept.{AreWithin}
use Rattle.owner_book.proofs.Paths.{found-there}
use Rattle.owner_book.proofs.book.OwnerBook.attr.Goals as goal

pub returns-in-Some-clause-within : goal.returns-in-Some-clause-within
returns-in-Some-clause-within g c =
    let was = found-there c.args.self.now c.self.inside.files c.self.view_is c.args.gfid c.as_bytes.result.now c.args.p.now
    c.as_bytes.ensures.bytes c.in-Some.path.now (sym c.in-Some.ensures.value) in
    subst (λ x. IfSome x.file (λ f. AreWithin f.size f.held.fragments)) (sym was) c.attr.ensures.within
