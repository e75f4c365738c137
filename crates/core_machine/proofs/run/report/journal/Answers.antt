use Rattle.fs_types.proofs.Common.{◌∙◌, ap, not}
use Rattle.core_machine.specs.Books.{path_at}
use Rattle.core_machine.specs.Core.{states}
use Rattle.core_machine.specs.Kept.{owned_of}
use Rattle.core_machine.specs.Vocabulary.{told_in}
use Rattle.core_machine.proofs.Refines.Reads.{found-there, journal-read, there-kept}
use Rattle.core_machine.proofs.run.report.journal.Goals as goal

pub returns : goal.returns
returns g c =
    let r = c.args.run.now in
    let has = found-there c.index_of.result r.paths c.args.p.now (c.is_none.ensures ∙ ap not c.if-is_none.false) c.index_of.ensures.within
    c.index_of.ensures.there in
    let p = c.args.p.now in
    c.journal.ensures ∙ ap (λ bs. (path_at bs p).journal) c.deref.ensures.value
    ∙ journal-read r.paths (states r) p (owned_of (path_at r.books.items p) (told_in r.board p)) c.index_of.ensures.rising (there-kept r p has)
