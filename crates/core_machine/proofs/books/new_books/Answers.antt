use Rattle.fs_types.proofs.Common.{All, ap, arith, length, length_push, subst, sym}
use Rattle.std.proofs.lemmas.List.Elements.{All-push}
use Rattle.core_machine.proofs.BooksOfPaths.{IsNewBook, path-new}
use Rattle.core_machine.proofs.books.new_books.Goals as goal

pub loop-preserved : goal.loop-preserved
loop-preserved c =
    let was = c.loop.books.items in
    record {
      count = omega (arith, ap length c.in_ok-push.ensures.items, length_push was c.in_ok-new.field-0, c.loop.invariant.count);
      fresh = subst (All IsNewBook) (sym c.in_ok-push.ensures.items)
          (All-push IsNewBook was c.in_ok-new.field-0 c.loop.invariant.fresh c.in_ok-new.ensures);
    }

pub returns-clause-fresh : goal.returns-clause-fresh
returns-clause-fresh c = λ p. path-new c.loop.books.items p c.loop.invariant.fresh
