use Rattle.fs_types.proofs.Common.{◌≡◌, length, All}
use Rattle.core_machine.proofs.BooksOfPaths.{IsNewBook}
use Rattle.core_machine.proofs.books.new_books.Given as goal

-- so many books so far, to which nothing was committed
abbrev pub invariant-loop : goal.invariant-loop
invariant-loop l = record { count : length l.books.items ≡ l.counter; fresh : All IsNewBook l.books.items }
