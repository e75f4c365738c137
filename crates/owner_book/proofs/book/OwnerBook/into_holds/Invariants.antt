use Rattle.owner_book.proofs.BookHolds.{Walked}
use Rattle.owner_book.proofs.book.OwnerBook.into_holds.Given as goal

-- the holds so far are those of the paths that were walked
abbrev pub invariant-loop-path : goal.invariant-loop-path
invariant-loop-path g l = record {
  can_next : (goal.iterator-loop-path g).can_next l.path-iterator;
  is_finite : (goal.iterator-loop-path g).is_finite l.path-iterator;
  walked : Walked g.H.Hold.piece l.fn.self l.path-iterator l.holds.items;
}
