-- What a caller cites of fragments with holds: whatever the proofs of the crates above need is here.

-- which mark stands at each place after a put of one fragment and of all of a list
pub use Rattle.piece_table.proofs.Places.{mark_at-put_fragments, mark_at-put_ordered}
-- that a piece is named where some fragment names it, and what a put names
pub use Rattle.piece_table.proofs.Counts.{named_some, some_named, named_none, All-named}
pub use Rattle.piece_table.proofs.Places.{named_put}
-- how many fragments there are after a put of all of a list
pub use Rattle.piece_table.proofs.Counts.{length-put_fragments}
-- the comparison of pieces decides whether they are the same
pub use Rattle.piece_table.proofs.Tables.{same_piece, piece_eq-comm, piece_eq-itself, piece_eq-sym}
-- what is kept once the loan of a hold has ended
pub use Rattle.piece_table.proofs.Lent.{IsCounted-lent, AreHeld-lent}
pub use Rattle.piece_table.proofs.HeldAnew.{held-anew}
-- what holds of the pieces of a push's holds holds of the pieces that its fragments name
pub use Rattle.piece_table.proofs.Pushed.{of_named_held}
-- each hold of a push is found by its piece, and no two of them are of one
pub use Rattle.piece_table.proofs.Pushed.{find-All, find-own, holds_apart}
-- the holds of a push that was put, how many of some are of one piece, and that none is found where none is
pub use Rattle.piece_table.proofs.Entered.{AreApart, find-none, is_of}
pub use Rattle.piece_table.proofs.PushPut.{own_holds}
pub use Rattle.piece_table.proofs.Pushed.{counts_same}
pub use Rattle.piece_table.proofs.Taken.{few_of}
