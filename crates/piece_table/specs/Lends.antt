-- What a table of pieces ends as, once the loan of a hold has ended.
use Rattle.std.specs.Prelude.{◌≡◌, Option, OnSome}
use Rattle.std.specs.Borrow.{Fml, RattleType, MutBor, LendsSo}
use Rattle.fs_types.specs.Pieces.{Piece}
use Rattle.fs_types.specs.declared.hold.Hold as hold
use Rattle.piece_table.specs.contracts.piece_table.PieceTable.{the_row}
use Rattle.piece_table.specs.PieceTable.{Pieces, HoldSet}

module _ (H : RattleType) (met : hold.Ghosts H.Denot) (t : MutBor (Pieces H.Denot)) (p : Piece) where
  -- the piece has the hold that was left behind r, and all else is as it was; without r all is as it was
  abbrev pub lends_hold : Option (MutBor H.Denot) → Fml
  lends_hold r = LendsSo (the_row H met) H t r (λ n w. OnSome r (HoldSet p w t.now n)) (λ n. n ≡ t.now)
