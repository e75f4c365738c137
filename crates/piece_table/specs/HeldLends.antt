-- What fragments with holds end as, once the loan of a hold has ended.
use Rattle.std.specs.Prelude.{◌≡◌, Option, OnSome}
use Rattle.std.specs.Borrow.{Fml, RattleType, MutBor, LendsSo}
use Rattle.fs_types.specs.Pieces.{Piece}
use Rattle.fs_types.specs.declared.hold.Hold as hold
use Rattle.span_list.specs.declared.spans.Spans as spans
use Rattle.piece_table.specs.contracts.held_spans.HeldSpans.{the_row}
use Rattle.piece_table.specs.HeldSpans.{Kept, SetsHold}

module _ (H S : RattleType) (met : hold.Ghosts H.Denot) (kept_by : spans.Ghosts S.Denot) (s : MutBor (Kept H.Denot)) (p : Piece) where
  -- the piece has the hold that was left behind r, and all else is as it was; without r all is as it was
  abbrev pub lends_held : Option (MutBor H.Denot) → Fml
  lends_held r = LendsSo (the_row H S met kept_by) H s r (λ n w. OnSome r (SetsHold p w s.now n)) (λ n. n ≡ s.now)
