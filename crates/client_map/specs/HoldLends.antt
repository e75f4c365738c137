-- What a path and a map end as, once the loan of a hold has ended.
use Rattle.std.specs.Prelude.{◌≡◌, List, ℕ, Option, Some, OnSome, if◌then◌else◌}
use Rattle.std.specs.Borrow.{Fml, RattleType, MutBor, LendsSo}
use Rattle.fs_types.specs.Fragments.{piece_eq}
use Rattle.fs_types.specs.Pieces.{Piece}
use Rattle.fs_types.specs.declared.hold.Hold as hold
use Rattle.piece_table.specs.HeldSpans.{Held, Kept, held}
use Rattle.span_list.specs.declared.spans.Spans as spans
use Rattle.client_map.specs.contracts.map.ClientMap as client_map
use Rattle.client_map.specs.contracts.pending_path.PendingPath as path
use Rattle.client_map.specs.Calls.{Changes, IsAsBefore}
use Rattle.client_map.specs.Kept.{MapKept, pending_in}

-- what is pending, with this hold of one piece, and every other as it was
abbrev pub with_hold : {H : Type 0} → Piece → H → Held H → Held H
with_hold id h x = record { fragments = x.fragments; hold_of = λ q. if piece_eq id q then Some h else x.hold_of q }

module _ (H S : RattleType) (met : hold.Ghosts H.Denot) (kept_by : spans.Ghosts S.Denot) where
  -- the piece has the hold that was left behind r, and all else is as it was; without r all is as it was
  abbrev pub lends_on_path : MutBor (Kept H.Denot) → Piece → Option (MutBor H.Denot) → Fml
  lends_on_path s id r = LendsSo (path.the_row H S met kept_by) H s r
      (λ n w. OnSome r (held n ≡ with_hold id w (held s.now))) (λ n. n ≡ s.now)

  -- the same of one path of a map
  abbrev pub lends_hold_of : MutBor (MapKept H.Denot) → List ℕ → Piece → Option (MutBor H.Denot) → Fml
  lends_hold_of s p id r = LendsSo (client_map.the_row H S met kept_by) H s r
      (λ n w. OnSome r (Changes s.now n p (with_hold id w (pending_in s.now p)))) (IsAsBefore s.now)
