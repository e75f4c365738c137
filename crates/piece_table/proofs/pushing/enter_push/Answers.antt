use Rattle.fs_types.proofs.Common.{◌<◌, ap, sym, subst, arith}
use Rattle.fs_types.specs.Pieces.{Piece}
use Rattle.piece_table.specs.PieceTable.{number_of}
use Rattle.std.proofs.lemmas.List.Sums.{count_by-le-length}
use Rattle.piece_table.proofs.Discounted.{times}
use Rattle.piece_table.proofs.Entered.{is_of}
use Rattle.piece_table.proofs.Pushed.{counted_more, entered_there, holds_apart, times-pieces}
use Rattle.piece_table.proofs.pushing.enter_push.Goals as goal

pub enter_all-requires-clause-apart : goal.enter_all-requires-clause-apart
enter_all-requires-clause-apart g c =
    holds_apart g.H.Hold.piece g.H.Hold.bytes g.H.Hold.is_ready c.args.frags.now c.args.holds.items c.requires.well_formed

pub count_all-requires-clause-there : goal.count_all-requires-clause-there
count_all-requires-clause-there g c =
    entered_there g.H.Hold.piece g.H.Hold.bytes g.H.Hold.is_ready c.args.frags.now c.args.holds.items c.requires.well_formed
    c.args.pieces.now c.enter_all.new.pieces c.enter_all.ensures.numbers

pub count_all-requires-clause-few : goal.count_all-requires-clause-few
count_all-requires-clause-few g c q =
    omega (
      arith,
      c.requires.few q,
      c.enter_all.ensures.numbers q,
      count_by-le-length (is_of g.H.Hold.piece q) c.args.holds.items,
      c.args.holds.ok,
      c.args.holds.small,
    )

pub discount_all-requires : goal.discount_all-requires
discount_all-requires g c = record {
  stays = subst (λ ps. (q : Piece) → 0 < times q ps → times q ps < number_of c.count_all.new.pieces q) (sym c.requires.ids)
      (counted_more g.H.Hold.piece g.H.Hold.bytes g.H.Hold.is_ready c.args.frags.now c.args.holds.items c.requires.well_formed
      c.args.pieces.now c.enter_all.new.pieces c.count_all.new.pieces c.enter_all.ensures.numbers c.count_all.ensures.numbers);
}

pub returns-clause-numbers : goal.returns-clause-numbers
returns-clause-numbers g c q =
    omega (
      arith,
      c.discount_all.ensures.numbers q,
      ap (times q) c.requires.ids,
      times-pieces g.H.Hold.piece g.H.Hold.bytes g.H.Hold.is_ready c.args.frags.now c.args.holds.items c.requires.well_formed q
          c.args.holds.items,
      c.count_all.ensures.numbers q,
      c.enter_all.ensures.numbers q,
    )
