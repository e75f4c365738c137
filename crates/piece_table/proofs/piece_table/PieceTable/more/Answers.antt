use Rattle.fs_types.proofs.Common.{◌<◌, ap, sym, Some, subst, same_Some, ◌+◌, arith}
use Rattle.std.specs.Option.{is_some}
use Rattle.piece_table.specs.declared.piece_table.Counted.{Counted}
use Rattle.piece_table.specs.PieceTable.{number_in, hold_in}
use Rattle.piece_table.proofs.Tables.{AreCounted-after, number_after, same_hold_after}
use Rattle.piece_table.proofs.piece_table.PieceTable.more.Goals as goal

pub invariant_of-self-2 : goal.invariant_of-self-2
invariant_of-self-2 g c =
    let x : Counted g.row.H.Denot = c.in-Some.counted.now in
    let w : Counted g.row.H.Denot = record { number = x.number + 1; hold = x.hold } in
    let value = c.in-Some.ensures.value in
    AreCounted-after c.self.inside.pieces.entries _ c.args.p (Some w) ((c.get_mut.follows.holds w).3 (ap is_some (sym value))).0
    c.self.invariant (c.get_mut.follows.holds w).4
    (λ y is. subst (λ (y : Counted g.row.H.Denot). 0 < y.number) (same_Some _ _ is) (omega arith))

pub returns-clause-numbers : goal.returns-clause-numbers
returns-clause-numbers g c q =
    let x : Counted g.row.H.Denot = c.in-Some.counted.now in
    let w : Counted g.row.H.Denot = record { number = x.number + 1; hold = x.hold } in
    let value = c.in-Some.ensures.value in
    rw (← c.self.view_is)
    (number_after c.self.inside.pieces.entries _ c.args.p (Some w) ((c.get_mut.follows.holds w).3 (ap is_some (sym value))).0
    _ (ap (λ o. number_in o + 1) value) q)

pub returns-clause-holds : goal.returns-clause-holds
returns-clause-holds g c q =
    let x : Counted g.row.H.Denot = c.in-Some.counted.now in
    let w : Counted g.row.H.Denot = record { number = x.number + 1; hold = x.hold } in
    let value = c.in-Some.ensures.value in
    rw (← c.self.view_is)
    (same_hold_after c.self.inside.pieces.entries _ c.args.p (Some w) ((c.get_mut.follows.holds w).3 (ap is_some (sym value))).0
    (ap hold_in value) q)

pub returns-clause-counted : goal.returns-clause-counted
returns-clause-counted g c = invariant_of-self-2 g c
