use Rattle.fs_types.proofs.Common.{ap, sym, Some, subst, same_Some, refl, ◌<◌}
use Rattle.std.specs.Option.{is_some}
use Rattle.piece_table.specs.declared.piece_table.Counted.{Counted}
use Rattle.piece_table.specs.PieceTable.{hold_in, number_in}
use Rattle.piece_table.proofs.Tables.{AreCounted-after, hold_after, same_number_after}
use Rattle.piece_table.proofs.piece_table.PieceTable.hold.Goals as goal

pub invariant_of-self-lent : goal.invariant_of-self-lent
invariant_of-self-lent g c h =
    let x : Counted g.row.H.Denot = c.in-Some.counted.now in
    let w : Counted g.row.H.Denot = record { number = x.number; hold = h } in
    let value = c.in-Some.ensures.value in
    AreCounted-after c.self.inside.pieces.entries _ c.args.p (Some w) ((c.get_mut.follows.holds w).3 (ap is_some (sym value))).0
    c.self.invariant (c.get_mut.follows.holds w).4
    (λ y is. subst (λ (y : Counted g.row.H.Denot). 0 < y.number) (same_Some _ _ is) (c.self.invariant.number c.args.p x (sym value)))

pub returns : goal.returns
returns g c =
    let x : Counted g.row.H.Denot = c.in-Some.counted.now in
    let value = c.in-Some.ensures.value in (
      (
        refl,
        (λ h.
            let w : Counted g.row.H.Denot = record { number = x.number; hold = h } in
            let there = (c.get_mut.follows.holds w).3 (ap is_some (sym value)) in
            rw (← c.self.view_is) (record {
              numbers = same_number_after c.self.inside.pieces.entries _ c.args.p (Some w) there.0 (ap number_in value);
              holds = hold_after c.self.inside.pieces.entries _ c.args.p (Some w) there.0;
              len = (c.get_mut.follows.holds w).2;
              spare = (c.get_mut.follows.holds w).6;
            })),
        refl,
      ),
      record { writes_back = tt; hold = rw (← c.self.view_is) (ap hold_in value) },
    )
