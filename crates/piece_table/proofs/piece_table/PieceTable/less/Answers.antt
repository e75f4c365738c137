use Rattle.fs_types.proofs.Common.{◌<◌, ap, sym, ◌∙◌, Some, None, subst, same_Some, ◌-◌, arith, cond, ◌==◌}
use Rattle.fs_types.proofs.Common.{eq-eqb, ne_eqb}
use Rattle.std.specs.Option.{is_some}
use Rattle.std.specs.Map.{lookup}
use Rattle.fs_types.specs.Fragments.{piece_eq}
use Rattle.piece_table.specs.declared.piece_table.Counted.{Counted}
use Rattle.piece_table.specs.PieceTable.{number_in, hold_in}
use Rattle.piece_table.proofs.Tables.{AreCounted-after, number_after, hold_after, same_hold_after, updated_twice, and_true, and_false}
use Rattle.piece_table.proofs.piece_table.PieceTable.less.Goals as goal

pub invariant_of-self-then-counted-gt0 : goal.invariant_of-self-then-counted-gt0
invariant_of-self-then-counted-gt0 g c =
    let x : Counted g.row.H.Denot = c.in_ok-counted.counted.now in
    let w : Counted g.row.H.Denot = record { number = x.number - 1; hold = x.hold } in
    let value = c.in_ok-counted.ensures.value in
    AreCounted-after c.self.inside.pieces.entries _ c.args.p (Some w) ((c.get_mut.follows.holds w).3 (ap is_some (sym value))).0
    c.self.invariant (c.get_mut.follows.holds w).4
    (λ y is. subst (λ (y : Counted g.row.H.Denot). 0 < y.number) (same_Some _ _ is) c.if-counted-gt0.true)

pub returns-then-counted-gt0-clause-numbers : goal.returns-then-counted-gt0-clause-numbers
returns-then-counted-gt0-clause-numbers g c q =
    let x : Counted g.row.H.Denot = c.in_ok-counted.counted.now in
    let w : Counted g.row.H.Denot = record { number = x.number - 1; hold = x.hold } in
    let value = c.in_ok-counted.ensures.value in
    rw (← c.self.view_is)
    (number_after c.self.inside.pieces.entries _ c.args.p (Some w) ((c.get_mut.follows.holds w).3 (ap is_some (sym value))).0
    _ (ap (λ o. number_in o - 1) value) q)

pub returns-then-counted-gt0-clause-holds : goal.returns-then-counted-gt0-clause-holds
returns-then-counted-gt0-clause-holds g c q =
    let x : Counted g.row.H.Denot = c.in_ok-counted.counted.now in
    let w : Counted g.row.H.Denot = record { number = x.number - 1; hold = x.hold } in
    let value = c.in_ok-counted.ensures.value in
    let many = c.if-counted-gt0.true in
    let test = and_false (piece_eq c.args.p q) _ (ap (λ o. number_in o == 1) (sym value) ∙ ne_eqb x.number 1 (omega arith)) in
    rw (← c.self.view_is)
    (same_hold_after c.self.inside.pieces.entries _ c.args.p (Some w) ((c.get_mut.follows.holds w).3 (ap is_some (sym value))).0
    (ap hold_in value) q
    ∙ sym (ap (λ b. cond b None (hold_in (lookup (piece_eq q) c.self.inside.pieces.entries))) test))

pub invariant_of-self-2 : goal.invariant_of-self-2
invariant_of-self-2 g c =
    let x : Counted g.row.H.Denot = c.in_ok-counted.counted.now in
    let w : Counted g.row.H.Denot = record { number = x.number - 1; hold = x.hold } in
    let value = c.in_ok-counted.ensures.value in
    AreCounted-after c.self.inside.pieces.entries c.swap_remove.new.self.entries c.args.p None
    (updated_twice c.self.inside.pieces.entries _ _ c.args.p (Some w) None
    ((c.get_mut.follows.holds w).3 (ap is_some (sym value))).0 c.swap_remove.ensures.updates.0)
    c.self.invariant c.swap_remove.ensures.unique (λ y is. absurd cc)

pub returns-clause-numbers : goal.returns-clause-numbers
returns-clause-numbers g c q =
    let x : Counted g.row.H.Denot = c.in_ok-counted.counted.now in
    let w : Counted g.row.H.Denot = record { number = x.number - 1; hold = x.hold } in
    let value = c.in_ok-counted.ensures.value in
    let few = c.if-counted-gt0.false in
    rw (← c.self.view_is)
    (number_after c.self.inside.pieces.entries c.swap_remove.new.self.entries c.args.p None
    (updated_twice c.self.inside.pieces.entries _ _ c.args.p (Some w) None
    ((c.get_mut.follows.holds w).3 (ap is_some (sym value))).0 c.swap_remove.ensures.updates.0)
    _ (omega (arith, ap number_in value)) q)

pub returns-clause-holds : goal.returns-clause-holds
returns-clause-holds g c q =
    let x : Counted g.row.H.Denot = c.in_ok-counted.counted.now in
    let w : Counted g.row.H.Denot = record { number = x.number - 1; hold = x.hold } in
    let value = c.in_ok-counted.ensures.value in
    let few = c.if-counted-gt0.false in
    let some = c.self.invariant.number c.args.p x (sym value) in
    let test = and_true (piece_eq c.args.p q) _ (ap (λ o. number_in o == 1) (sym value) ∙ eq-eqb x.number 1 (omega arith)) in
    rw (← c.self.view_is)
    (hold_after c.self.inside.pieces.entries c.swap_remove.new.self.entries c.args.p None
    (updated_twice c.self.inside.pieces.entries _ _ c.args.p (Some w) None
    ((c.get_mut.follows.holds w).3 (ap is_some (sym value))).0 c.swap_remove.ensures.updates.0) q
    ∙ ap (λ b. cond b None (hold_in (lookup (piece_eq q) c.self.inside.pieces.entries))) test)

pub returns-then-counted-gt0-clause-counted : goal.returns-then-counted-gt0-clause-counted
returns-then-counted-gt0-clause-counted g c = invariant_of-self-then-counted-gt0 g c

pub returns-clause-counted : goal.returns-clause-counted
returns-clause-counted g c = invariant_of-self-2 g c
