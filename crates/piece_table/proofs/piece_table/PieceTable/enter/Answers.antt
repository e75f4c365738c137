use Rattle.std.proofs.Common.{lit<}
use Rattle.fs_types.proofs.Common.{◌<◌, ap, ◌∙◌, subst, same_Some, refl, if◌then◌else◌, ◌+◌, length}
use Rattle.std.specs.Option.{is_some}
use Rattle.piece_table.specs.declared.piece_table.Counted.{Counted}
use Rattle.piece_table.proofs.Tables.{AreCounted-after, number_after, hold_after, unheld}
use Rattle.piece_table.proofs.piece_table.PieceTable.enter.Goals as goal

pub invariant_of-self : goal.invariant_of-self
invariant_of-self g c =
    AreCounted-after c.self.inside.pieces.entries c.insert.new.self.entries c.piece-piece.result _ c.in-Ok.ensures.updates.0
    c.self.invariant c.in-Ok.ensures.unique
    (λ x is. subst (λ (y : Counted g.row.H.Denot). 0 < y.number) (same_Some _ _ is) (lit< tt))

pub returns-in-Ok-clause-numbers : goal.returns-in-Ok-clause-numbers
returns-in-Ok-clause-numbers g c q =
    rw (← c.self.view_is, ← c.piece-piece.ensures)
    (number_after c.self.inside.pieces.entries c.insert.new.self.entries c.piece-piece.result _ c.in-Ok.ensures.updates.0 1 refl q)

pub returns-in-Ok-clause-holds : goal.returns-in-Ok-clause-holds
returns-in-Ok-clause-holds g c q =
    rw (← c.self.view_is, ← c.piece-piece.ensures)
    (hold_after c.self.inside.pieces.entries c.insert.new.self.entries c.piece-piece.result _ c.in-Ok.ensures.updates.0 q)

pub returns-in-Ok-clause-len : goal.returns-in-Ok-clause-len
returns-in-Ok-clause-len g c =
    let none = unheld _ (rw (← c.self.view_is, ← c.piece-piece.ensures) at c.requires.new_piece) in
    rw (← c.self.view_is)
    (c.in-Ok.ensures.len
    ∙ ap (λ o. length c.self.inside.pieces.entries + (if is_some o then 0 else 1)) (c.in-Ok.ensures.old ∙ none))

pub returns-in-Ok-clause-counted : goal.returns-in-Ok-clause-counted
returns-in-Ok-clause-counted g c = invariant_of-self g c
