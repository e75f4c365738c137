use Rattle.fs_types.proofs.Common.{◌∷◌, [], ap, arith, refl, length}
use Rattle.piece_table.specs.PieceTable.{Pieces}
use Rattle.piece_table.proofs.Moves.{AreCounted-taken, AreOut-taken, held_rest, unheld_rest}
use Rattle.piece_table.proofs.Releases.{ComesOut-none, ComesOut-then}
use Rattle.piece_table.proofs.piece_table.PieceTable.take_all.Goals as goal

pub loop-counted-init : goal.loop-counted-init
loop-counted-init g c = record {
  counted = c.self.invariant;
  room = omega (arith, c.requires.room, ap (λ (t : Pieces g.row.H.Denot). length t.entries) c.self.view_is);
  held = λ q h is. is;
  out = ComesOut-none g.H.Hold.piece _ _ c.args.out.now.items (λ q. refl);
}

pub loop-counted-preserved : goal.loop-counted-preserved
loop-counted-preserved g c =
    let so_far = c.loop-counted.invariant in
    let last = c.in-Some.ensures.entries in
    let updates = c.in-Some.ensures.updates.0 in
    record {
      counted = AreCounted-taken _ _ c.in-Some.field-0-0 c.in-Some.counted so_far.counted last updates
          c.pop.ensures.unique;
      room = omega (arith, so_far.room, c.in-Some.ensures.len, c.push_reserved.ensures.len, c.push_reserved.ensures.capacity);
      held = λ q h is. so_far.held q h
          (held_rest _ _ c.in-Some.field-0-0 c.in-Some.counted so_far.counted last updates q h is);
      out = ComesOut-then g.H.Hold.piece _ _ _ _ _ _ so_far.out (
        c.in-Some.counted.hold ∷ [],
        c.push_reserved.ensures.items,
        AreOut-taken _ _ c.in-Some.field-0-0 c.in-Some.counted so_far.counted last updates g.H.Hold.piece
            (λ q h is. (rw (← c.self.view_is) at c.requires.theirs) q h (so_far.held q h is)),
      )
          so_far.held
          (unheld_rest _ _ c.in-Some.field-0-0 c.in-Some.counted so_far.counted last updates);
    }
