use Rattle.fs_types.proofs.Common.{◌≡◌, ◌∷◌, None, IsTrue, All-head, ap, subst, arith, length}
use Rattle.std.specs.Vec.Iter.{into_iter_items}
use Rattle.piece_table.specs.PieceTable.{hold_of}
use Rattle.piece_table.proofs.Entered.{AreEntering, AreEntering-next}
use Rattle.piece_table.proofs.pushing.enter_all.Goals as goal

pub enter-requires-clause-ready : goal.enter-requires-clause-ready
enter-requires-clause-ready g c =
    let are = subst (AreEntering g.H.Hold.piece g.H.Hold.is_ready c.args.pieces.now c.loop-h.pieces
    (into_iter_items c.into_iter-h-iterator.result)) c.in-Some.ensures.steps.0 c.loop-h.invariant.entering in
    All-head (λ h. IsTrue (g.H.Hold.is_ready h)) c.in-Some.h _ are.ready

pub enter-requires-clause-new_piece : goal.enter-requires-clause-new_piece
enter-requires-clause-new_piece g c =
    let are = subst (AreEntering g.H.Hold.piece g.H.Hold.is_ready c.args.pieces.now c.loop-h.pieces
    (into_iter_items c.into_iter-h-iterator.result)) c.in-Some.ensures.steps.0 c.loop-h.invariant.entering in
    All-head (λ h. hold_of c.loop-h.pieces (g.H.Hold.piece h) ≡ None) c.in-Some.h _ are.new

pub loop-h-preserved : goal.loop-h-preserved
loop-h-preserved g c =
    let steps : into_iter_items c.loop-h.h-iterator ≡ c.in-Some.h ∷ into_iter_items c.next.new.self = c.in-Some.ensures.steps.0 in
    let all = into_iter_items c.into_iter-h-iterator.result in
    let are = subst (AreEntering g.H.Hold.piece g.H.Hold.is_ready c.args.pieces.now c.loop-h.pieces all) steps
    c.loop-h.invariant.entering in
    record {
      count = omega (arith, c.in-Some.ensures.steps.1, c.loop-h.invariant.count, ap length steps);
      entering = AreEntering-next g.H.Hold.piece g.H.Hold.is_ready c.args.pieces.now c.loop-h.pieces c.enter.new.self c.in-Some.h all
          (into_iter_items c.next.new.self) are c.in-Ok.ensures.numbers c.in-Ok.ensures.holds c.in-Ok.ensures.len c.in-Ok.ensures.spare;
    }
