use Rattle.fs_types.proofs.Common.{◌≡◌, ◌+◌, ap, sym, ◌∙◌, subst, arith, length}
use Rattle.std.specs.List.{find}
use Rattle.std.specs.Option.{option_or}
use Rattle.fs_types.specs.Fragments.{fragment_count}
use Rattle.fs_types.specs.Pieces.{Piece}
use Rattle.span_list.specs.Spans.{AreSpans}
use Rattle.piece_table.specs.HeldSpans.{kept, pushed, put_fragments}
use Rattle.piece_table.specs.PieceTable.{Pieces, hold_of, number_of}
use Rattle.piece_table.proofs.AllPut.{AreMerged, ArePut, are-put, merged_theirs, merged_unheld}
use Rattle.piece_table.proofs.Counts.{few_named}
use Rattle.piece_table.proofs.Covered.{few}
use Rattle.piece_table.proofs.Entered.{is_of}
use Rattle.piece_table.proofs.Holds.{IsCounted-kept}
use Rattle.piece_table.proofs.Pushed.{spans}
use Rattle.piece_table.proofs.PushPut.{merged-push}
use Rattle.piece_table.proofs.held_spans.HeldSpans.put_push.Given.{Over}
use Rattle.piece_table.proofs.held_spans.HeldSpans.put_push.Goals as goal
use Rattle.piece_table.proofs.held_spans.HeldSpans.put_push.Goals.{After-deref-2, After-deref-4, After-lay_each}

-- the fragments of the push may be kept
push-spans : (g : Over) (c : After-deref-2 g) → AreSpans c.args.push.frags.items
push-spans g c =
    spans g.H.Hold.piece g.H.Hold.bytes g.H.Hold.is_ready c.args.push.frags.items c.args.push.holds.items c.requires.well_formed
    c.requires.ready (rw c.deref.ensures.value at c.in-Ok.ensures.short)

-- a table that has the pieces of the push too
merged : (g : Over) (c : After-deref-4 g) (now : Pieces g.row.H.Denot)
    → ((q : Piece) → number_of now q ≡ number_of c.reserve-2.new.self q + fragment_count q c.deref-3.result.now)
    → ((q : Piece) → hold_of now q ≡ option_or (find (is_of g.H.Hold.piece q) c.args.push.holds.items) (hold_of c.reserve-2.new.self q))
    → AreMerged g.H.Hold.is_ready g.H.Hold.piece g.H.Hold.bytes (kept (g.S.Spans.fragments c.self.inside.spans) c.self.inside.pieces)
    (pushed g.H.Hold.piece c.args.push.frags.items c.args.push.holds.items) now
merged g c now numbers holds =
    merged-push g.H.Hold.is_ready g.H.Hold.piece g.H.Hold.bytes (kept (g.S.Spans.fragments c.self.inside.spans) c.self.inside.pieces)
    c.args.push.frags.items c.args.push.holds.items now
    (record { are_held = rw (← c.self.view_is) at c.requires.are_held; numbers = c.self.invariant.numbers })
    c.requires.well_formed c.requires.ready (rw c.deref.ensures.value at c.in-Ok.ensures.short)
    (rw (← c.self.view_is) at c.requires.new_pieces)
    (rw (c.deref-3.ensures.value, c.reserve-2.ensures.same) at numbers) (rw c.reserve-2.ensures.same at holds)

-- and what there is once they are put
put : (g : Over) (c : After-lay_each g)
    → AreMerged g.H.Hold.is_ready g.H.Hold.piece g.H.Hold.bytes (kept (g.S.Spans.fragments c.self.inside.spans) c.self.inside.pieces)
    (pushed g.H.Hold.piece c.args.push.frags.items c.args.push.holds.items) c.enter_push.new.pieces
    → ArePut g.H.Hold.is_ready g.H.Hold.piece g.H.Hold.bytes (kept (g.S.Spans.fragments c.self.inside.spans) c.self.inside.pieces)
    (pushed g.H.Hold.piece c.args.push.frags.items c.args.push.holds.items) c.enter_push.new.pieces c.lay_each.new.pieces
    (g.S.Spans.fragments c.lay_each.new.spans)
put g c are =
    are-put are c.lay_each.new.pieces (g.S.Spans.fragments c.lay_each.new.spans)
    (c.lay_each.ensures.fragments ∙ ap (put_fragments c.deref-5.result.now) c.reserve.ensures.same
    ∙ ap (λ us. put_fragments us (g.S.Spans.fragments c.self.inside.spans)) c.deref-5.ensures.value)
    c.lay_each.ensures.numbers c.lay_each.ensures.thins

pub enter_push-requires-clause-few : goal.enter_push-requires-clause-few
enter_push-requires-clause-few g c q =
    omega (
      arith,
      (rw (← c.reserve-2.ensures.same) at c.self.invariant.numbers) q,
      few_named q (g.S.Spans.fragments c.self.inside.spans) c.self.invariant.spans,
      ap length c.deref-3.ensures.value,
      c.args.push.frags.ok,
      c.args.push.frags.small,
      few c.args.push.frags.items (push-spans g (goal.at.enter_push-requires-clause-few g c).After-deref-2),
    )

pub count_under-ending-requires : goal.count_under-ending-requires
count_under-ending-requires g c =
    subst AreSpans (sym c.deref-2.ensures.value) (push-spans g (goal.at.count_under-ending-requires g c).After-deref-2)

pub lay_each-requires-clause-spans : goal.lay_each-requires-clause-spans
lay_each-requires-clause-spans g c =
    subst AreSpans (sym c.deref-5.ensures.value) (push-spans g (goal.at.lay_each-requires-clause-spans g c).After-deref-2)

pub lay_each-requires-clause-theirs : goal.lay_each-requires-clause-theirs
lay_each-requires-clause-theirs g c =
    let before = (goal.at.lay_each-requires-clause-theirs g c).After-deref-4 in
    merged_theirs (merged g before c.enter_push.new.pieces c.enter_push.ensures.numbers c.enter_push.ensures.holds)

pub lay_each-requires-clause-unheld : goal.lay_each-requires-clause-unheld
lay_each-requires-clause-unheld g c =
    let before = (goal.at.lay_each-requires-clause-unheld g c).After-deref-4 in
    merged_unheld (merged g before c.enter_push.new.pieces c.enter_push.ensures.numbers c.enter_push.ensures.holds)

pub invariant_of-self-2 : goal.invariant_of-self-2
invariant_of-self-2 g c =
    let at = goal.at.invariant_of-self-2 g c in
    let are = merged g at.After-deref-4 c.enter_push.new.pieces c.enter_push.ensures.numbers c.enter_push.ensures.holds in
    IsCounted-kept g.H.Hold.is_ready g.H.Hold.piece g.H.Hold.bytes _ (put g at.After-lay_each are).is_kept

pub returns-clause-are_held : goal.returns-clause-are_held
returns-clause-are_held g c =
    let at = goal.at.returns-clause-are_held g c in
    let are = merged g at.After-deref-4 c.enter_push.new.pieces c.enter_push.ensures.numbers c.enter_push.ensures.holds in
    (put g at.After-lay_each are).is_kept.are_held

pub returns-clause-put : goal.returns-clause-put
returns-clause-put g c =
    let at = goal.at.returns-clause-put g c in
    let are = merged g at.After-deref-4 c.enter_push.new.pieces c.enter_push.ensures.numbers c.enter_push.ensures.holds in
    rw (← c.self.view_is) (put g at.After-lay_each are).puts

pub returns-clause-dead : goal.returns-clause-dead
returns-clause-dead g c =
    let at = goal.at.returns-clause-dead g c in
    let are = merged g at.After-deref-4 c.enter_push.new.pieces c.enter_push.ensures.numbers c.enter_push.ensures.holds in
    rw (← c.self.view_is, ← c.reserve-else-is_err-2.ensures.items) ((put g at.After-lay_each are).hands _ _ c.lay_each.ensures.out)
