use Rattle.fs_types.proofs.Common.{◌<◌, ◌≡◌, ◌^◌, ◌∷◌, Some, [], ap, arith, cond_both, same_Some, sym, ◌∙◌}
use Rattle.fs_types.specs.Fragments.{fragment_count, piece_eq}
use Rattle.span_list.specs.Spans.{put_fragment}
use Rattle.piece_table.specs.HeldSpans.{kept, pushed}
use Rattle.piece_table.specs.PieceTable.{hold_of, number_of}
use Rattle.piece_table.proofs.AllPut.{AreMerged, ArePut, are-put, merged_counted}
use Rattle.piece_table.proofs.Counts.{count-cons, count-one, few_named}
use Rattle.piece_table.proofs.Holds.{IsCounted-kept}
use Rattle.piece_table.proofs.OnePut.{Puts-one, merged-one}
use Rattle.piece_table.proofs.Tables.{same_piece}
use Rattle.piece_table.proofs.held_spans.HeldSpans.put.Given.{Over}
use Rattle.piece_table.proofs.held_spans.HeldSpans.put.Goals as goal
use Rattle.piece_table.proofs.held_spans.HeldSpans.put.Goals.{After-lay}

pub lay-requires-clause-few : goal.lay-requires-clause-few
lay-requires-clause-few g c q =
    let few = few_named q (g.S.Spans.fragments c.self.inside.spans) c.self.invariant.spans in
    cond_both (piece_eq (g.H.Hold.piece c.args.h) q) 1 (number_of c.self.inside.pieces q)
    (λ n. number_of c.enter.new.self q ≡ n → number_of c.enter.new.self q < 2 ^ 63)
    (λ _ is. omega (arith, is)) (λ _ is. omega (arith, is, few, c.self.invariant.numbers q)) (c.in_ok-enter.ensures.numbers q)

pub lay-requires-clause-theirs : goal.lay-requires-clause-theirs
lay-requires-clause-theirs g c q x is =
    let are = rw (← c.self.view_is) at c.requires.are_held in
    cond_both (piece_eq (g.H.Hold.piece c.args.h) q) (Some c.args.h) (hold_of c.self.inside.pieces q)
    (λ o. o ≡ Some x → g.H.Hold.piece x ≡ q)
    (λ same own. ap g.H.Hold.piece (sym (same_Some c.args.h x own)) ∙ same_piece (g.H.Hold.piece c.args.h) q same)
    (λ _. are.piece q x) (sym (c.in_ok-enter.ensures.holds q) ∙ is)

-- what there was, with the piece that is entered
merged : (g : Over) (c : After-lay g)
    → AreMerged g.H.Hold.is_ready g.H.Hold.piece g.H.Hold.bytes (kept (g.S.Spans.fragments c.self.inside.spans) c.self.inside.pieces)
    (pushed g.H.Hold.piece (c.args.f ∷ []) (c.args.h ∷ [])) c.enter.new.self
merged g c =
    merged-one g.H.Hold.is_ready g.H.Hold.piece g.H.Hold.bytes (kept (g.S.Spans.fragments c.self.inside.spans) c.self.inside.pieces)
    c.args.f c.args.h c.enter.new.self
    (record { are_held = rw (← c.self.view_is) at c.requires.are_held; numbers = c.self.invariant.numbers })
    c.requires.span c.requires.ready c.requires.piece c.requires.within (rw (← c.self.view_is) at c.requires.new_piece)
    c.in_ok-enter.ensures.numbers c.in_ok-enter.ensures.holds

-- and once the fragment is put
put : (g : Over) (c : After-lay g)
    → ArePut g.H.Hold.is_ready g.H.Hold.piece g.H.Hold.bytes (kept (g.S.Spans.fragments c.self.inside.spans) c.self.inside.pieces)
    (pushed g.H.Hold.piece (c.args.f ∷ []) (c.args.h ∷ [])) c.enter.new.self c.lay.new.pieces (g.S.Spans.fragments c.lay.new.spans)
put g c =
    let same = c.reserve-else-is_err.ensures.same in
    are-put (merged g c) c.lay.new.pieces (g.S.Spans.fragments c.lay.new.spans) (c.lay.ensures.fragments ∙ ap (put_fragment c.args.f) same)
    (λ q. omega (
      arith,
      c.lay.ensures.numbers q,
      ap (λ us. fragment_count q (c.args.f ∷ us)) same,
      merged_counted (merged g c) q,
      count-cons q c.args.f (g.S.Spans.fragments c.self.inside.spans),
      count-one q c.args.f,
    ))
    c.lay.ensures.thins

pub invariant_of-self-2 : goal.invariant_of-self-2
invariant_of-self-2 g c =
    IsCounted-kept g.H.Hold.is_ready g.H.Hold.piece g.H.Hold.bytes _ (put g (goal.at.invariant_of-self-2 g c).After-lay).is_kept

pub returns-clause-are_held : goal.returns-clause-are_held
returns-clause-are_held g c = (put g (goal.at.returns-clause-are_held g c).After-lay).is_kept.are_held

pub returns-clause-put : goal.returns-clause-put
returns-clause-put g c =
    rw (← c.self.view_is)
    (Puts-one g.H.Hold.is_ready g.H.Hold.piece g.H.Hold.bytes (kept (g.S.Spans.fragments c.self.inside.spans) c.self.inside.pieces)
    c.args.f c.args.h c.enter.new.self _ _ c.requires.piece (put g (goal.at.returns-clause-put g c).After-lay).puts)

pub returns-clause-dead : goal.returns-clause-dead
returns-clause-dead g c =
    rw (← c.self.view_is, ← c.reserve.ensures.items) ((put g (goal.at.returns-clause-dead g c).After-lay).hands _ _ c.lay.ensures.out)
