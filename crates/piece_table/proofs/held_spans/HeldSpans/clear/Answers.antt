use Rattle.fs_types.proofs.Common.{◌∙◌}
use Rattle.piece_table.specs.HeldSpans.{kept}
use Rattle.piece_table.proofs.AllPut.{HandsOver-all, IsKept-none, cut_all}
use Rattle.piece_table.proofs.Holds.{IsCounted-kept}
use Rattle.piece_table.proofs.held_spans.HeldSpans.clear.Goals as goal

pub returns-clause-fragments : goal.returns-clause-fragments
returns-clause-fragments g c = c.cut.ensures.cut ∙ cut_all (g.S.Spans.fragments c.self.inside.spans)

pub invariant_of-self : goal.invariant_of-self
invariant_of-self g c =
    IsCounted-kept g.H.Hold.is_ready g.H.Hold.piece g.H.Hold.bytes _
    (IsKept-none g.H.Hold.is_ready g.H.Hold.piece g.H.Hold.bytes (g.S.Spans.fragments c.cut.new.self) c.take_all.new.self
    (g.met.S.Spans.are_spans c.cut.new.self) (returns-clause-fragments g c) c.take_all.ensures.emptied)

pub returns-clause-are_held : goal.returns-clause-are_held
returns-clause-are_held g c =
    (IsKept-none g.H.Hold.is_ready g.H.Hold.piece g.H.Hold.bytes (g.S.Spans.fragments c.cut.new.self) c.take_all.new.self
    (g.met.S.Spans.are_spans c.cut.new.self) (returns-clause-fragments g c) c.take_all.ensures.emptied).are_held

pub returns-clause-dead : goal.returns-clause-dead
returns-clause-dead g c =
    rw (← c.self.view_is, ← c.in_ok-reserve.ensures.items)
    (HandsOver-all g.H.Hold.is_ready g.H.Hold.piece g.H.Hold.bytes (kept (g.S.Spans.fragments c.self.inside.spans) c.self.inside.pieces)
    (g.S.Spans.fragments c.cut.new.self) c.take_all.new.self (returns-clause-fragments g c) c.take_all.ensures.emptied _ _
    c.take_all.ensures.out)
