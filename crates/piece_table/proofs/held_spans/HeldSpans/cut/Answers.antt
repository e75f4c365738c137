use Rattle.fs_types.proofs.Common.{arith}
use Rattle.fs_types.specs.declared.limits.TheConstants.{LONGEST_FILE}
use Rattle.piece_table.specs.HeldSpans.{kept}
use Rattle.piece_table.specs.Ranges.{is_covered}
use Rattle.piece_table.proofs.Counts.{count-filter-le}
use Rattle.piece_table.proofs.CutOff.{AreCut, are-cut}
use Rattle.piece_table.proofs.Holds.{IsCounted-kept}
use Rattle.piece_table.proofs.held_spans.HeldSpans.cut.Given.{Over}
use Rattle.piece_table.proofs.held_spans.HeldSpans.cut.Goals as goal
use Rattle.piece_table.proofs.held_spans.HeldSpans.cut.Goals.{After-cut}

pub release_covered-requires-clause-there : goal.release_covered-requires-clause-there
release_covered-requires-clause-there g c q =
    omega (
      arith,
      c.self.invariant.numbers q,
      count-filter-le q (is_covered c.args.size LONGEST_FILE) (g.S.Spans.fragments c.self.inside.spans),
    )

-- what is left
left : (g : Over) (c : After-cut g)
    → AreCut g.H.Hold.is_ready g.H.Hold.piece g.H.Hold.bytes (kept (g.S.Spans.fragments c.self.inside.spans) c.self.inside.pieces)
    c.args.size c.release_covered.new.pieces (g.S.Spans.fragments c.cut.new.self)
left g c =
    are-cut g.H.Hold.is_ready g.H.Hold.piece g.H.Hold.bytes (kept (g.S.Spans.fragments c.self.inside.spans) c.self.inside.pieces)
    c.args.size c.release_covered.new.pieces (g.S.Spans.fragments c.cut.new.self)
    (record { are_held = rw (← c.self.view_is) at c.requires.are_held; numbers = c.self.invariant.numbers }) c.cut.ensures.cut
    c.release_covered.ensures.numbers c.release_covered.ensures.thins

pub invariant_of-self : goal.invariant_of-self
invariant_of-self g c =
    IsCounted-kept g.H.Hold.is_ready g.H.Hold.piece g.H.Hold.bytes _ (left g (goal.at.invariant_of-self g c).After-cut).is_kept

pub returns-clause-are_held : goal.returns-clause-are_held
returns-clause-are_held g c = (left g (goal.at.returns-clause-are_held g c).After-cut).is_kept.are_held

pub returns-clause-cut : goal.returns-clause-cut
returns-clause-cut g c = rw (← c.self.view_is) (left g (goal.at.returns-clause-cut g c).After-cut).cuts

pub returns-clause-dead : goal.returns-clause-dead
returns-clause-dead g c =
    rw (← c.self.view_is, ← c.in_ok-reserve.ensures.items)
    ((left g (goal.at.returns-clause-dead g c).After-cut).hands _ _ c.release_covered.ensures.out)
