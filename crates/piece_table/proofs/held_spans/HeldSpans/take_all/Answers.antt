use Rattle.fs_types.proofs.Common.{◌++◌, ap, sym, ◌∙◌, subst}
use Rattle.fs_types.specs.Fragments.{AreHeldFragments, held_pieces}
use Rattle.fs_types.specs.declared.limits.TheConstants.{LONGEST_FILE}
use Rattle.piece_table.specs.HeldSpans.{AreGone, held, kept}
use Rattle.piece_table.proofs.AllPut.{HandsOver-all, IsKept-none, cut_all}
use Rattle.piece_table.proofs.Holds.{IsCounted-kept}
use Rattle.piece_table.proofs.Taken.{all_gone, found_gone, held_gone}
use Rattle.piece_table.proofs.held_spans.HeldSpans.take_all.Given.{Over}
use Rattle.piece_table.proofs.held_spans.HeldSpans.take_all.Goals as goal

pub returns-clause-emptied : goal.returns-clause-emptied
returns-clause-emptied g c = c.cut.ensures.cut ∙ cut_all (g.S.Spans.fragments c.self.inside.spans)

pub invariant_of-self : goal.invariant_of-self
invariant_of-self g c =
    IsCounted-kept g.H.Hold.is_ready g.H.Hold.piece g.H.Hold.bytes _
    (IsKept-none g.H.Hold.is_ready g.H.Hold.piece g.H.Hold.bytes (g.S.Spans.fragments c.cut.new.self) c.take_all.new.self
    (g.met.S.Spans.are_spans c.cut.new.self) (returns-clause-emptied g c) c.take_all.ensures.emptied)

pub returns-clause-are_held : goal.returns-clause-are_held
returns-clause-are_held g c =
    (IsKept-none g.H.Hold.is_ready g.H.Hold.piece g.H.Hold.bytes (g.S.Spans.fragments c.cut.new.self) c.take_all.new.self
    (g.met.S.Spans.are_spans c.cut.new.self) (returns-clause-emptied g c) c.take_all.ensures.emptied).are_held

-- what came out are the holds of what was there
gone : (g : Over) (c : goal.After-cut g)
    → AreGone g.H.Hold.piece (held (kept (g.S.Spans.fragments c.self.inside.spans) c.self.inside.pieces))
    (held (kept (g.S.Spans.fragments c.cut.new.self) c.take_all.new.self)) c.take_all.new.out.items
gone g c =
    let old = kept (g.S.Spans.fragments c.self.inside.spans) c.self.inside.pieces in
    let fs = g.S.Spans.fragments c.cut.new.self in
    all_gone g.H.Hold.piece (held old) (held (kept fs c.take_all.new.self)) c.args.holds.items c.take_all.new.out.items c.requires.empty.1
    (HandsOver-all g.H.Hold.is_ready g.H.Hold.piece g.H.Hold.bytes old fs c.take_all.new.self (returns-clause-emptied g c)
    c.take_all.ensures.emptied c.args.holds.items c.take_all.new.out.items c.take_all.ensures.out)

pub returns-clause-well_formed : goal.returns-clause-well_formed
returns-clause-well_formed g c =
    let fs = g.S.Spans.fragments c.self.inside.spans in
    let holds = c.take_all.new.out.items in
    let same = c.list_fragments.ensures ∙ ap (λ us. us ++ fs) c.requires.empty.0 in
    subst (λ us. AreHeldFragments LONGEST_FILE us (held_pieces g.H.Hold.piece g.H.Hold.bytes holds)) (sym same)
    (held_gone g.H.Hold.is_ready g.H.Hold.piece g.H.Hold.bytes (held (kept fs c.self.inside.pieces))
    (held (kept (g.S.Spans.fragments c.cut.new.self) c.take_all.new.self)) (rw (← c.self.view_is) at c.requires.are_held)
    (returns-clause-emptied g c) holds (gone g c))

pub returns-clause-holds : goal.returns-clause-holds
returns-clause-holds g c =
    let fs = g.S.Spans.fragments c.self.inside.spans in
    rw (← c.self.view_is)
    (found_gone g.H.Hold.is_ready g.H.Hold.piece g.H.Hold.bytes (held (kept fs c.self.inside.pieces))
    (held (kept (g.S.Spans.fragments c.cut.new.self) c.take_all.new.self)) (rw (← c.self.view_is) at c.requires.are_held)
    (returns-clause-emptied g c) c.take_all.new.out.items (gone g c))
