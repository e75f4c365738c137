use Rattle.fs_types.proofs.Common.{is_some, ap, sym, refl}
use Rattle.piece_table.specs.HeldSpans.{Kept, SetsHold, kept_with}
use Rattle.piece_table.proofs.Lent.{IsCounted-lent}
use Rattle.piece_table.proofs.held_spans.HeldSpans.hold_of.Goals as goal

pub invariant_of-self-lent : goal.invariant_of-self-lent
invariant_of-self-lent g c h =
    let spans = c.self.inside.spans in
    let old : Kept g.row.H.Denot = kept_with (g.S.Spans.fragments spans) (g.S.Spans.spare spans) c.self.inside.pieces in
    let new : Kept g.row.H.Denot = kept_with (g.S.Spans.fragments spans) (g.S.Spans.spare spans) (c.hold.follows.lender h) in
    let sets : SetsHold c.args.p h old new = record { fragments = refl; spare = refl; pieces = (rw c.in-Some.is at c.hold.follows.holds) h } in
    IsCounted-lent c.args.p h old new sets (sym (ap is_some c.in-Some.ensures.hold)) c.self.invariant

pub returns : goal.returns
returns g c = (
  (
    refl,
    (λ h. rw (← c.self.view_is) (record { fragments = refl; spare = refl; pieces = (rw c.in-Some.is at c.hold.follows.holds) h })),
    refl,
  ),
  record { writes_back = tt; hold = rw (← c.self.view_is) c.in-Some.ensures.hold; counted = rw (← c.self.view_is) c.self.invariant },
)
