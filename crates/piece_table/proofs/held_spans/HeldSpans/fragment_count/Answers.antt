-- All fragments lie whole in the longest file.
use Rattle.fs_types.proofs.Common.{◌∙◌, ap, arith, length}
use Rattle.piece_table.specs.HeldSpans.{Kept}
use Rattle.piece_table.proofs.Covered.{covered_all, few}
use Rattle.piece_table.proofs.held_spans.HeldSpans.fragment_count.Goals as goal

pub returns-clause-count : goal.returns-clause-count
returns-clause-count g c =
    c.count_covered.ensures ∙ ap length (covered_all _ c.self.invariant.spans.each)
    ∙ ap (λ (x : Kept g.row.H.Denot). length x.fragments) c.self.view_is

pub returns-clause-small : goal.returns-clause-small
returns-clause-small g c =
    omega (arith, c.count_covered.ensures, ap length (covered_all _ c.self.invariant.spans.each), few _ c.self.invariant.spans)
