use Rattle.std.proofs.Common.{List, ℕ, Some, ap, sym, ◌∙◌}
use Rattle.std.specs.List.{slice_get}
use Rattle.core_run.proofs.PickedRuns.{entry-at}
use Rattle.core_run.proofs.run.path_report.Goals as goal

pub returns-clause-journal : goal.returns-clause-journal
returns-clause-journal c =
    entry-at c.args.core.now.journals c.args.i c.in_ok-path.path c.in_ok-journal.journal.items c.requires.rising
    (ap (λ (ps : List (List ℕ)). slice_get ps c.args.i) (sym c.paths.ensures) ∙ c.path.ensures ∙ ap Some (sym c.in_ok-path.ensures))
    (c.in_ok-journal.ensures.items ∙ c.journal.ensures)
