use Rattle.core_run.proofs.NoSpaceReports.{no_space-reported}
use Rattle.core_run.proofs.laws.no_space_is_reported.Goals as goal

pub returns : goal.returns
returns c =
    let answers = c.reports_say_what_was_answered.ensures in
    no_space-reported c.no_space_is_exact.ensures answers.answered answers.reported c.runs_under_picks_are_reached.ensures.moments
