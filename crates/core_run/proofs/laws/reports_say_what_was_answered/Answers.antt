use Rattle.core_run.proofs.PickedTurns.{is-reported, was-answered}
use Rattle.core_run.proofs.laws.reports_say_what_was_answered.Goals as goal

pub returns-clause-answered : goal.returns-clause-answered
returns-clause-answered c = λ picks s R k a under.
    was-answered k a c.runs_under_picks_are_reached.ensures.moments under c.answers_were_given.ensures.given

pub returns-clause-reported : goal.returns-clause-reported
returns-clause-reported c = λ picks s R k a can under.
    is-reported k a c.runs_under_picks_are_reached.ensures.moments under c.answers_were_given.ensures.stand can
