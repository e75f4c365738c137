-- A report says that there was no space exactly where a line was short of slots at an event of the run.
use Rattle.std.proofs.Common.{◌≡◌, ℕ, List, Some, sym, subst}
use Rattle.fs_types.specs.declared.answer.Answer.TheVariants as answers
use Rattle.fs_script.specs.Vocabulary.{Job, Report, answers_of}
use Rattle.core_machine.specs.LegalSoFar.{Reaches}
use Rattle.core_machine.specs.Moment.{Moment}
use Rattle.core_machine.specs.RunLaws.{NoSpaceIsExact}
use Rattle.core_run.specs.PickedRun.{moment_after, turns_under}
use Rattle.core_run.specs.RunUnderLaws.{AnsweredIsReported, HadEvent, MomentsAreReached, NoSpaceIsReported, ReportedWasAnswered}

-- the machine reaches the moment of an event of a run under picks
event-reached : {picks : List ℕ} {s : Job} {k : ℕ} → MomentsAreReached → (e : HadEvent picks s k)
    → Reaches e.first (turns_under picks e.first e.events) e.then
event-reached {picks = picks} reached e =
    subst (λ (x : Moment). Reaches e.first (turns_under picks e.first e.events) x) (sym e.comes) (reached picks e.first e.events)

pub no_space-reported : NoSpaceIsExact → ReportedWasAnswered → AnsweredIsReported → MomentsAreReached → NoSpaceIsReported
no_space-reported exact was_answered is_reported reached picks s R k needed left can under = (
  λ said.
      let was = was_answered picks s R k (answers.NoSpace needed left) under said in
      let e = was.event in
      let turns = turns_under picks e.first e.events in
      let both = (exact s e.first e.then turns k e.op needed left can e.begins (event-reached reached e) e.is).0 was.gives in
      record { event = e; asks = both.0; lacks = both.1 },
  λ short.
      let e = short.event in
      let turns = turns_under picks e.first e.events in
      let gives = (exact s e.first e.then turns k e.op needed left can e.begins (event-reached reached e) e.is).1
      (short.asks, short.lacks) in
      is_reported picks s R k (answers.NoSpace needed left) can under (record { event = e; gives = gives }),
)
