use Rattle.std.proofs.Common.{◌≡◌, [], ap, sym, ◌∙◌}
use Rattle.fs_script.specs.Job.{Job}
use Rattle.core_machine.specs.Moment.{Moment}
use Rattle.core_machine.specs.MomentReport.{report_of}
use Rattle.fs_report.specs.declared.report.Report as kept
use Rattle.core_run.proofs.ExactSlots.{AreExactSlots-under}
use Rattle.core_run.proofs.PickedRuns.{IsLegal-run, IsLegal-under, IsReached-run}
use Rattle.fs_script.proofs.CallerLemmas.{IsPath-named}
use Rattle.core_run.proofs.JobReports.{report_view-is, as_many_files}
use Rattle.core_run.proofs.run.report.Goals as goal

pub path_lists-requires-clause-rising : goal.path_lists-requires-clause-rising
path_lists-requires-clause-rising c =
    let made = c.in_ok-core.ensures in
    (IsLegal-run [] c.runs_are_legal.ensures made.job made.first c.in_ok-run_to_end.ensures).shape.journals.rising

pub path_lists-requires-clause-paths : goal.path_lists-requires-clause-paths
path_lists-requires-clause-paths c = λ p has.
    let made = c.in_ok-core.ensures in
    let legal = IsLegal-run [] c.runs_are_legal.ensures made.job made.first c.in_ok-run_to_end.ensures in
    IsPath-named c.args.s.now p made.job (legal.shape.journals.named p has)

pub slot_list-requires-clause-going : goal.slot_list-requires-clause-going
slot_list-requires-clause-going c =
    let reached = IsReached-run c.in_ok-core.ensures.first c.in_ok-run_to_end.ensures in
    ap (λ (m : Moment). m.spent) c.in_ok-journals.ensures.same ∙ reached.unspent

pub slot_list-requires-clause-clients : goal.slot_list-requires-clause-clients
slot_list-requires-clause-clients c =
    let reached = IsReached-run c.in_ok-core.ensures.first c.in_ok-run_to_end.ensures in
    let job : c.path_lists.new.core.job ≡ c.args.s.now =
    ap (λ (m : Moment). m.job) c.in_ok-journals.ensures.same ∙ reached.job ∙ c.in_ok-core.ensures.first.job in
    ap (λ h. h.clients) c.shape-clients.ensures.shape ∙ sym (ap (λ (j : Job). j.shape.clients) job)

pub returns-clause-run : goal.returns-clause-run
returns-clause-run c =
    let lists = c.in_ok-journals.ensures in
    let n = c.run_to_end.new.core in
    let slots = c.in_ok-slots.ensures ∙ ap (λ (m : Moment). (report_of m).slots) lists.same in
    let report : kept.Report = record {
      answers = c.into_answers.result;
      journals = c.in_ok-journals.journals;
      files = c.in_ok-journals.files;
      slots = c.in_ok-slots.slots;
    } in
    let answers = c.into_answers.ensures ∙ ap (λ (m : Moment). m.answers) lists.same in
    record {
      first = c.in_ok-core.core;
      last = n;
      begins = c.in_ok-core.ensures.first;
      run = c.in_ok-run_to_end.ensures;
      reported = sym (report_view-is n report answers lists.journals lists.files slots);
    }

pub returns-clause-sized : goal.returns-clause-sized
returns-clause-sized c =
    let lists = c.in_ok-journals.ensures in as_many_files c.run_to_end.new.core _ _ lists.journals lists.files

pub returns-clause-legal : goal.returns-clause-legal
returns-clause-legal c = λ told.
    IsLegal-under told c.runs_are_legal.ensures c.in_ok-core.ensures.job (returns-clause-run c)

pub returns-clause-slots : goal.returns-clause-slots
returns-clause-slots c =
    AreExactSlots-under c.runs_are_legal.ensures c.held_is_exact.ensures c.in_ok-core.ensures.job (returns-clause-run c)
