use Rattle.std.proofs.Common.{◌∙◌}
use Rattle.core_run.proofs.JobReports.{journals-push, files-push}
use Rattle.core_run.proofs.run.path_lists.Goals as goal

pub loop-i-preserved : goal.loop-i-preserved
loop-i-preserved c =
    let so_far = c.loop-i.invariant in
    let r = c.in_ok-report.report in
    let now = c.in_ok-report.ensures in
    let added = c.in_ok-add_report.ensures in
    record {
      journals = journals-push c.args.core.now c.loop-i.core c.loop-i.journals c.add_report.new.journals r c.loop-i.i so_far.same
          added.journal so_far.journals now.journal;
      files = files-push c.args.core.now c.loop-i.core c.loop-i.files c.add_report.new.files r c.loop-i.i so_far.same added.file
          so_far.files now.journal now.state;
      same = now.same ∙ so_far.same;
    }
