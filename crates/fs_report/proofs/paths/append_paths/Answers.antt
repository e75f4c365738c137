use Rattle.fs_report.proofs.TextLemmas.{paths-push}
use Rattle.fs_report.proofs.paths.append_paths.Goals as goal

pub loop-i-preserved : goal.loop-i-preserved
loop-i-preserved c =
    paths-push c.args.out.now.items c.loop-i.out.items c.append_journal.new.out.items c.append_file.new.out.items
    c.args.journals.now c.args.files.now c.loop-i.i _ _ c.at.ensures c.at-in-loop-i.ensures c.loop-i.invariant
    c.in_ok-append_journal.ensures c.in_ok-append_file.ensures
