use Rattle.fs_report.proofs.TextLemmas.{slots-push}
use Rattle.fs_report.proofs.slots.append_slots.Goals as goal

pub loop-i-preserved : goal.loop-i-preserved
loop-i-preserved c =
    slots-push c.args.out.now.items c.loop-i.out.items c.append_slot_line.new.out.items c.args.slots.now c.loop-i.i _ c.at.ensures
    c.loop-i.invariant c.in_ok-append_slot_line.ensures
