use Rattle.fs_types.proofs.Common.{◌∙◌, sym, ap}
use Rattle.core_machine.specs.Logs.{slot_of}
use Rattle.core_machine.proofs.Refines.Counts.{count-kept}
use Rattle.core_machine.proofs.run.report.count.Goals as goal

pub returns : goal.returns
returns g c =
    let r = c.args.run.now in
    c.count.ensures ∙ sym (ap (λ o. (slot_of o c.args.slot).count) c.log.ensures)
    ∙ count-kept (c.requires.run.holds c.requires.going) r.spent c.args.r c.args.slot
