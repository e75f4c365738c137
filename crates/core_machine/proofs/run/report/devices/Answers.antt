use Rattle.fs_types.proofs.Common.{◌∙◌, ap, length, length-map, sym}
use Rattle.slot_plain.specs.Log.{Log}
use Rattle.core_machine.proofs.run.report.devices.Goals as goal

pub returns-clause-one_each : goal.returns-clause-one_each
returns-clause-one_each g c =
    sym (length-map c.into_devices.result.items _) ∙ ap length c.into_devices.ensures
    ∙ length-map c.args.run.logs.items (λ (log : Log). log.device) ∙ c.requires.logged
