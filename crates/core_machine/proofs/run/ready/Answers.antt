use Rattle.fs_types.proofs.Common.{sym, ap, ◌∙◌}
use Rattle.core_machine.specs.Core.{states}
use Rattle.core_machine.specs.Vocabulary.{ready, moment_of}
use Rattle.core_machine.proofs.Refines.Ready.{ready-kept}
use Rattle.core_machine.proofs.run.ready.Goals as goal

pub returns-else-run : goal.returns-else-run
returns-else-run g c =
    let r = c.args.run.now in
    c.ready.ensures.ready ∙ sym (ready-kept (c.requires.holds c.if-run.false) c.requires.phases)
    ∙ ap (λ b. ready (moment_of r.script.now r.paths (states r) r.answers r.turns r.tasks.items r.logs.items b)) (sym c.if-run.false)
