-- The client notes the version now, and opens the path where there is a file.
use Rattle.fs_types.proofs.Common.{◌≡◌, ◌∙◌, ap, arith, common_steps, false, refl, true}
use Rattle.fs_types.specs.declared.answer.Answer.TheVariants.{Done, NoEnt}
use Rattle.fs_script.specs.declared.line.Op.TheVariants.{Open}
use Rattle.owner_book.specs.Kept.{path_in}
use Rattle.core_machine.specs.ClientPath.{ClientPath, own_of}
use Rattle.core_machine.specs.Kept.{owned_of}
use Rattle.core_machine.specs.declared.task.Task.TheVariants.{Idle}
use Rattle.core_machine.proofs.EventsFollow.{ends-answered, notes-told}
use Rattle.core_machine.proofs.FileEvents.{open-absent, open-there}
use Rattle.core_machine.proofs.event.open.open.Goals as goal

pub returns-then-not-attr-clause-done : goal.returns-then-not-attr-clause-done
returns-then-not-attr-clause-done c = λ s n lines told.
    let k = own_of c.args.client.now c.args.p.now lines in
    let l = own_of c.note.new.self c.args.p.now lines in
    let x = owned_of (path_in c.args.book.now c.args.gfid c.args.p.now) told in
    let absent : c.attr-v.result.1.exists ≡ false = grind (arith, common_steps) in
    let noted = c.in_ok-note.ensures.noted lines in
    let a = NoEnt c.attr-v.result.0 in
    ends-answered s n Open x k l a (λ free. open-absent s x k c.attr-v.result c.attr-v.ensures.attr free absent)
    (notes-told x k Idle a c.attr-v.result l.noted c.attr-v.ensures.attr (ap (λ (w : ClientPath). w.noted) noted) refl)
    (ap (λ (w : ClientPath). w.is_open) noted) refl (ap (λ (w : ClientPath). w.pending) noted)

pub returns-clause-done : goal.returns-clause-done
returns-clause-done c = λ s n lines told.
    let k = own_of c.args.client.now c.args.p.now lines in
    let l = own_of c.open.new.self c.args.p.now lines in
    let x = owned_of (path_in c.args.book.now c.args.gfid c.args.p.now) told in
    let there : c.attr-v.result.1.exists ≡ true = grind (arith, common_steps) in
    let noted = c.in_ok-note.ensures.noted lines in
    let opened = c.in_ok-open.ensures.opened lines in
    let a = Done c.attr-v.result.0 in
    ends-answered s n Open x k l a (λ free. open-there s x k c.attr-v.result c.attr-v.ensures.attr free there)
    (notes-told x k Idle a c.attr-v.result l.noted c.attr-v.ensures.attr
    (ap (λ (w : ClientPath). w.noted) opened ∙ ap (λ (w : ClientPath). w.noted) noted) refl)
    (ap (λ (w : ClientPath). w.is_open) opened) refl
    (ap (λ (w : ClientPath). w.pending) opened ∙ ap (λ (w : ClientPath). w.pending) noted)
