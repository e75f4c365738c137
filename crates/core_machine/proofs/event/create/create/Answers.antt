-- The client notes the version now; where there is no file, that of the file that is made, and opens it.
use Rattle.fs_types.proofs.Common.{◌∙◌, ap, refl, true}
use Rattle.fs_types.specs.declared.answer.Answer.TheVariants.{Exists}
use Rattle.fs_script.specs.declared.line.Op.TheVariants.{Create}
use Rattle.owner_book.specs.Calls.{created}
use Rattle.owner_book.specs.Kept.{path_in}
use Rattle.core_machine.specs.ClientPath.{ClientPath, own_of}
use Rattle.core_machine.specs.Kept.{owned_of}
use Rattle.core_machine.specs.declared.task.Task.TheVariants.{Idle}
use Rattle.core_machine.proofs.BooksOfPaths.{path-changed}
use Rattle.core_machine.proofs.EventsFollow.{ends-answered, notes-told, told-none}
use Rattle.core_machine.proofs.FileEvents.{create-there, ends-created}
use Rattle.core_machine.proofs.event.create.create.Goals as goal

pub returns-then-attr-clause-done : goal.returns-then-attr-clause-done
returns-then-attr-clause-done c = λ s lines told.
    let k = own_of c.args.client.now c.args.p.now lines in
    let l = own_of c.note.new.self c.args.p.now lines in
    let x = owned_of (path_in c.args.book.now c.args.gfid c.args.p.now) told in
    let noted = c.in_ok-note.ensures.noted lines in
    let a = Exists c.attr-v.result.0 in
    ends-answered s c.args.n Create x k l a (λ free. create-there s x k c.attr-v.result c.attr-v.ensures.attr free c.if-attr.true)
    (notes-told x k Idle a c.attr-v.result l.noted c.attr-v.ensures.attr (ap (λ (w : ClientPath). w.noted) noted) refl)
    (ap (λ (w : ClientPath). w.is_open) noted) refl (ap (λ (w : ClientPath). w.pending) noted)

pub returns-clause-done : goal.returns-clause-done
returns-clause-done c = λ s lines told.
    let x = path_in c.args.book.now c.args.gfid c.args.p.now in
    let changed = path-changed c.args.book.now c.create.new.self c.args.gfid c.args.p.now (created c.args.n x) c.in-Ok.ensures.created in
    ends-created s c.args.n x (path_in c.create.new.self c.args.gfid c.args.p.now) told (own_of c.args.client.now c.args.p.now lines)
    (own_of c.open.new.self c.args.p.now lines) c.in-Ok.v (told-none c.attr-v.result x c.attr-v.ensures.attr c.if-attr.false) changed
    c.in-Ok.ensures.version
    (c.in_ok-open.ensures.opened lines
    ∙ ap (λ (w : ClientPath). let v : ClientPath = record w { is_open = true } in v) (c.in_ok-note-2.ensures.noted lines))
