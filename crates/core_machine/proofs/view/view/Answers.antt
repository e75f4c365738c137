-- What is seen is what was found, or that with the pending parts of the range over it.
use Rattle.fs_types.proofs.Common.{◌∙◌, ap, max, refl}
use Rattle.piece_table.specs.HeldSpans.{put_fragments}
use Rattle.client_map.specs.Kept.{pending_in}
use Rattle.owner_book.proofs.Named.{parts-found}
use Rattle.core_machine.specs.ClientPath.{pending_of}
use Rattle.core_machine.proofs.SeenMarks.{IsSeenIn-alone, IsSeenIn-own}
use Rattle.core_machine.proofs.view.view.Goals as goal

pub returns-then-not-with_own-clause-seen : goal.returns-then-not-with_own-clause-seen
returns-then-not-with_own-clause-seen c = λ s lines f file is pending apart.
    rw c.if-not-with_own.true
    (IsSeenIn-alone s f (pending_of c.args.client.now c.args.p.now lines) c.args.off c.args.len c.args.found file is pending)

pub returns-clause-seen : goal.returns-clause-seen
returns-clause-seen c = λ s lines f file is pending apart.
    let over = (pending_in c.args.client.now.pending c.args.p.now).fragments in
    let range = parts-found c.args.off c.args.len c.saturating_add.result _ over over pending.are_held.spans c.saturating_add.ensures refl refl in
    rw c.if-not-with_own.false
    (IsSeenIn-own s f (pending_of c.args.client.now c.args.p.now lines) c.args.off c.args.len c.args.found file is pending apart
    c.in_ok-frags.frags c.max-size.result c.in_ok-frags.ensures.spans
    (c.in_ok-frags.ensures.put ∙ ap (λ fs. put_fragments fs c.args.found.frags.items) range)
    (c.max-size.ensures ∙ ap (max c.args.found.attr.size) c.end.ensures))
