use Rattle.std.proofs.Common.{◌≡◌, ◌∙◌, ap, sym, length, slice_index, List, ℕ}
use Rattle.std.proofs.lemmas.List.{with_items_is}
use Rattle.core_machine.proofs.FetchedBytes.{in_memory}
use Rattle.core_machine.proofs.ReadTasks.{IsReadTask-fetched, task-ends}
use Rattle.core_machine.proofs.event.read.fetch_next.Goals as goal

pub fetch_run-requires-clause-held : goal.fetch_run-requires-clause-held
fetch_run-requires-clause-held g c =
    let need = c.requires.task in (
      need.0,
      (need.2 c.run.inside.piece c.in-Some.hold.now (sym c.in-Some.ensures)).1,
      in_memory need.0 c.args.logs.now c.in-Some.hold.now.rank need.3,
    )

pub fetch_run-requires-clause-end : goal.fetch_run-requires-clause-end
fetch_run-requires-clause-end g c =
    let end = task-ends c.requires.task.0 c.args.t.now c.requires.task.1 c.args.t.now.fetched c.index.result.now c.requires.left in
    rw (c.deref_mut.ensures.value) (rw (← c.index.ensures) at end)

pub returns-clause-task : goal.returns-clause-task
returns-clause-task g c = λ s task pins.
    let value = c.deref_mut.ensures.value in
    let kept : length c.fetch_run.new.bytes ≡ length c.args.t.now.bytes.items = c.fetch_run.auto.bytes ∙ ap length value in
    let items = with_items_is c.args.t.now.bytes c.fetch_run.new.bytes (kept ∙ sym c.args.t.now.bytes.ok.0) in
    IsReadTask-fetched s c.args.t.now task c.index.result.now _ c.requires.left c.index.ensures
    (ap length items ∙ kept) (λ k lt. ap (λ (bs : List ℕ). slice_index bs k) items ∙ rw value at (c.fetch_run.ensures.put s
    (pins c.run.inside.piece c.in-Some.hold.now (sym c.in-Some.ensures)).1 k (rw value lt)))
