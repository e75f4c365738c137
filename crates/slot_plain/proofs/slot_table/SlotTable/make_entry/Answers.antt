use Rattle.std.proofs.Common.{arith, refl, None, ◌∙◌, ap, ◌++◌, ◌∷◌, [], List}
use Rattle.slot_plain.specs.declared.entry.Entry.{Entry}
use Rattle.slot_plain.proofs.TableSteps.{made-entries, made-table}
use Rattle.slot_plain.proofs.slot_table.SlotTable.make_entry.Goals as goal
use Rattle.slot_plain.proofs.slot_table.SlotTable.make_entry.Goals.{then-in_memory, else-in_memory}

pub invariant_of-self-2 : goal.invariant_of-self-2
invariant_of-self-2 c =
    let e : Entry = record { count = 0; piece = None; buffer = c.in_ok-buffer.buffer } in
    let items = c.push_reserved.ensures.items ∙ ap (λ (es : List Entry). es ++ e ∷ []) c.reserve.ensures.items in
    rw (items, c.in_ok-add.ensures.ok)
    (made-entries c.self.invariant c.self.view_is e c.requires refl refl (λ lt. elim c.if-in_memory.branch [
      | then-in_memory w ↦ omega (arith, c.in_ok-buffer.buffer.ok.0, c.in_ok-buffer.ensures.len)
      | else-in_memory w ↦ omega (arith, c.self.inside.entries.ok.0, lt)
    ]))

pub returns-clause-rest : goal.returns-clause-rest
returns-clause-rest c =
    let e : Entry = record { count = 0; piece = None; buffer = c.in_ok-buffer.buffer } in
    let items = c.push_reserved.ensures.items ∙ ap (λ (es : List Entry). es ++ e ∷ []) c.reserve.ensures.items in
    rw items (made-table c.self.invariant c.self.view_is e c.requires refl refl refl)
