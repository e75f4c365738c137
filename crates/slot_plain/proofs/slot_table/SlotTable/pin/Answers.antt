use Rattle.std.proofs.Common.{ap, sym, arith}
use Rattle.slot_plain.specs.Slots.{pinned}
use Rattle.slot_plain.proofs.TableSteps.{entry_of_held, slot_is, counted-entries, changed}
use Rattle.slot_plain.proofs.slot_table.SlotTable.pin.Goals as goal

pub invariant_of-self : goal.invariant_of-self
invariant_of-self c =
    counted-entries c.self.invariant c.self.view_is c.args.slot (entry_of_held c.self.invariant c.self.view_is c.args.slot c.requires.held)
    c.index_mut.ensures.value c.requires.held (omega arith)

pub returns : goal.returns
returns c =
    let within = entry_of_held c.self.invariant c.self.view_is c.args.slot c.requires.held in
    changed c.self.invariant c.self.view_is c.args.slot within c.index_mut.ensures.value _
    (ap pinned (sym (slot_is c.self.invariant c.self.view_is c.args.slot within c.index_mut.ensures.value)))
