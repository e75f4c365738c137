use Rattle.std.proofs.Common.{arith}
use Rattle.slot_plain.proofs.TableSteps.{entry_of_held, held_flag, freed-entries, freed-table, counted-entries, lowered-table}
use Rattle.slot_plain.proofs.slot_table.SlotTable.release.Goals as goal

pub put_back-requires : goal.put_back-requires
put_back-requires c =
    held_flag c.self.invariant c.self.view_is c.args.slot (entry_of_held c.self.invariant c.self.view_is c.args.slot c.requires)
    c.index_mut-entry.ensures.value c.requires

pub invariant_of-self : goal.invariant_of-self
invariant_of-self c =
    rw c.put_back.ensures (freed-entries c.self.invariant c.self.view_is c.args.slot
    (entry_of_held c.self.invariant c.self.view_is c.args.slot c.requires) c.index_mut-entry.ensures.value _ c.if-entry-eq0.true)

pub invariant_of-self-else-entry-eq0 : goal.invariant_of-self-else-entry-eq0
invariant_of-self-else-entry-eq0 c =
    counted-entries c.self.invariant c.self.view_is c.args.slot (entry_of_held c.self.invariant c.self.view_is c.args.slot c.requires)
    c.index_mut-entry.ensures.value c.requires (omega arith)

pub returns-then-entry-eq0 : goal.returns-then-entry-eq0
returns-then-entry-eq0 c =
    freed-table c.self.invariant c.self.view_is c.args.slot (entry_of_held c.self.invariant c.self.view_is c.args.slot c.requires)
    c.index_mut-entry.ensures.value c.requires c.if-entry-eq0.true

pub returns-else-entry-eq0 : goal.returns-else-entry-eq0
returns-else-entry-eq0 c =
    lowered-table c.self.invariant c.self.view_is c.args.slot (entry_of_held c.self.invariant c.self.view_is c.args.slot c.requires)
    c.index_mut-entry.ensures.value c.requires c.if-entry-eq0.false
