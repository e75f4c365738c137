use Rattle.std.proofs.Common.{take, refl, length}
use Rattle.slot_plain.proofs.TableSteps.{entry_of_held, buffer_size, filled-entries, filled-table}
use Rattle.slot_plain.proofs.slot_table.SlotTable.fill_spilled.Goals as goal

pub invariant_of-self : goal.invariant_of-self
invariant_of-self c =
    let within = entry_of_held c.self.invariant c.self.view_is c.args.slot c.requires.taken in
    filled-entries c.self.invariant c.self.view_is c.args.slot within c.index_mut-entry.ensures.value _ _ c.requires.taken c.requires.fits
    (buffer_size c.self.invariant c.self.view_is c.args.slot within c.index_mut-entry.ensures.value)

pub returns : goal.returns
returns c =
    let within = entry_of_held c.self.invariant c.self.view_is c.args.slot c.requires.taken in
    record {
      filled = (
        take (length c.args.b.now) c.index_mut-entry.result.now.buffer.items,
        filled-table c.self.invariant c.self.view_is c.args.slot within c.index_mut-entry.ensures.value _ _ refl,
      );
    }
