use Rattle.std.proofs.Common.{arith}
use Rattle.slot_plain.proofs.TableSteps.{some_flag, flag_within, taken-entries, taken-table, taken-lowest}
use Rattle.slot_plain.proofs.slot_table.SlotTable.take_lowest.Goals as goal

pub take_lowest-slot-requires : goal.take_lowest-slot-requires
take_lowest-slot-requires c = some_flag c.self.invariant c.self.view_is c.requires

pub index_mut-requires : goal.index_mut-requires
index_mut-requires c =
    let within = flag_within c.self.invariant c.take_lowest-slot.result c.take_lowest-slot.ensures.free in omega arith

pub invariant_of-self : goal.invariant_of-self
invariant_of-self c =
    let t = c.take_lowest-slot in
    taken-entries c.self.invariant c.self.view_is t.result (flag_within c.self.invariant t.result t.ensures.free)
    c.index_mut.ensures.value t.ensures.free t.ensures.taken

pub returns-clause-lowest : goal.returns-clause-lowest
returns-clause-lowest c =
    let t = c.take_lowest-slot in
    taken-lowest c.self.invariant c.self.view_is t.result (flag_within c.self.invariant t.result t.ensures.free)
    c.index_mut.ensures.value t.ensures.free t.ensures.taken t.ensures.lowest

pub returns-clause-taken : goal.returns-clause-taken
returns-clause-taken c =
    let t = c.take_lowest-slot in
    taken-table c.self.invariant c.self.view_is t.result (flag_within c.self.invariant t.result t.ensures.free)
    c.index_mut.ensures.value t.ensures.free t.ensures.taken
