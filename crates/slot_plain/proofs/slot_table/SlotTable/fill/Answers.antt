use Rattle.std.proofs.Common.{◌≡◌, ℕ, List, length, take, ap, ◌∙◌, arith}
use Rattle.std.proofs.lemmas.List.{with_items_is}
use Rattle.slot_plain.proofs.TableSteps.{entry_of_held, buffer_size, filled-entries, filled-table}
use Rattle.slot_plain.proofs.slot_table.SlotTable.fill.Goals as goal

pub put_first-requires : goal.put_first-requires
put_first-requires c =
    let within = entry_of_held c.self.invariant c.self.view_is c.args.slot c.requires.taken in
    let size = buffer_size c.self.invariant c.self.view_is c.args.slot within c.index_mut-entry.ensures.value c.requires.in_memory in
    omega (arith, size, ap length c.deref_mut.ensures.value, c.requires.fits)

pub invariant_of-self : goal.invariant_of-self
invariant_of-self c =
    let v = c.index_mut-entry.result.now.buffer in
    let ws : List ℕ = c.put_first.new.all in
    let same : length ws ≡ v.len = omega (arith, c.put_first.auto.all, ap length c.deref_mut.ensures.value, v.ok.0) in
    let within = entry_of_held c.self.invariant c.self.view_is c.args.slot c.requires.taken in
    let size = buffer_size c.self.invariant c.self.view_is c.args.slot within c.index_mut-entry.ensures.value c.requires.in_memory in
    filled-entries c.self.invariant c.self.view_is c.args.slot within c.index_mut-entry.ensures.value _ _ c.requires.taken
    c.requires.fits
    (λ _. ap length (with_items_is v ws same) ∙ omega (arith, same, size, v.ok.0))

pub returns : goal.returns
returns c =
    let v = c.index_mut-entry.result.now.buffer in
    let ws : List ℕ = c.put_first.new.all in
    let same : length ws ≡ v.len = omega (arith, c.put_first.auto.all, ap length c.deref_mut.ensures.value, v.ok.0) in
    filled-table c.self.invariant c.self.view_is c.args.slot
    (entry_of_held c.self.invariant c.self.view_is c.args.slot c.requires.taken) c.index_mut-entry.ensures.value _ _
    (ap (take (length c.args.b.now)) (with_items_is v ws same) ∙ c.put_first.ensures)
