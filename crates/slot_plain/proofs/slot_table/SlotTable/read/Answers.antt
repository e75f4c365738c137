use Rattle.std.proofs.Common.{◌+◌, List, ℕ, length, slice_range, ap, ◌∙◌, arith}
use Rattle.slot_plain.proofs.TableSteps.{entry_of_piece, read_bound, read_bytes}
use Rattle.slot_plain.proofs.slot_table.SlotTable.read.Goals as goal

pub copy_part-requires : goal.copy_part-requires
copy_part-requires c =
    let bound = read_bound c.self.invariant c.self.view_is c.args.slot
    (entry_of_piece c.self.invariant c.self.view_is c.args.slot _ c.requires.inside) c.index.ensures
    c.args.from (length c.args.out.now) c.requires.inside c.requires.in_memory in
    let whole = ap length c.deref.ensures.value in
    omega (arith, bound, whole)

pub returns : goal.returns
returns c =
    read_bytes c.self.invariant c.self.view_is c.args.slot
    (entry_of_piece c.self.invariant c.self.view_is c.args.slot _ c.requires.inside) c.index.ensures
    c.args.from (length c.args.out.now) c.requires.inside
    (c.copy_part.ensures ∙ ap (λ (bytes : List ℕ). slice_range bytes c.args.from (c.args.from + length c.args.out.now))
    c.deref.ensures.value)
