use Rattle.fs_types.proofs.Common.{◌∙◌, ◌-◌, ap, arith, get_or, get_or_from_slice_get, length, slice_get_within}
use Rattle.placement.specs.Placement.{gfid}
use Rattle.core_machine.proofs.path_table.Gfids.of_line.Goals as goal

pub index-requires : goal.index-requires
index-requires c =
    let there = slice_get_within c.args.self.now (c.args.n - 2) (gfid c.requires.1.path) (c.requires.2.each c.args.n c.requires.1 c.requires.3) in
    omega (arith, there, ap length c.self.view_is, c.n.view_is)

pub returns : goal.returns
returns c = λ s o are is.
    c.index.ensures ∙ ap (λ k. get_or c.self.inside.by_line.items (k - 2) c.index.result.now) c.n.view_is
    ∙ ap (λ gs. get_or gs (c.args.n - 2) c.index.result.now) c.self.view_is
    ∙ get_or_from_slice_get c.args.self.now (c.args.n - 2) (gfid o.path) c.index.result.now (are.each c.args.n o is)
