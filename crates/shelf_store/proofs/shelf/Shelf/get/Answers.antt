use Rattle.fs_types.proofs.Common.{ap, sym, ◌∙◌}
use Rattle.std.specs.Option.{option_copied}
use Rattle.shelf_store.specs.Calls.{from_version}
use Rattle.shelf_store.proofs.Paths.{found-none, found-there}
use Rattle.shelf_store.proofs.shelf.Shelf.get.Goals as goal

pub returns-in-Some : goal.returns-in-Some
returns-in-Some g c =
    let there = found-there c.args.self.now c.self.inside.paths c.self.view_is c.as_bytes.result.now c.args.p.now c.as_bytes.ensures.bytes
    c.in-Some.path.now (sym c.get.ensures.value ∙ ap option_copied c.in-Some.is) in
    c.get-in-Some.ensures ∙ ap (λ x. from_version c.args.front x.replica) (sym there)

pub returns-in-None : goal.returns-in-None
returns-in-None g c =
    let none = found-none c.args.self.now c.self.inside.paths c.self.view_is c.as_bytes.result.now c.args.p.now c.as_bytes.ensures.bytes
    (sym c.get.ensures.value ∙ ap option_copied c.in-None.is) in
    ap (λ x. from_version c.args.front x.replica) (sym none)
