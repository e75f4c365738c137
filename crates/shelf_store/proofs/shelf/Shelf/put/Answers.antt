use Rattle.fs_types.proofs.Common.{ap, sym, ◌∙◌}
use Rattle.std.specs.Option.{option_copied_mut}
use Rattle.shelf_store.proofs.Paths.{changes-before, changes-lent, found-there}
use Rattle.shelf_store.proofs.Puts.{is-put}
use Rattle.shelf_store.proofs.shelf.Shelf.put.Goals as goal

pub returns : goal.returns
returns g c =
    let path = c.args.r.path in
    let found = sym c.get_mut.ensures.value ∙ ap option_copied_mut c.in-Some.is in
    let was = found-there c.enter.new.self c.self.inside.paths c.self.view_is c.as_bytes-2.result.now path c.as_bytes-2.ensures.bytes
    c.in-Some.path.now found in
    let lent = changes-lent c.enter.new.self c.self.inside.paths c.self.view_is c.as_bytes-2.result.now path c.as_bytes-2.ensures.bytes
    (c.get_mut.follows.lender c.put.new.self) c.in-Some.path.now c.put.new.self found (c.get_mut.follows.holds c.put.new.self).3 in
    is-put c.args.r c.args.self.now (c.get_mut.follows.lender c.put.new.self).entries c.in-Some.path.now c.put.new.self c.put.result
    (sym (c.enter.ensures.same path) ∙ was)
    (changes-before c.args.self.now c.enter.new.self (c.get_mut.follows.lender c.put.new.self).entries path c.put.new.self
    c.enter.ensures.same lent) c.put.ensures
