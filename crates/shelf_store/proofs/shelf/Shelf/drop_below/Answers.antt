use Rattle.fs_types.proofs.Common.{ap, max, sym, ◌∙◌}
use Rattle.std.specs.Option.{option_copied_mut}
use Rattle.shelf_store.specs.Calls.{below_version, with_floor}
use Rattle.shelf_store.proofs.Paths.{changes-as, changes-before, changes-lent, found-there}
use Rattle.shelf_store.proofs.shelf.Shelf.drop_below.Goals as goal

pub returns-clause-dropped : goal.returns-clause-dropped
returns-clause-dropped g c =
    let path = c.args.p.now in
    let found = sym c.get_mut.ensures.value ∙ ap option_copied_mut c.in-Some.is in
    let was = sym (c.enter.ensures.same path) ∙ found-there c.enter.new.self c.self.inside.paths c.self.view_is
    c.as_bytes-path.result.now path c.as_bytes-path.ensures.bytes c.in-Some.kept.now found in
    let new = (c.get_mut.follows.lender c.drop_below.new.self).entries in
    changes-as c.args.self.now new path c.in-Some.kept.now c.drop_below.new.self (with_floor c.args.v) was c.drop_below.ensures.dropped
    (changes-before c.args.self.now c.enter.new.self new path c.drop_below.new.self c.enter.ensures.same
    (changes-lent c.enter.new.self c.self.inside.paths c.self.view_is c.as_bytes-path.result.now path c.as_bytes-path.ensures.bytes
    (c.get_mut.follows.lender c.drop_below.new.self) c.in-Some.kept.now c.drop_below.new.self found
    (c.get_mut.follows.holds c.drop_below.new.self).3))

pub returns-clause-out : goal.returns-clause-out
returns-clause-out g c =
    let path = c.args.p.now in
    let was = sym (c.enter.ensures.same path) ∙ found-there c.enter.new.self c.self.inside.paths c.self.view_is
    c.as_bytes-path.result.now path c.as_bytes-path.ensures.bytes c.in-Some.kept.now
    (sym c.get_mut.ensures.value ∙ ap option_copied_mut c.in-Some.is) in
    c.drop_below.ensures.out ∙ ap (λ x. below_version (max x.floor c.args.v) x.replica) (sym was)
