-- The replica that is lent of a path that is found is lent of the shelf.
use Rattle.fs_types.proofs.Common.{ap, refl, sym, ◌∙◌}
use Rattle.std.specs.Option.{ghost_name_of, option_copied_mut}
use Rattle.shelf_store.specs.Calls.{from_version, with_replica}
use Rattle.shelf_store.specs.declared.shelf_path.ShelfPath.{ShelfPath}
use Rattle.shelf_store.proofs.Paths.{OnSome-weaker, changes-as, changes-lent, found-none, found-there, same-entries, unchanged}
use Rattle.shelf_store.proofs.shelf.Shelf.find.Goals as goal

pub returns-in-Some : goal.returns-in-Some
returns-in-Some g c =
    let found = sym c.get_mut.ensures.value ∙ ap option_copied_mut c.in-Some.is in
    let was = found-there c.args.self.now c.self.inside.paths c.self.view_is c.as_bytes.result.now c.args.p.now c.as_bytes.ensures.bytes
    c.in-Some.path.now found in
    let lent = λ (x : ShelfPath g.row.H.Denot). changes-lent c.args.self.now c.self.inside.paths c.self.view_is c.as_bytes.result.now
    c.args.p.now c.as_bytes.ensures.bytes (c.get_mut.follows.lender x) c.in-Some.path.now x found (c.get_mut.follows.holds x).3 in (
      (
        refl {a = ghost_name_of c.find.result},
        (λ w. OnSome-weaker c.find.result (λ now.
            changes-as c.args.self.now (c.get_mut.follows.lender (c.find.follows.lender w)).entries c.args.p.now c.in-Some.path.now
            (c.find.follows.lender w) (with_replica w) was now (lent (c.find.follows.lender w))) (c.find.follows.holds w)),
        unchanged c.args.self.now (c.get_mut.follows.lender c.find.follows.lender-at-none).entries c.args.p.now
            c.find.follows.lender-at-none (lent c.find.follows.lender-at-none) (c.find.follows.holds-at-none ∙ sym was),
      ),
      record { writes_back = tt; found = c.find.ensures.found ∙ ap (λ x. from_version c.args.front x.replica) (sym was) },
    )

pub returns-in-None : goal.returns-in-None
returns-in-None g c =
    let none = found-none c.args.self.now c.self.inside.paths c.self.view_is c.as_bytes.result.now c.args.p.now c.as_bytes.ensures.bytes
    (sym c.get_mut.ensures.value ∙ ap option_copied_mut c.in-None.is) in (
      (refl, (λ w. tt), same-entries _ _ (ap (λ m. m.entries) c.get_mut.follows.holds-at-none ∙ c.self.view_is)),
      record { writes_back = tt; found = ap (λ x. from_version c.args.front x.replica) (sym none) },
    )
