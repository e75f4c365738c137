use Rattle.fs_types.proofs.Common.{◌≡◌, ap, refl, subst, Some}
use Rattle.std.specs.Prelude.{OnSome}
use Rattle.std.specs.Option.{ghost_name_of, option_copied_mut}
use Rattle.owner_book.specs.HoldLends.{with_hold}
use Rattle.owner_book.specs.Kept.{PathKept, path_of}
use Rattle.owner_book.proofs.Lent.{hold-seen, path-lent, path-same, path-seen}
use Rattle.owner_book.proofs.owned_path.OwnedPath.hold_of.Goals as goal

pub returns : goal.returns
returns g c =
    let lines = c.self.inside.journal.items in
    let file = c.in_ok-self-inside.field-0.now in
    let was : PathKept g.row.H.Denot = record { journal = lines; file = Some file } in
    let same : was ≡ c.args.self.now =
    path-seen lines file c.self.inside.file c.args.self.now c.in_ok-self-inside.ensures.value c.self.view_is in (
      (
        refl {a = ghost_name_of c.hold_of.result},
        (λ w.
            let now : PathKept g.row.H.Denot = record { journal = lines; file = Some (c.hold_of.follows.lender w) } in
            subst (λ x. OnSome c.hold_of.result (path_of now ≡ with_hold c.args.id w (path_of x))) same
            (path-lent c.hold_of.result c.args.id w lines file (c.hold_of.follows.lender w) (c.hold_of.follows.holds w))),
        path-same lines file c.hold_of.follows.lender-at-none c.args.self.now c.hold_of.follows.holds-at-none same,
      ),
      record {
        writes_back = tt;
        hold = hold-seen (option_copied_mut c.hold_of.result) c.args.id (path_of was) (path_of c.args.self.now) c.hold_of.ensures.hold
            (ap path_of same);
      },
    )
