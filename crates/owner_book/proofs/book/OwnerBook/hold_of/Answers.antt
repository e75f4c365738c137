-- The hold that is lent of a path that is found is lent of the book's.
use Rattle.fs_types.proofs.Common.{◌∙◌, ap, refl, sym}
use Rattle.std.specs.Option.{ghost_name_of, option_copied_mut}
use Rattle.owner_book.specs.HoldLends.{with_hold}
use Rattle.owner_book.specs.Kept.{path_in, path_of}
use Rattle.owner_book.proofs.Lent.{hold-seen}
use Rattle.owner_book.proofs.Paths.{found-there, lent-changed, lent-is, lent-same, OnSome-map}
use Rattle.owner_book.proofs.book.OwnerBook.hold_of.Goals as goal

pub returns-in-Some : goal.returns-in-Some
returns-in-Some g c =
    let found = sym c.get_mut.ensures.value ∙ ap option_copied_mut c.in-Some.is in
    let was = found-there c.args.self.now c.self.inside.files c.self.view_is c.args.gfid c.as_bytes-path.result.now c.args.p.now
    c.as_bytes-path.ensures.bytes c.in-Some.kept.now found in (
      (
        refl {a = ghost_name_of c.hold_of.result},
        (λ w.
            let now = c.hold_of.follows.lender w in
            let lent = lent-is c.args.self.now c.self.inside.files (c.get_mut.follows.lender now) c.args.gfid c.as_bytes-path.result.now
            c.args.p.now c.in-Some.kept.now now c.self.view_is c.as_bytes-path.ensures.bytes found (c.get_mut.follows.holds now).3 in
            OnSome-map c.hold_of.result (lent-changed lent (with_hold c.args.id w)) (c.hold_of.follows.holds w)),
        (let now = c.hold_of.follows.lender-at-none in
            let lent = lent-is c.args.self.now c.self.inside.files (c.get_mut.follows.lender now) c.args.gfid c.as_bytes-path.result.now
            c.args.p.now c.in-Some.kept.now now c.self.view_is c.as_bytes-path.ensures.bytes found (c.get_mut.follows.holds now).3 in
            lent-same lent (ap path_of c.hold_of.follows.holds-at-none)),
      ),
      record {
        writes_back = tt;
        hold = hold-seen (option_copied_mut c.hold_of.result) c.args.id (path_of c.in-Some.kept.now)
            (path_in c.args.self.now c.args.gfid c.args.p.now) c.hold_of.ensures.hold (sym was);
      },
    )
