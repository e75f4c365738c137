-- The hold that is lent of a path that is found is lent of the map's.
use Rattle.fs_types.proofs.Common.{◌∙◌, ap, refl, sym}
use Rattle.std.specs.Option.{ghost_name_of, option_copied_mut}
use Rattle.client_map.specs.HoldLends.{with_hold}
use Rattle.client_map.proofs.Paths.{OnSome-weaker, found-there, lent-changed, lent-is, lent-same}
use Rattle.piece_table.specs.HeldSpans.{Kept, held}
use Rattle.client_map.proofs.map.ClientMap.hold_of.Goals as goal

pub returns-in-Some : goal.returns-in-Some
returns-in-Some g c =
    let found = sym c.get_mut.ensures.value ∙ ap option_copied_mut c.in-Some.is in
    let was = found-there c.args.self.now c.self.inside.chunk c.self.inside.paths c.self.view_is c.as_bytes-path.result.now c.args.p.now
    c.as_bytes-path.ensures.bytes c.in-Some.kept.now found in
    let lent = λ (now : Kept g.row.H.Denot). lent-is c.args.self.now c.self.inside.chunk c.self.inside.paths (c.get_mut.follows.lender now)
    c.as_bytes-path.result.now c.args.p.now c.in-Some.kept.now now c.self.view_is c.as_bytes-path.ensures.bytes found
    (c.get_mut.follows.holds now).3 in (
      (
        refl {a = ghost_name_of c.hold_of.result},
        (λ w. OnSome-weaker c.hold_of.result (lent-changed (lent (c.hold_of.follows.lender w)) (with_hold c.args.id w))
            (c.hold_of.follows.holds w)),
        lent-same (lent c.hold_of.follows.lender-at-none) (ap held c.hold_of.follows.holds-at-none),
      ),
      record { writes_back = tt; hold = c.hold_of.ensures.hold ∙ ap (λ x. x.hold_of c.args.id) (sym was) },
    )
