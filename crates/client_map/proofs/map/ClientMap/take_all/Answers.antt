use Rattle.fs_types.proofs.Common.{◌∙◌, ap, subst, sym}
use Rattle.std.specs.Option.{option_copied_mut}
use Rattle.piece_table.specs.HeldSpans.{AreHeld}
use Rattle.client_map.specs.Calls.{Changes}
use Rattle.client_map.specs.Kept.{nothing_pending}
use Rattle.client_map.proofs.Paths.{changes-none, found-none, found-there, lent-is, map_of}
use Rattle.client_map.proofs.map.ClientMap.take_all.Goals as goal

pub returns-in_default-clause-taken : goal.returns-in_default-clause-taken
returns-in_default-clause-taken g c =
    let none = found-none c.args.self.now c.self.inside.chunk c.self.inside.paths c.self.view_is c.as_bytes.result.now c.args.p.now
    c.as_bytes.ensures.bytes (sym c.get_mut.ensures.value ∙ ap option_copied_mut c.in_default.is) in
    changes-none c.args.self.now (map_of c.self.inside.chunk c.get_mut.follows.lender-at-none) c.args.p.now nothing_pending
    (ap (map_of c.self.inside.chunk) c.get_mut.follows.holds-at-none ∙ c.self.view_is) none

pub take_all-requires : goal.take_all-requires
take_all-requires g c =
    let was = found-there c.args.self.now c.self.inside.chunk c.self.inside.paths c.self.view_is c.as_bytes.result.now c.args.p.now
    c.as_bytes.ensures.bytes c.in-Some.kept.now (sym c.get_mut.ensures.value ∙ ap option_copied_mut c.in-Some.is) in
    subst (AreHeld g.H.Hold.is_ready g.H.Hold.piece g.H.Hold.bytes) was c.requires

pub returns-clause-taken : goal.returns-clause-taken
returns-clause-taken g c =
    let now = c.take_all.new.self in
    let lent = lent-is c.args.self.now c.self.inside.chunk c.self.inside.paths (c.get_mut.follows.lender now) c.as_bytes.result.now
    c.args.p.now c.in-Some.kept.now now c.self.view_is c.as_bytes.ensures.bytes
    (sym c.get_mut.ensures.value ∙ ap option_copied_mut c.in-Some.is) (c.get_mut.follows.holds now).3 in
    subst (Changes c.args.self.now (map_of c.self.inside.chunk (c.get_mut.follows.lender now)) c.args.p.now) c.take_all.ensures.emptied
    lent.changes
