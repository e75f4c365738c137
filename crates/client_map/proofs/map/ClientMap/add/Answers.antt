-- What is added to a path that has its place is added to the map.
use Rattle.fs_types.proofs.Common.{◌≡◌, ◌+◌, ◌∙◌, ap, max, sym, subst, All, Some}
use Rattle.std.specs.Option.{option_copied_mut}
use Rattle.std.proofs.lemmas.Result.{IfOk-weaker, on_err_weaker, on_ok_weaker}
use Rattle.piece_table.specs.HeldSpans.{AreGone, AreHeld, PutsAll, held, pushed}
use Rattle.client_map.specs.Calls.{IsAsBefore}
use Rattle.client_map.specs.Kept.{pending_end, pending_in}
use Rattle.client_map.specs.Writes.{MayAdd, Write, parts_of, write_of}
use Rattle.client_map.proofs.Paths.{Lent, found-there, lent-before, lent-both, lent-here, lent-is, lent-same, map_of}
use Rattle.client_map.proofs.map.ClientMap.add.Goals as goal

pub add-requires-clause-held : goal.add-requires-clause-held
add-requires-clause-held g c =
    let was = found-there c.args.self.now c.self.inside.chunk c.self.inside.paths c.self.view_is c.as_bytes-path.result.now c.args.p.now
    c.as_bytes-path.ensures.bytes c.in-Some.kept.now (sym c.get_mut.ensures.value ∙ ap option_copied_mut c.in-Some.is) in
    subst (AreHeld g.H.Hold.is_ready g.H.Hold.piece g.H.Hold.bytes) was c.requires.holds

pub add-requires-clause-write : goal.add-requires-clause-write
add-requires-clause-write g c =
    let was = found-there c.args.self.now c.self.inside.chunk c.self.inside.paths c.self.view_is c.as_bytes-path.result.now c.args.p.now
    c.as_bytes-path.ensures.bytes c.in-Some.kept.now (sym c.get_mut.ensures.value ∙ ap option_copied_mut c.in-Some.is) in
    let w : Write = write_of g.H.Hold.piece c.args.off c.args.len c.args.holds.items in
    let chunk = ap (λ m. m.chunk) c.self.view_is in
    subst (λ n. MayAdd g.H.Hold.is_ready g.H.Hold.piece g.H.Hold.bytes n w c.args.holds.items (held c.in-Some.kept.now)) (sym chunk)
    (subst (MayAdd g.H.Hold.is_ready g.H.Hold.piece g.H.Hold.bytes c.args.self.now.chunk w c.args.holds.items) was c.requires.write)

pub returns-in-Some : goal.returns-in-Some
returns-in-Some g c =
    let now = c.add.new.self in
    let new = map_of c.self.inside.chunk (c.get_mut.follows.lender now) in
    let holds = c.args.holds.items in
    let piece = g.H.Hold.piece in
    let w : Write = write_of piece c.args.off c.args.len holds in
    let lent : Lent c.args.self.now new c.args.p.now c.in-Some.kept.now now =
    lent-is c.args.self.now c.self.inside.chunk c.self.inside.paths (c.get_mut.follows.lender now) c.as_bytes-path.result.now c.args.p.now
    c.in-Some.kept.now now c.self.view_is c.as_bytes-path.ensures.bytes
    (sym c.get_mut.ensures.value ∙ ap option_copied_mut c.in-Some.is) (c.get_mut.follows.holds now).3 in
    let chunk = ap (λ m. m.chunk) c.self.view_is in
    record {
      added = on_ok_weaker c.add.result (λ put.
          subst (λ n. PutsAll (pushed piece (parts_of n w) holds) (pending_in c.args.self.now c.args.p.now) (pending_in new c.args.p.now)) chunk
          (lent-both lent (PutsAll (pushed piece (parts_of c.self.inside.chunk w) holds)) put)) c.add.ensures.put;
      own = on_ok_weaker c.add.result (lent-both lent (λ _ x. All (λ h. x.hold_of (piece h) ≡ Some h) holds)) c.add.ensures.own;
      end = on_ok_weaker c.add.result
          (lent-both lent (λ x y. pending_end y.fragments ≡ max (pending_end x.fragments) (c.args.off + c.args.len))) c.add.ensures.end;
      dead = IfOk-weaker c.add.result _ _ (λ dead. lent-both lent (λ x y. AreGone piece x y dead.items)) c.add.ensures.dead;
      given_back = c.add.ensures.given_back;
      same = on_err_weaker c.add.result (lent-same lent) c.add.ensures.same;
      others = lent-here lent;
      holds = lent-both lent (λ _ x. AreHeld g.H.Hold.is_ready piece g.H.Hold.bytes x) c.add.ensures.held;
    }

pub add-requires-2-clause-held : goal.add-requires-2-clause-held
add-requires-2-clause-held g c =
    let before : IsAsBefore c.args.self.now c.enter.new.self =
    subst (λ m. IsAsBefore m c.enter.new.self) (ap (map_of c.self.inside.chunk) c.get_mut.follows.holds-at-none ∙ c.self.view_is)
    c.enter.ensures.same in
    let was = found-there c.enter.new.self c.self-2.inside.chunk c.self-2.inside.paths c.self-2.view_is c.as_bytes-path.result.now c.args.p.now
    c.as_bytes-path.ensures.bytes c.in-Some-get_mut.kept.now (sym c.get_mut-2.ensures.value ∙ ap option_copied_mut c.in-Some-get_mut.is) in
    subst (AreHeld g.H.Hold.is_ready g.H.Hold.piece g.H.Hold.bytes) (sym (before.paths c.args.p.now) ∙ was) c.requires.holds

pub add-requires-2-clause-write : goal.add-requires-2-clause-write
add-requires-2-clause-write g c =
    let before : IsAsBefore c.args.self.now c.enter.new.self =
    subst (λ m. IsAsBefore m c.enter.new.self) (ap (map_of c.self.inside.chunk) c.get_mut.follows.holds-at-none ∙ c.self.view_is)
    c.enter.ensures.same in
    let was = found-there c.enter.new.self c.self-2.inside.chunk c.self-2.inside.paths c.self-2.view_is c.as_bytes-path.result.now c.args.p.now
    c.as_bytes-path.ensures.bytes c.in-Some-get_mut.kept.now (sym c.get_mut-2.ensures.value ∙ ap option_copied_mut c.in-Some-get_mut.is) in
    let w : Write = write_of g.H.Hold.piece c.args.off c.args.len c.args.holds.items in
    let chunk = ap (λ m. m.chunk) c.self-2.view_is ∙ before.chunk in
    subst (λ n. MayAdd g.H.Hold.is_ready g.H.Hold.piece g.H.Hold.bytes n w c.args.holds.items (held c.in-Some-get_mut.kept.now)) (sym chunk)
    (subst (MayAdd g.H.Hold.is_ready g.H.Hold.piece g.H.Hold.bytes c.args.self.now.chunk w c.args.holds.items)
    (sym (before.paths c.args.p.now) ∙ was) c.requires.write)

pub returns : goal.returns
returns g c =
    let now = c.add-2.new.self in
    let new = map_of c.self-2.inside.chunk (c.get_mut-2.follows.lender now) in
    let holds = c.args.holds.items in
    let piece = g.H.Hold.piece in
    let w : Write = write_of piece c.args.off c.args.len holds in
    let before : IsAsBefore c.args.self.now c.enter.new.self =
    subst (λ m. IsAsBefore m c.enter.new.self) (ap (map_of c.self.inside.chunk) c.get_mut.follows.holds-at-none ∙ c.self.view_is)
    c.enter.ensures.same in
    let lent : Lent c.args.self.now new c.args.p.now c.in-Some-get_mut.kept.now now =
    lent-before c.args.self.now c.enter.new.self new c.args.p.now c.in-Some-get_mut.kept.now now before
    (lent-is c.enter.new.self c.self-2.inside.chunk c.self-2.inside.paths (c.get_mut-2.follows.lender now) c.as_bytes-path.result.now c.args.p.now
    c.in-Some-get_mut.kept.now now c.self-2.view_is c.as_bytes-path.ensures.bytes
    (sym c.get_mut-2.ensures.value ∙ ap option_copied_mut c.in-Some-get_mut.is) (c.get_mut-2.follows.holds now).3) in
    let chunk = ap (λ m. m.chunk) c.self-2.view_is ∙ before.chunk in
    record {
      added = on_ok_weaker c.add-2.result (λ put.
          subst (λ n. PutsAll (pushed piece (parts_of n w) holds) (pending_in c.args.self.now c.args.p.now) (pending_in new c.args.p.now)) chunk
          (lent-both lent (PutsAll (pushed piece (parts_of c.self-2.inside.chunk w) holds)) put)) c.add-2.ensures.put;
      own = on_ok_weaker c.add-2.result (lent-both lent (λ _ x. All (λ h. x.hold_of (piece h) ≡ Some h) holds)) c.add-2.ensures.own;
      end = on_ok_weaker c.add-2.result
          (lent-both lent (λ x y. pending_end y.fragments ≡ max (pending_end x.fragments) (c.args.off + c.args.len))) c.add-2.ensures.end;
      dead = IfOk-weaker c.add-2.result _ _ (λ dead. lent-both lent (λ x y. AreGone piece x y dead.items)) c.add-2.ensures.dead;
      given_back = c.add-2.ensures.given_back;
      same = on_err_weaker c.add-2.result (lent-same lent) c.add-2.ensures.same;
      others = lent-here lent;
      holds = lent-both lent (λ _ x. AreHeld g.H.Hold.is_ready piece g.H.Hold.bytes x) c.add-2.ensures.held;
    }
