-- What is looked up in a path that is found is looked up in the book's.
use Rattle.fs_types.proofs.Common.{◌≡◌, ◌∙◌, ◌+◌, ap, sym, subst}
use Rattle.std.specs.Option.{option_copied_mut}
use Rattle.owner_book.specs.Calls.{AnswersBy, attr, no_file_refusal, version}
use Rattle.owner_book.specs.Commits.{HasHolds}
use Rattle.owner_book.specs.Kept.{held_at, path_in}
use Rattle.owner_book.specs.Lookups.{Asks, IsLooked, MayAsk, Pins, parts_in, pieces_named}
use Rattle.owner_book.proofs.Paths.{changes-itself, found-there, lent-both, lent-here, lent-is, IfOk-map, OnErr-map}
use Rattle.owner_book.proofs.book.OwnerBook.lookup.Goals as goal

pub returns-in_default-clause-others : goal.returns-in_default-clause-others
returns-in_default-clause-others g c =
    changes-itself c.args.self.now c.get_mut.follows.lender-at-none.entries c.args.gfid c.args.p.now
    (λ h q. ap (λ b. path_in b h q) (ap (λ m. m.entries) c.get_mut.follows.holds-at-none ∙ c.self.view_is))

pub lookup-requires : goal.lookup-requires
lookup-requires g c =
    let was = found-there c.args.self.now c.self.inside.files c.self.view_is c.args.gfid c.as_bytes-path.result.now c.args.p.now
    c.as_bytes-path.ensures.bytes c.in-Some.kept.now (sym c.get_mut.ensures.value ∙ ap option_copied_mut c.in-Some.is) in
    record { holds = subst (HasHolds g.H.Hold.is_ready g.H.Hold.piece g.H.Hold.bytes) was c.requires.holds }

pub returns : goal.returns
returns g c =
    let now = c.lookup.new.self in
    let lent = lent-is c.args.self.now c.self.inside.files (c.get_mut.follows.lender now) c.args.gfid c.as_bytes-path.result.now c.args.p.now
    c.in-Some.kept.now now c.self.view_is c.as_bytes-path.ensures.bytes
    (sym c.get_mut.ensures.value ∙ ap option_copied_mut c.in-Some.is) (c.get_mut.follows.holds now).3 in
    let done = c.lookup.result in
    record {
      answer = subst (λ x. AnswersBy (λ no. no) (no_file_refusal x) done) (sym lent.was_is) c.lookup.ensures.answer;
      version = IfOk-map done (λ found e. e ∙ ap version (sym lent.was_is)) c.lookup.ensures.version;
      attr = IfOk-map done (λ found e. e ∙ ap attr (sym lent.was_is)) c.lookup.ensures.attr;
      frags = IfOk-map done (λ found. subst
          (λ x. found.frags.items ≡ parts_in c.args.off (c.args.off + c.args.len) (held_at x).fragments) (sym lent.was_is))
          c.lookup.ensures.frags;
      pins = IfOk-map done (λ found. subst
          (λ x. Pins g.H.Hold (held_at x) (pieces_named found.frags.items) found.holds.items found.bare.items) (sym lent.was_is))
          c.lookup.ensures.pins;
      looked = IfOk-map done (λ found. lent-both lent (IsLooked (Asks g.H.Hold (pieces_named found.frags.items)))) c.lookup.ensures.looked;
      may_ask = OnErr-map done (lent-both lent (λ x y. IsLooked
          (MayAsk g.H.Hold (pieces_named (parts_in c.args.off (c.args.off + c.args.len) (held_at x).fragments))) x y)) c.lookup.ensures.may_ask;
      others = lent-here lent;
      holds = subst (HasHolds g.H.Hold.is_ready g.H.Hold.piece g.H.Hold.bytes) (sym lent.now_is) c.lookup.ensures.holds;
    }
