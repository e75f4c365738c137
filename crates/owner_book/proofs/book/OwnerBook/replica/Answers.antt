-- The replica of a path that is found is one of the book's.
use Rattle.fs_types.proofs.Common.{◌≡◌, ◌∙◌, ap, IfOk, IfSome, IsTrue, is_some, not, sym, subst}
use Rattle.std.specs.Option.{option_copied_mut}
use Rattle.owner_book.specs.Calls.{attr}
use Rattle.owner_book.specs.Commits.{HasHolds}
use Rattle.owner_book.specs.Kept.{held_at, path_in}
use Rattle.owner_book.specs.Lookups.{AsksFor, IsLooked, MayAskFor, pieces_named}
use Rattle.owner_book.specs.Replicas.{IsReplica, some_lacks}
use Rattle.owner_book.proofs.Paths.{found-there, lent-both, lent-here, lent-is, IfOk-map, OnSome-map}
use Rattle.owner_book.proofs.book.OwnerBook.replica.Goals as goal

pub replica-requires : goal.replica-requires
replica-requires g c =
    let was = found-there c.args.self.now c.self.inside.files c.self.view_is c.args.gfid c.as_bytes-path.result.now c.args.p.now
    c.as_bytes-path.ensures.bytes c.in-Some.kept.now (sym c.get_mut.ensures.value ∙ ap option_copied_mut c.in-Some.is) in
    record {
      holds = subst (HasHolds g.H.Hold.is_ready g.H.Hold.piece g.H.Hold.bytes) was c.requires.holds;
      frozen = subst (λ x. IsTrue (attr x).frozen) was c.requires.frozen;
    }

pub returns : goal.returns
returns g c =
    let now = c.replica.new.self in
    let lent = lent-is c.args.self.now c.self.inside.files (c.get_mut.follows.lender now) c.args.gfid c.as_bytes-path.result.now c.args.p.now
    c.in-Some.kept.now now c.self.view_is c.as_bytes-path.ensures.bytes
    (sym c.get_mut.ensures.value ∙ ap option_copied_mut c.in-Some.is) (c.get_mut.follows.holds now).3 in
    let done = c.replica.result in
    let met = g.H.Hold in
    let room = c.args.room in
    record {
      want = c.replica.ensures.want;
      found = IfOk-map done (λ found. subst (λ x. is_some found ≡ not (some_lacks met room (held_at x))) (sym lent.was_is))
          c.replica.ensures.found;
      replica = subst (λ p. IfOk done (λ found. IfSome found (IsReplica met room p (path_in c.args.self.now c.args.gfid c.args.p.now))))
          c.in_ok-copy.ensures
          (IfOk-map done (λ found. subst (λ x. IfSome found (IsReplica met room c.in_ok-copy.copy x)) (sym lent.was_is)) c.replica.ensures.replica);
      asks = IfOk-map done (λ found. OnSome-map found (lent-both lent (λ x y. IsLooked
          (AsksFor met room (pieces_named (held_at x).fragments)) x y))) c.replica.ensures.asks;
      may_ask = lent-both lent (λ x y. IsLooked (MayAskFor met room (pieces_named (held_at x).fragments)) x y) c.replica.ensures.may_ask;
      others = lent-here lent;
      holds = subst (HasHolds g.H.Hold.is_ready g.H.Hold.piece g.H.Hold.bytes) (sym lent.now_is) c.replica.ensures.holds;
    }
