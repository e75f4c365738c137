-- What is removed from a path that is found is removed from the book's.
use Rattle.fs_types.proofs.Common.{◌∙◌, ap, sym, subst}
use Rattle.std.specs.Option.{option_copied_mut}
use Rattle.owner_book.specs.Calls.{AnswersBy, attr, no_file_refusal, version, without_file}
use Rattle.owner_book.specs.Commits.{AreDead, HasHolds}
use Rattle.owner_book.proofs.Paths.{found-there, lent-both, lent-changed, lent-is, lent-same, IfOk-map, OnErr-map, OnOk-map}
use Rattle.owner_book.proofs.book.OwnerBook.unlink.Goals as goal

pub unlink-requires : goal.unlink-requires
unlink-requires g c =
    let was = found-there c.args.self.now c.self.inside.files c.self.view_is c.args.gfid c.as_bytes-path.result.now c.args.p.now
    c.as_bytes-path.ensures.bytes c.in-Some.kept.now (sym c.get_mut.ensures.value ∙ ap option_copied_mut c.in-Some.is) in
    record { holds = subst (HasHolds g.H.Hold.is_ready g.H.Hold.piece g.H.Hold.bytes) was c.requires.holds }

pub returns : goal.returns
returns g c =
    let now = c.unlink.new.self in
    let lent = lent-is c.args.self.now c.self.inside.files (c.get_mut.follows.lender now) c.args.gfid c.as_bytes-path.result.now c.args.p.now
    c.in-Some.kept.now now c.self.view_is c.as_bytes-path.ensures.bytes
    (sym c.get_mut.ensures.value ∙ ap option_copied_mut c.in-Some.is) (c.get_mut.follows.holds now).3 in
    let done = c.unlink.result in
    record {
      answer = subst (λ x. AnswersBy (λ no. no) (no_file_refusal x) done) (sym lent.was_is) c.unlink.ensures.answer;
      version = IfOk-map done (λ d e. e ∙ ap version (sym lent.now_is)) c.unlink.ensures.version;
      attr = IfOk-map done (λ d e. e ∙ ap attr (sym lent.now_is)) c.unlink.ensures.attr;
      unlinked = OnOk-map done (lent-changed lent (without_file c.args.line)) c.unlink.ensures.unlinked;
      dead = IfOk-map done (λ d. lent-both lent (λ x y. AreDead g.H.Hold.piece x y d.dead.items)) c.unlink.ensures.dead;
      same = OnErr-map done (lent-same lent) c.unlink.ensures.same;
      holds = subst (HasHolds g.H.Hold.is_ready g.H.Hold.piece g.H.Hold.bytes) (sym lent.now_is) c.unlink.ensures.holds;
    }
