-- What is committed to a path that is found is committed to the book's.
use Rattle.fs_types.proofs.Common.{◌∙◌, ap, sym, subst}
use Rattle.std.specs.Option.{option_copied_mut}
use Rattle.piece_table.specs.HeldSpans.{AreGone}
use Rattle.owner_book.specs.Calls.{AnswersBy, attr, change_refusal, version}
use Rattle.owner_book.specs.Changes.{changed, held_before}
use Rattle.owner_book.specs.Commits.{HasHolds, MayCommit}
use Rattle.owner_book.specs.Kept.{held_at}
use Rattle.owner_book.proofs.Paths.{found-there, lent-both, lent-changed, lent-is, lent-same, IfOk-map, OnErr-map, OnOk-map}
use Rattle.owner_book.proofs.book.OwnerBook.change.Goals as goal

pub change-requires : goal.change-requires
change-requires g c =
    let was = found-there c.args.self.now c.self.inside.files c.self.view_is c.args.gfid c.as_bytes-path.result.now c.args.p.now
    c.as_bytes-path.ensures.bytes c.in-Some.kept.now (sym c.get_mut.ensures.value ∙ ap option_copied_mut c.in-Some.is) in
    record {
      size = c.requires.size;
      holds = subst (HasHolds g.H.Hold.is_ready g.H.Hold.piece g.H.Hold.bytes) was c.requires.holds;
      push = subst (MayCommit g.H.Hold.is_ready g.H.Hold.piece g.H.Hold.bytes c.args.push) was c.requires.push;
    }

pub returns : goal.returns
returns g c =
    let now = c.change.new.self in
    let lent = lent-is c.args.self.now c.self.inside.files (c.get_mut.follows.lender now) c.args.gfid c.as_bytes-path.result.now c.args.p.now
    c.in-Some.kept.now now c.self.view_is c.as_bytes-path.ensures.bytes
    (sym c.get_mut.ensures.value ∙ ap option_copied_mut c.in-Some.is) (c.get_mut.follows.holds now).3 in
    let done = c.change.result in
    record {
      answer = subst (λ x. AnswersBy (λ e. e.0) (change_refusal x) done) (sym lent.was_is) c.change.ensures.answer;
      version = IfOk-map done (λ d e. e ∙ ap version (sym lent.now_is)) c.change.ensures.version;
      attr = IfOk-map done (λ d e. e ∙ ap attr (sym lent.now_is)) c.change.ensures.attr;
      changed = OnOk-map done (lent-changed lent (changed g.H.Hold.piece c.args.line c.args.push c.args.after)) c.change.ensures.changed;
      dead = IfOk-map done (λ d. lent-both lent (λ x y. AreGone g.H.Hold.piece
          (held_before g.H.Hold.piece c.args.push c.args.after (held_at x)) (held_at y) d.dead.items)) c.change.ensures.dead;
      given_back = c.change.ensures.given_back;
      same = OnErr-map done (lent-same lent) c.change.ensures.same;
      holds = subst (HasHolds g.H.Hold.is_ready g.H.Hold.piece g.H.Hold.bytes) (sym lent.now_is) c.change.ensures.holds;
    }
