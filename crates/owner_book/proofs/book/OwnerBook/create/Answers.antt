use Rattle.fs_types.proofs.Common.{◌∙◌, ap, sym, subst}
use Rattle.std.specs.Option.{option_copied_mut}
use Rattle.owner_book.specs.Kept.{path_in, path_of}
use Rattle.owner_book.specs.Calls.{AnswersBy, Changes, create_refusal, created, version}
use Rattle.owner_book.proofs.Paths.{at-changed, found-none, lent-changed, lent-is, lent-same, IfOk-map, OnErr-map, OnOk-map}
use Rattle.owner_book.proofs.book.OwnerBook.create.Goals as goal

pub returns-in-Some : goal.returns-in-Some
returns-in-Some g c =
    let now = c.create.new.self in
    let lent = lent-is c.args.self.now c.self.inside.files (c.get_mut.follows.lender now) c.args.gfid c.as_bytes-path.result.now c.args.p.now
    c.in-Some.kept.now now c.self.view_is c.as_bytes-path.ensures.bytes
    (sym c.get_mut.ensures.value ∙ ap option_copied_mut c.in-Some.is) (c.get_mut.follows.holds now).3 in
    let done = c.create.result in
    record {
      answer = subst (λ x. AnswersBy (λ no. no) (create_refusal x) done) (sym lent.was_is) c.create.ensures.answer;
      version = IfOk-map done (λ v e. e ∙ ap version (sym lent.now_is)) c.create.ensures.version;
      created = OnOk-map done (lent-changed lent (created c.args.line)) c.create.ensures.created;
      same = OnErr-map done (lent-same lent) c.create.ensures.same;
    }

pub returns-clause-version : goal.returns-clause-version
returns-clause-version g c =
    c.in_ok-version.ensures.version ∙ ap version (sym (ap (path_in c.add.new.self c.args.gfid) (sym c.as_bytes-path.ensures.bytes)
    ∙ at-changed c.get_mut.follows.lender-at-none.entries c.add.new.self c.args.gfid c.as_bytes-path.result.now (path_of c.create-2.new.self)
    c.in_ok-add.ensures.added))

pub returns-clause-created : goal.returns-clause-created
returns-clause-created g c =
    let book = ap (λ m. m.entries) c.get_mut.follows.holds-at-none ∙ c.self.view_is in
    let is = c.as_bytes-path.ensures.bytes in
    let none = sym c.get_mut.ensures.value ∙ ap option_copied_mut c.in_default.is in
    let was = found-none c.args.self.now c.self.inside.files c.self.view_is c.args.gfid c.as_bytes-path.result.now c.args.p.now is none in
    let now = c.in_ok-version.ensures.created ∙ ap (created c.args.line) (c.new-kept.ensures ∙ sym was) in
    let added = c.in_ok-add.ensures.added in
    subst (λ b. Changes b c.add.new.self c.args.gfid c.args.p.now (created c.args.line (path_in c.args.self.now c.args.gfid c.args.p.now))) book
    (subst (λ q. Changes c.get_mut.follows.lender-at-none.entries c.add.new.self c.args.gfid q
    (created c.args.line (path_in c.args.self.now c.args.gfid c.args.p.now))) is
    (subst (Changes c.get_mut.follows.lender-at-none.entries c.add.new.self c.args.gfid c.as_bytes-path.result.now) now added))
