use Rattle.std.proofs.Common.{subst, Option}
use Rattle.std.proofs.lemmas.Bool.{not-false}
use Rattle.fs_script.specs.declared.limits.TheConstants.{DIGEST_LIMIT}
use Rattle.owner_book.specs.Kept.{BookFile, path_in}
use Rattle.core_machine.specs.declared.plain_hold.PlainHold.{PlainHold}
use Rattle.core_machine.specs.Kept.{file_hold}
use Rattle.core_machine.specs.Logs.{HoldsStand}
use Rattle.core_machine.proofs.FileStates.{file_state-of_bytes}
use Rattle.core_machine.proofs.LookedUp.{IsAsBefore-looked, IsAsBefore-tried, looked-file}
use Rattle.core_machine.proofs.file_state.file_state.Goals as goal

pub returns-in_default-clause-same : goal.returns-in_default-clause-same
returns-in_default-clause-same g c =
    IsAsBefore-tried c.args.book.now c.lookup.new.self c.args.gfid c.args.p.now _ c.requires.file c.lookup.ensures.others
    c.lookup.ensures.holds c.in_default.ensures.may_ask

pub first_bytes-requires : goal.first_bytes-requires
first_bytes-requires g c =
    let need = c.requires.stand in
    let at = looked-file (path_in c.args.book.now c.args.gfid c.args.p.now) c.attr.result 0 DIGEST_LIMIT c.in-Ok.found c.requires.file
    c.attr.ensures.attr (not-false c.attr.result.1.exists c.if-not-attr.false) c.in-Ok.ensures.attr c.in-Ok.ensures.frags c.in-Ok.ensures.pins in
    record {
      found = (
        at.0,
        at.2,
        at.3,
        need.0,
        subst (λ (o : Option (BookFile PlainHold)). HoldsStand need.0 c.args.logs.now (file_hold o)) at.1 need.1,
        need.2,
      );
    }

pub returns-in_err-bytes-clause-same : goal.returns-in_err-bytes-clause-same
returns-in_err-bytes-clause-same g c =
    IsAsBefore-looked c.args.book.now c.lookup.new.self c.args.gfid c.args.p.now _ c.requires.file c.lookup.ensures.others
    c.lookup.ensures.holds c.in-Ok.ensures.looked

pub returns-clause-state : goal.returns-clause-state
returns-clause-state g c = λ s stand.
    let at = looked-file (path_in c.args.book.now c.args.gfid c.args.p.now) c.attr.result 0 DIGEST_LIMIT c.in-Ok.found c.requires.file
    c.attr.ensures.attr (not-false c.attr.result.1.exists c.if-not-attr.false) c.in-Ok.ensures.attr c.in-Ok.ensures.frags c.in-Ok.ensures.pins in
    let kept = subst (λ (o : Option (BookFile PlainHold)). HoldsStand s c.args.logs.now (file_hold o)) at.1 stand in
    rw (c.in-Ok.ensures.attr, at.1, c.digest.ensures, c.deref.ensures.value)
    (file_state-of_bytes s at.0 c.in_ok-bytes.bytes.items (c.in_ok-bytes.ensures.bytes s at.0 at.2 at.3 kept))

pub returns-clause-same : goal.returns-clause-same
returns-clause-same g c =
    IsAsBefore-looked c.args.book.now c.lookup.new.self c.args.gfid c.args.p.now _ c.requires.file c.lookup.ensures.others
    c.lookup.ensures.holds c.in-Ok.ensures.looked
