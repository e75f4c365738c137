use Rattle.fs_types.proofs.Common.{true}
use Rattle.fs_types.specs.declared.mem_hold.MemHold.{MemHold}
use Rattle.owner_book.specs.Kept.{path_in}
use Rattle.owner_book.specs.Laminations.{with_lamination}
use Rattle.owner_book.proofs.CallerLemmas.{holds-changed, holds-same}
use Rattle.owner_book.proofs.tests.lives.laminate.Goals as goal

pub laminate-requires-clause-holds : goal.laminate-requires-clause-holds
laminate-requires-clause-holds c =
    holds-same {H = MemHold} (λ _. true) (λ h. h.piece) (λ h. h.bytes) c.args.book.now c.hold_of.follows.lender-at-none
    c.hold_of.follows.holds-at-none c.requires 7 c.args.path.now

pub returns-in-Ok : goal.returns-in-Ok
returns-in-Ok c =
    let between = c.hold_of.follows.lender-at-none in
    let all = holds-same {H = MemHold} (λ _. true) (λ h. h.piece) (λ h. h.bytes) c.args.book.now between c.hold_of.follows.holds-at-none
    c.requires in
    holds-changed {H = MemHold} (λ _. true) (λ h. h.piece) (λ h. h.bytes) between c.laminate.new.self 7 c.args.path.now
    (with_lamination (λ h. h.piece) c.args.line c.in_ok-push.push (path_in between 7 c.args.path.now)) c.in-Ok.ensures.laminated
    c.in-Ok.ensures.holds all

pub returns-else-len-holds : goal.returns-else-len-holds
returns-else-len-holds c =
    let between = c.hold_of.follows.lender-at-none in
    holds-same {H = MemHold} (λ _. true) (λ h. h.piece) (λ h. h.bytes) between c.laminate.new.self c.in-Err.ensures.same
    (holds-same {H = MemHold} (λ _. true) (λ h. h.piece) (λ h. h.bytes) c.args.book.now between c.hold_of.follows.holds-at-none c.requires)
