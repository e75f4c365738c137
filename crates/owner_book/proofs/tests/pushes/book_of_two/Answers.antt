use Rattle.fs_types.proofs.Common.{true}
use Rattle.fs_types.specs.declared.mem_hold.MemHold.{MemHold}
use Rattle.owner_book.specs.Commits.{with_commit}
use Rattle.owner_book.specs.Kept.{path_in}
use Rattle.owner_book.proofs.CallerLemmas.{holds-changed, holds-made, holds-new}
use Rattle.owner_book.proofs.tests.pushes.book_of_two.Goals as goal

pub returns-in-Ok : goal.returns-in-Ok
returns-in-Ok c =
    let none = holds-new {H = MemHold} (λ _. true) (λ h. h.piece) (λ h. h.bytes) c.in_ok-book.book c.in_ok-book.ensures in
    let made = holds-made {H = MemHold} (λ _. true) (λ h. h.piece) (λ h. h.bytes) c.in_ok-book.book c.create.new.self 7 c.args.path.now 2
    c.in_ok-create.ensures.created none in
    holds-changed {H = MemHold} (λ _. true) (λ h. h.piece) (λ h. h.bytes) c.create.new.self c.commit.new.self 7 c.args.path.now
    (with_commit (λ h. h.piece) 11 c.in_ok-push.push (path_in c.create.new.self 7 c.args.path.now)) c.in-Ok.ensures.committed
    c.in-Ok.ensures.holds made
