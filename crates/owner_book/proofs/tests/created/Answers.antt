use Rattle.fs_types.proofs.Common.{true}
use Rattle.fs_types.specs.declared.mem_hold.MemHold.{MemHold}
use Rattle.owner_book.proofs.CallerLemmas.{holds-made, holds-new}
use Rattle.owner_book.proofs.tests.created.Goals as goal

pub returns : goal.returns
returns c =
    let none = holds-new {H = MemHold} (λ _. true) (λ h. h.piece) (λ h. h.bytes) c.in_ok-book.book c.in_ok-book.ensures in
    let first = holds-made {H = MemHold} (λ _. true) (λ h. h.piece) (λ h. h.bytes) c.in_ok-book.book c.create.new.self 7 c.args.a.now 2
    c.in_ok-create.ensures.created none in
    holds-made {H = MemHold} (λ _. true) (λ h. h.piece) (λ h. h.bytes) c.create.new.self c.create-2.new.self 7 c.args.b.now 3
    c.in_ok-create-2.ensures.created first
