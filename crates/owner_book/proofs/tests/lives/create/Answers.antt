use Rattle.fs_types.proofs.Common.{true}
use Rattle.fs_types.specs.declared.mem_hold.MemHold.{MemHold}
use Rattle.owner_book.proofs.CallerLemmas.{holds-made, holds-same}
use Rattle.owner_book.proofs.tests.lives.create.Goals as goal

pub returns-in_err-v : goal.returns-in_err-v
returns-in_err-v c =
    holds-same {H = MemHold} (λ _. true) (λ h. h.piece) (λ h. h.bytes) c.args.book.now c.create.new.self c.in_err-v.ensures.same c.requires

pub returns : goal.returns
returns c =
    holds-made {H = MemHold} (λ _. true) (λ h. h.piece) (λ h. h.bytes) c.args.book.now c.create.new.self 7 c.args.path.now c.args.line
    c.in_ok-v.ensures.created c.requires
