use Rattle.fs_types.proofs.Common.{true}
use Rattle.fs_types.specs.declared.mem_hold.MemHold.{MemHold}
use Rattle.owner_book.specs.Kept.{path_in}
use Rattle.owner_book.proofs.CallerLemmas.{holds-changed}
use Rattle.owner_book.proofs.tests.frozen.replica.Goals as goal

pub replica-requires-clause-holds : goal.replica-requires-clause-holds
replica-requires-clause-holds c = c.requires 7 c.args.path.now

pub returns : goal.returns
returns c =
    holds-changed {H = MemHold} (λ _. true) (λ h. h.piece) (λ h. h.bytes) c.args.book.now c.replica.new.self 7 c.args.path.now
    (path_in c.replica.new.self 7 c.args.path.now) c.replica.ensures.others c.replica.ensures.holds c.requires
