use Rattle.fs_types.proofs.Common.{true}
use Rattle.fs_types.specs.declared.mem_hold.MemHold.{MemHold}
use Rattle.owner_book.specs.Calls.{without_file}
use Rattle.owner_book.specs.Kept.{path_in}
use Rattle.owner_book.proofs.CallerLemmas.{holds-called}
use Rattle.owner_book.proofs.tests.lives.make.Goals as goal

pub returns-in-Unlink : goal.returns-in-Unlink
returns-in-Unlink c =
    holds-called {H = MemHold} (λ _. true) (λ h. h.piece) (λ h. h.bytes) c.unlink.result c.args.book.now c.unlink.new.self 7 c.args.path.now
    (without_file c.args.line (path_in c.args.book.now 7 c.args.path.now)) c.unlink.ensures.unlinked c.unlink.ensures.same
    c.unlink.ensures.holds c.requires
