use Rattle.fs_types.proofs.Common.{true}
use Rattle.fs_types.specs.declared.mem_hold.MemHold.{MemHold}
use Rattle.owner_book.specs.Kept.{path_in}
use Rattle.owner_book.proofs.CallerLemmas.{holds-changed}
use Rattle.owner_book.proofs.tests.assert_finds.Goals as goal

pub lookup-requires : goal.lookup-requires
lookup-requires g c = record { holds = c.requires 7 c.args.range.0.now }

pub returns : goal.returns
returns g c =
    holds-changed {H = MemHold} (λ _. true) (λ h. h.piece) (λ h. h.bytes) c.args.book.now c.lookup.new.self 7 c.args.range.0.now
    (path_in c.lookup.new.self 7 c.args.range.0.now) c.in_ok-found.ensures.others c.in_ok-found.ensures.holds c.requires
