use Rattle.fs_types.proofs.Common.{true}
use Rattle.fs_types.specs.declared.mem_hold.MemHold.{MemHold}
use Rattle.client_map.proofs.CallerLemmas.{holds-taken}
use Rattle.client_map.proofs.tests.take.Goals as goal

pub take_all-requires : goal.take_all-requires
take_all-requires c = c.requires.holds c.args.path.now

pub returns-clause-holds : goal.returns-clause-holds
returns-clause-holds c =
    holds-taken {H = MemHold} (λ _. true) (λ h. h.piece) (λ h. h.bytes) c.args.map.now c.take_all.new.self c.args.path.now
    c.take_all.ensures.taken c.requires.holds
