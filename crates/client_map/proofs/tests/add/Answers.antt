use Rattle.fs_types.proofs.Common.{true}
use Rattle.fs_types.specs.declared.mem_hold.MemHold.{MemHold}
use Rattle.client_map.specs.Kept.{pending_in}
use Rattle.client_map.proofs.CallerLemmas.{holds-changed, holds-same}
use Rattle.client_map.proofs.tests.add.Goals as goal

pub add-requires-clause-holds : goal.add-requires-clause-holds
add-requires-clause-holds c =
    holds-same {H = MemHold} (λ _. true) (λ h. h.piece) (λ h. h.bytes) c.args.map.now c.require_all_new.new.map
    c.in_ok-require_all_new.ensures.same c.requires.holds c.args.path.now

pub returns-in-Ok-clause-holds : goal.returns-in-Ok-clause-holds
returns-in-Ok-clause-holds c =
    holds-changed {H = MemHold} (λ _. true) (λ h. h.piece) (λ h. h.bytes) c.require_all_new.new.map c.add.new.self c.args.path.now
    (pending_in c.add.new.self c.args.path.now) c.in-Ok.ensures.others c.in-Ok.ensures.holds
    (holds-same {H = MemHold} (λ _. true) (λ h. h.piece) (λ h. h.bytes) c.args.map.now c.require_all_new.new.map
    c.in_ok-require_all_new.ensures.same c.requires.holds)
