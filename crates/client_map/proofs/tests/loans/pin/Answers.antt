use Rattle.fs_types.proofs.Common.{◌∙◌, ap, refl, sym, true}
use Rattle.std.specs.Option.{option_copied_mut}
use Rattle.fs_types.specs.declared.mem_hold.MemHold.{MemHold}
use Rattle.client_map.proofs.CallerLemmas.{holds-lent}
use Rattle.client_map.proofs.tests.loans.pin.Goals as goal

pub returns-clause-chunk : goal.returns-clause-chunk
returns-clause-chunk c = ((rw c.in-Some.is at c.hold_of.follows.holds) c.pin.new.self).chunk ∙ c.requires.chunk

pub returns-clause-holds : goal.returns-clause-holds
returns-clause-holds c =
    let w = c.pin.new.self in
    holds-lent {H = MemHold} (λ _. true) (λ h. h.piece) (λ h. h.bytes) c.args.map.now (c.hold_of.follows.lender w) c.args.path.now c.args.id
    c.in-Some.hold.now w ((rw c.in-Some.is at c.hold_of.follows.holds) w) (sym c.hold_of.ensures.hold ∙ ap option_copied_mut c.in-Some.is) refl
    c.pin.ensures.same_piece c.pin.ensures.same_bytes c.requires.holds
