use Rattle.std.proofs.Common.{refl}
use Rattle.core_run.specs.Picks.{first_picks}
use Rattle.core_run.proofs.PickLemmas.{first_picks-more, state_after-more}
use Rattle.core_run.proofs.picks.picks_of.Goals as goal

pub loop-k-init : goal.loop-k-init
unfolding first_picks
loop-k-init c = record { picks = c.in_ok-picks.ensures.items; state = refl }

pub loop-k-preserved : goal.loop-k-preserved
loop-k-preserved c =
    let so_far = c.loop-k.invariant in
    let state = state_after-more c.args.seed c.loop-k._k c.loop-k.state so_far.state in
    record { picks = rw c.in_ok-push.ensures.items (first_picks-more c.args.seed c.loop-k._k so_far.picks state); state = state }
