use Rattle.std.proofs.Common.{◌≡◌}
use Rattle.core_run.specs.Picks.{state_after, first_picks}
use Rattle.core_run.proofs.picks.picks_of.Given as goal

-- the first picks so far, and the state that they left
abbrev pub invariant-loop-k : goal.invariant-loop-k
invariant-loop-k l = record {
  picks : l.picks.items ≡ first_picks l.seed l._k;
  state : l.state ≡ state_after l.seed l._k;
}
