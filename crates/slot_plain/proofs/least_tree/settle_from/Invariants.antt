use Rattle.std.proofs.Common.{◌≡◌, ℕ, ◌≤◌, ◌<◌}
use Rattle.slot_plain.specs.LeastTree.{IsTreeBut, tree_node}
use Rattle.slot_plain.proofs.least_tree.settle_from.Given as goal

abbrev pub invariant-loop-at : goal.invariant-loop-at
invariant-loop-at l =
    IsTreeBut l.at l.tree l.room × (l.at < l.room)
    × ((i : ℕ) → l.room ≤ i → tree_node l.tree i ≡ tree_node l.initial.tree i)

abbrev pub decreases-loop-at : goal.decreases-loop-at
decreases-loop-at l = l.at
