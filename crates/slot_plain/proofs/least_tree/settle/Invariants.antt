use Rattle.std.proofs.Common.{◌≡◌, ◌*◌, ℕ, ◌≤◌, ◌<◌, length}
use Rattle.slot_plain.specs.LeastTree.{HasLesser, tree_node}
use Rattle.slot_plain.proofs.least_tree.settle.Given as goal

abbrev pub invariant-loop-at : goal.invariant-loop-at
invariant-loop-at l =
    (length l.tree ≡ 2 * l.room) × (l.at ≤ l.room)
    × ((i : ℕ) → l.at ≤ i → 1 ≤ i → i < l.room → HasLesser l.tree i)
    × ((i : ℕ) → l.room ≤ i → tree_node l.tree i ≡ tree_node l.initial.tree i)

abbrev pub decreases-loop-at : goal.decreases-loop-at
decreases-loop-at l = l.at
