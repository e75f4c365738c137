-- Binary trees of the least numbers. Node 1 is the root, the nodes 2i and 2i + 1 are below node i, and a tree with room for
-- so many leaves has them at its end. A leaf has its own number, or that of no slot.
use Rattle.std.specs.Prelude.{ℕ, ◌≡◌, ◌≢◌, ◌+◌, ◌*◌, ◌≤◌, ◌<◌, ◌==◌, min, Bool, List, length, map, slice_index}
use Rattle.std.specs.List.{range_with_len}
use Rattle.slot_plain.specs.FreePlaces.{free_places}
use Rattle.slot_plain.specs.declared.least_tree.TheConstants.{NO_SLOT}

-- what a node has
abbrev pub tree_node : List ℕ → ℕ → ℕ
tree_node tree i = slice_index tree i

-- a node has the lesser of what stands in the two nodes below it
abbrev pub HasLesser : List ℕ → ℕ → Type 0
HasLesser tree i = tree_node tree i ≡ min (tree_node tree (2 * i)) (tree_node tree (2 * i + 1))

-- the nodes above the leaves each have the lesser of two, but for one that may not
pub record IsTreeBut (skipped : ℕ) (tree : List ℕ) (room : ℕ) : Type 0 where
  pub size : length tree ≡ 2 * room
  pub inner : (i : ℕ) → 1 ≤ i → i < room → i ≢ skipped → HasLesser tree i

-- each node above the leaves has the lesser of two; there is no node 0
abbrev pub IsTree : List ℕ → ℕ → Type 0
IsTree tree room = IsTreeBut 0 tree room

-- the leaves of both trees are the same, but for this one, which has a value
pub record LeafSet (slot value room : ℕ) (old new : List ℕ) : Type 0 where
  pub this : tree_node new (room + slot) ≡ value
  pub others : (s : ℕ) → s < room → s ≢ slot → tree_node new (room + s) ≡ tree_node old (room + s)

-- a tree with more room has the leaves of another, and no slot behind them
pub record Widens (room wide : ℕ) (old new : List ℕ) : Type 0 where
  pub kept : (s : ℕ) → s < room → tree_node new (wide + s) ≡ tree_node old (room + s)
  pub none : (s : ℕ) → room ≤ s → s < wide → tree_node new (wide + s) ≡ NO_SLOT

-- for each of so many leaves whether it has its own number
abbrev pub flags_in : List ℕ → ℕ → ℕ → List Bool
flags_in tree room len = map (λ s. tree_node tree (room + s) == s) (range_with_len 0 len)

-- a tree whose first leaves are those of slots, with the number of those that have their own number
pub record KeepsFree (nodes : List ℕ) (room len total : ℕ) : Type 0 where
  pub tree : IsTree nodes room
  pub within : len ≤ room
  pub numbers : len ≤ NO_SLOT
  pub leaves : (s : ℕ) → s < len → tree_node nodes (room + s) ≢ s → tree_node nodes (room + s) ≡ NO_SLOT
  pub none : (s : ℕ) → len ≤ s → s < room → tree_node nodes (room + s) ≡ NO_SLOT
  pub count : total ≡ length (free_places (flags_in nodes room len))
