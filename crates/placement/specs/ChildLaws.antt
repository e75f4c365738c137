-- Whose child a server is, in the tree of an arity over all servers.
use Rattle.std.specs.Prelude.{◌≡◌, ◌≢◌, ℕ, ◌<◌, ◌≤◌, Some}
use Rattle.placement.specs.Placement.{child_of, distance_of}

-- a server is child i of another
pub record IsChild (root arity servers server parent i : ℕ) : Type 0 where
  pub parent_below : parent < servers
  pub from_one : 1 ≤ i
  pub to_arity : i ≤ arity
  pub child : child_of root parent arity servers i ≡ Some server

-- a server is a child of exactly one, under exactly one number; and that one is nearer to the root
pub record HasOneParent (root arity servers server : ℕ) : Type 0 where
  pub parent : ℕ
  pub i : ℕ
  pub is_child : IsChild root arity servers server parent i
  pub nearer : distance_of root servers parent < distance_of root servers server
  pub only : (q j : ℕ) → IsChild root arity servers server q j → (q ≡ parent) × (j ≡ i)

-- so it is with every server but the root
abbrev pub OthersHaveOneParent : Type 0
OthersHaveOneParent =
    (root arity servers server : ℕ) → root < servers → 1 ≤ arity → server < servers → server ≢ root
    → HasOneParent root arity servers server

-- the root is nobody's child
abbrev pub RootHasNoParent : Type 0
RootHasNoParent = (root arity servers q i : ℕ) → root < servers → IsChild root arity servers root q i → ⊥
