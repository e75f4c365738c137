-- Trees of the least numbers: what a write to a node leaves.
use Rattle.std.proofs.Common.{◌≡◌, ◌≢◌, ℕ, ◌+◌, ◌*◌, ◌/◌, ◌≤◌, ◌<◌, min, List, length, set, arith, sym, ◌∙◌, inl, inr, subst}
use Rattle.std.proofs.lemmas.Bool.{cases_eq}
use Rattle.std.proofs.lemmas.List.{get_or-set_same, get_or-set_other, length-set}
use Rattle.slot_plain.specs.LeastTree.{tree_node, HasLesser, IsTreeBut}

-- a node that is given the lesser of the two below it has it
HasLesser-set_same : (tree : List ℕ) (at : ℕ) → 1 ≤ at → at < length tree
    → HasLesser (set tree at (min (tree_node tree (2 * at)) (tree_node tree (2 * at + 1)))) at
HasLesser-set_same tree at some below =
    let v : ℕ = min (tree_node tree (2 * at)) (tree_node tree (2 * at + 1)) in
    let n0 : 2 * at ≢ at = λ e. absurd (omega arith) in
    let n1 : 2 * at + 1 ≢ at = λ e. absurd (omega arith) in
    rw (get_or-set_same tree at v 0 below, get_or-set_other tree at (2 * at) v 0 n0, get_or-set_other tree at (2 * at + 1) v 0 n1)

-- a write to a node changes nothing of a node that is neither it nor above it
HasLesser-set_other : (tree : List ℕ) (at v i : ℕ) → i ≢ at → i ≢ at / 2 → HasLesser tree i → HasLesser (set tree at v) i
HasLesser-set_other tree at v i other not_above h =
    let n0 : 2 * i ≢ at = λ e. not_above (omega arith) in
    let n1 : 2 * i + 1 ≢ at = λ e. not_above (omega arith) in
    rw (get_or-set_other tree at i v 0 other, get_or-set_other tree at (2 * i) v 0 n0, get_or-set_other tree at (2 * i + 1) v 0 n1) h

-- a node is settled, and then only the one above it may not be
pub IsTreeBut-set : (tree : List ℕ) (room at v : ℕ) → 1 ≤ at → at < room → IsTreeBut at tree room
    → v ≡ min (tree_node tree (2 * at)) (tree_node tree (2 * at + 1)) → IsTreeBut (at / 2) (set tree at v) room
IsTreeBut-set tree room at v some below t is = record {
  size = length-set tree at v ∙ t.size;
  inner = λ i one lt not_above. elim (cases_eq i at) [
    | inl same ↦
        let s = t.size in let at_length : at < length tree = omega arith in
        subst (HasLesser (set tree at v)) (sym same)
        (subst (λ w. HasLesser (set tree at w) at) (sym is) (HasLesser-set_same tree at some at_length))
    | inr other ↦ HasLesser-set_other tree at v i other not_above (t.inner i one lt other)
  ];
}

pub ruleset settle_laws = (IsTreeBut-set)
