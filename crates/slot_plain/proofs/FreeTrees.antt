-- Trees of free slots: the root has the lowest, and what a leaf that is set leaves.
use Rattle.std.proofs.Common.{◌≡◌, ◌≢◌, ℕ, suc, zero, ◌+◌, ◌*◌, ◌/◌, ◌≤◌, ◌<◌, ◌==◌, Bool, true, false, List, [], ◌∷◌, ◌++◌, Some, length}
use Rattle.std.proofs.Common.{set, slice_get, get_or, ◌-◌, arith, sym, ◌∙◌, ap, refl, ◌⊎◌, inl, inr}
use Rattle.std.proofs.lemmas.Bool.{cases_lt, cases_eq, eq-eqb, eqb-true, ne_eqb}
use Rattle.std.proofs.lemmas.List.{get_or-set_same, get_or-set_other, length-set, get_or_append_left, get_or_push, length_push}
use Rattle.std.proofs.lemmas.List.FromFn.{length-map-range_with_len, get_or-map-range_with_len, fill_by_all}
use Rattle.std.proofs.lemmas.Option.{slice_get_within, get_or_from_slice_get, slice_get-get_or}
use Rattle.slot_plain.specs.FreePlaces.{free_places}
use Rattle.slot_plain.specs.LeastTree.{tree_node, IsTree, LeafSet, Widens, flags_in, KeepsFree}
use Rattle.slot_plain.specs.declared.least_tree.TheConstants.{NO_SLOT}
use Rattle.slot_plain.proofs.FreeLists.{free_from-lowest, length-free_from-set, free_from-append, free_place, length-free_from-le}

-- ---- the root

module _ (nodes : List ℕ) (room : ℕ) (tree : IsTree nodes room) where
  -- the root has the least of all that the nodes have; `more` is at least i
  root-le_by : (more i : ℕ) → i ≤ more → 1 ≤ i → i < 2 * room → tree_node nodes 1 ≤ tree_node nodes i
  root-le_by zero i le one lt = absurd (omega arith)
  root-le_by (suc more) i le one lt = elim (cases_eq i 1) [
    | inl same ↦ rw same (omega arith)
    | inr other ↦
        let h = tree.inner (i / 2) (omega arith) (omega arith) (λ e. absurd (omega arith)) in
        let up = root-le_by more (i / 2) (omega arith) (omega arith) (omega arith) in
        elim (cases_eq i (2 * (i / 2))) [
          | inl left ↦ let moved = ap (tree_node nodes) left in omega (arith, up, h, moved)
          | inr not_left ↦
              let right : i ≡ 2 * (i / 2) + 1 = omega arith in
              let moved = ap (tree_node nodes) right in omega (arith, up, h, moved)
        ]
  ]

  -- what a node has is what some leaf below it has; `more` is at least the number of nodes from i on
  leaf_below : (more i : ℕ) → 2 * room ≤ i + more → 1 ≤ i → i < 2 * room
      → (s : ℕ) × (s < room) × (tree_node nodes i ≡ tree_node nodes (room + s))
  leaf_below zero i le one lt = absurd (omega arith)
  leaf_below (suc more) i le one lt = elim (cases_lt i room) [
    | inr leaf ↦ (i - room, omega arith, ap (tree_node nodes) (omega arith))
    | inl inner ↦
        let h = tree.inner i one inner (λ e. absurd (omega arith)) in
        elim (cases_lt (tree_node nodes (2 * i)) (tree_node nodes (2 * i + 1))) [
          | inl less ↦
              let found = leaf_below more (2 * i) (omega arith) (omega arith) (omega arith) in
              (found.0, found.1, omega (arith, h, less, found.2))
          | inr no_less ↦
              let found = leaf_below more (2 * i + 1) (omega arith) (omega arith) (omega arith) in
              (found.0, found.1, omega (arith, h, no_less, found.2))
        ]
  ]

-- ---- the flags

module _ (nodes : List ℕ) (room len : ℕ) where
  length-flags_in : length (flags_in nodes room len) ≡ len
  length-flags_in = length-map-range_with_len (λ s. tree_node nodes (room + s) == s) 0 len

  -- flags that agree with the leaves are these
  flags_in-by : (flags : List Bool) → length flags ≡ len
      → ((s : ℕ) → s < len → get_or flags s false ≡ (tree_node nodes (room + s) == s)) → flags_in nodes room len ≡ flags
  flags_in-by flags size agree = sym (fill_by_all (λ s. tree_node nodes (room + s) == s) flags len false size agree)

-- what the root is, where some slot is free: a free slot, with no free one below it
record IsLowest (flags : List Bool) (slot : ℕ) : Type 0 where
  free : slice_get flags slot ≡ Some true
  below : (k : ℕ) → k < slot → get_or flags k false ≡ false

module _ {nodes : List ℕ} {room len total : ℕ} (keeps : KeepsFree nodes room len total) {flags : List Bool}
    (is : flags_in nodes room len ≡ flags) where
  flags_size : length flags ≡ len
  flags_size = rw (← is) (length-flags_in nodes room len)

  flag_at : (s : ℕ) → s < len → get_or flags s false ≡ (tree_node nodes (room + s) == s)
  flag_at s lt = rw (← is) (get_or-map-range_with_len (λ s. tree_node nodes (room + s) == s) 0 len s s false lt (omega arith))

  total_is : total ≡ length (free_places flags)
  total_is = rw (← is) keeps.count

  -- no more flags are set than there are slots
  pub total-le : total ≤ len
  total-le = omega (arith, total_is, length-free_from-le 0 flags, flags_size)

  -- a slot with a flag is within the tree
  slot_below : (slot : ℕ) {b : Bool} → slice_get flags slot ≡ Some b → slot < len
  slot_below slot {b} at = omega (arith, slice_get_within flags slot b at, flags_size)

  pub slot_within : (slot : ℕ) {b : Bool} → slice_get flags slot ≡ Some b → slot < room
  slot_within slot at = let w = keeps.within in omega (arith, slot_below slot at, w)

  -- where one is not set, fewer are set than there are
  pub total_below : (slot : ℕ) → slice_get flags slot ≡ Some false → total < len
  total_below slot at =
      let le = length-free_from-le 0 (set flags slot true) in
      omega (arith, length-free_from-set 0 flags slot at, le, total_is, length-set flags slot true, flags_size)

  -- a leaf of a slot has its own number, or that of no slot
  leaf_cases : (s : ℕ) → s < room → ((s < len) × (tree_node nodes (room + s) ≡ s)) ⊎ (tree_node nodes (room + s) ≡ NO_SLOT)
  leaf_cases s lt = elim (cases_lt s len) [
    | inr past ↦ inr (keeps.none s past lt)
    | inl slot ↦ elim (cases_eq (tree_node nodes (room + s)) s) [
      | inl own ↦ inl (slot, own)
      | inr other ↦ inr (keeps.leaves s slot other)
    ]
  ]

  -- no leaf of a free slot has less than the root
  root-le_leaf : (s : ℕ) → s < len → tree_node nodes (room + s) ≡ s → tree_node nodes 1 ≤ s
  root-le_leaf s lt own =
      let w = keeps.within in
      let h = root-le_by nodes room keeps.tree (room + s) (room + s) (omega arith) (omega arith) (omega arith) in
      omega (arith, h, own)

  IsLowest-root : (slot : ℕ) → slot ≡ tree_node nodes 1 → 0 < length (free_places flags) → IsLowest flags slot
  IsLowest-root slot low some =
      let found = free_place 0 flags some in
      let below = slot_below found.0 found.1 in
      let own = eqb-true _ _ (sym (flag_at found.0 below) ∙ get_or_from_slice_get flags found.0 true false found.1) in
      let w = keeps.within in
      let numbers = keeps.numbers in
      let least = root-le_leaf found.0 below own in
      let from = leaf_below nodes room keeps.tree (2 * room) 1 (omega arith) (omega arith) (omega arith) in
      elim (leaf_cases from.0 from.1) [
        | inr none ↦ absurd (omega (arith, from.2, none, least))
        | inl its ↦
            let root : slot ≡ from.0 = low ∙ from.2 ∙ its.1 in
            rw root (record {
              free =
                  let there : from.0 < length flags = omega (arith, flags_size, its.0) in
                  slice_get-get_or flags from.0 false there ∙ ap Some (flag_at from.0 its.0 ∙ eq-eqb _ _ its.1);
              below = λ k lt.
                  let within : k < len = omega (arith, its.0) in
                  flag_at k within ∙ ne_eqb _ _ (λ own. absurd (omega (arith, root-le_leaf k within own, root)));
            })
      ]

  -- what is lowest is free
  pub lowest_free : (slot : ℕ) → slot ≡ tree_node nodes 1 → 0 < length (free_places flags) → slice_get flags slot ≡ Some true
  lowest_free slot low some = (IsLowest-root slot low some).free

  pub lowest_within : (slot : ℕ) → slot ≡ tree_node nodes 1 → 0 < length (free_places flags) → slot < room
  lowest_within slot low some = slot_within slot (lowest_free slot low some)

  -- ---- a leaf that is set

  module _ {new : List ℕ} {after slot value : ℕ} (same : after ≡ room) (tree : IsTree new room)
      (leaf : LeafSet slot value room nodes new) where
    -- a leaf that a slot has is set to its number, or to that of no slot
    module _ {b b' : Bool} (had : slice_get flags slot ≡ Some b) (own : (value == slot) ≡ b') where
      below_len : slot < len
      below_len = slot_below slot had

      flags-set : flags_in new after len ≡ set flags slot b'
      flags-set = rw same (flags_in-by new room len (set flags slot b') (length-set flags slot b' ∙ flags_size)
          (λ s below. elim (cases_eq s slot) [
            | inl is_slot ↦
                let there : slot < length flags = omega (arith, flags_size, below_len) in
                rw (is_slot, get_or-set_same flags slot b' false there, leaf.this) (sym own)
            | inr other ↦
                let w = keeps.within in
                let kept = leaf.others s (omega arith) other in
                get_or-set_other flags slot s b' false other ∙ flag_at s below ∙ ap (λ v. v == s) (sym kept)
          ]))

      keeps-set : {total' : ℕ} → (value ≢ slot → value ≡ NO_SLOT) → total' ≡ length (free_places (set flags slot b'))
          → KeepsFree new after len total'
      keeps-set none count = rw same (record {
        tree = tree;
        within = keeps.within;
        numbers = keeps.numbers;
        leaves = λ s below other. let w = keeps.within in elim (cases_eq s slot) [
          | inl is_slot ↦
              let here = ap (λ k. tree_node new (room + k)) is_slot ∙ leaf.this in
              here ∙ none (λ v. other (here ∙ v ∙ sym is_slot))
          | inr apart ↦
              let here = leaf.others s (omega arith) apart in here ∙ keeps.leaves s below (λ own. other (here ∙ own))
        ];
        none = λ s past in_room. leaf.others s in_room (λ is_slot. absurd (omega (arith, below_len))) ∙ keeps.none s past in_room;
        count = count ∙ ap (λ xs. length (free_places xs)) (sym flags-set ∙ ap (λ r. flags_in new r len) same);
      })

  -- a slot is put back
  module _ {new : List ℕ} {after slot : ℕ} (same : after ≡ room) (tree : IsTree new room) (leaf : LeafSet slot slot room nodes new)
      (had : slice_get flags slot ≡ Some false) where
    pub put_back-keeps : KeepsFree new after len (total + 1)
    put_back-keeps =
        keeps-set same tree leaf had (eq-eqb slot slot refl) (λ ne. absurd (ne refl))
        (omega (arith, total_is, length-free_from-set 0 flags slot had))

    pub put_back-flags : flags_in new after len ≡ set flags slot true
    put_back-flags = flags-set same tree leaf had (eq-eqb slot slot refl)

  -- the lowest free slot is taken
  module _ {new : List ℕ} {after slot : ℕ} (same : after ≡ room) (tree : IsTree new room)
      (leaf : LeafSet slot NO_SLOT room nodes new) (low : slot ≡ tree_node nodes 1) (some : 0 < length (free_places flags)) where
    no_number : (NO_SLOT == slot) ≡ false
    no_number =
        let numbers = keeps.numbers in
        let below = slot_below slot (lowest_free slot low some) in ne_eqb NO_SLOT slot (λ e. absurd (omega arith))

    lowest_first : free_places flags ≡ slot ∷ free_places (set flags slot false)
    lowest_first =
        let least = IsLowest-root slot low some in
        free_from-lowest 0 flags slot least.free least.below
        ∙ ap (λ m. m ∷ free_places (set flags slot false)) (omega arith)

    pub taken-keeps : KeepsFree new after len (total - 1)
    taken-keeps =
        keeps-set same tree leaf (lowest_free slot low some) no_number (λ _. refl) (omega (arith, total_is, ap length lowest_first))

    pub taken-flags : flags_in new after len ≡ set flags slot false
    taken-flags = flags-set same tree leaf (lowest_free slot low some) no_number

    pub taken-lowest : free_places flags ≡ slot ∷ free_places (flags_in new after len)
    taken-lowest = rw taken-flags lowest_first

  -- a slot is added behind the others
  module _ {new : List ℕ} {after : ℕ} (same : after ≡ room) (fits : len < room) (small : length flags < NO_SLOT)
      (tree : IsTree new room) (leaf : LeafSet len len room nodes new) where
    pub added-flags : flags_in new after (len + 1) ≡ flags ++ true ∷ []
    added-flags = rw same (flags_in-by new room (len + 1) (flags ++ true ∷ []) (length_push flags true ∙ ap (λ n. n + 1) flags_size)
        (λ s lt. elim (cases_eq s len) [
          | inl last ↦
              let here = ap (λ k. tree_node new (room + k)) last ∙ leaf.this ∙ sym last in
              get_or_push flags true false s (flags_size ∙ sym last) ∙ sym (eq-eqb _ _ here)
          | inr other ↦
              let there : s < length flags = omega (arith, flags_size) in
              get_or_append_left flags (true ∷ []) false s there ∙ flag_at s (omega arith)
              ∙ ap (λ v. v == s) (sym (leaf.others s (omega arith) other))
        ]))

    pub added-keeps : KeepsFree new after (len + 1) (total + 1)
    added-keeps = rw same (record {
      tree = tree;
      within = omega arith;
      numbers = omega (arith, flags_size, small);
      leaves = λ s lt other. elim (cases_eq s len) [
        | inl last ↦ absurd (other (ap (λ k. tree_node new (room + k)) last ∙ leaf.this ∙ sym last))
        | inr apart ↦
            let here = leaf.others s (omega arith) apart in here ∙ keeps.leaves s (omega arith) (λ own. other (here ∙ own))
      ];
      none = λ s past in_room. leaf.others s in_room (λ last. absurd (omega arith)) ∙ keeps.none s (omega arith) in_room;
      count =
          let pushed = ap length (free_from-append 0 (0 + length flags) flags (true ∷ []) refl) in
          rw (← same, added-flags) (omega (arith, pushed, length_push (free_places flags) (0 + length flags), total_is));
    })

  -- there is more room
  module _ {wide : List ℕ} {more : ℕ} (larger : room ≤ more) (tree : IsTree wide more) (leaves : Widens room more nodes wide) where
    pub widened-flags : flags_in wide more len ≡ flags
    widened-flags =
        let w = keeps.within in
        flags_in-by wide more len flags flags_size
        (λ s lt. flag_at s lt ∙ ap (λ v. v == s) (sym (leaves.kept s (omega arith))))

    pub widened-keeps : KeepsFree wide more len total
    widened-keeps =
        let w = keeps.within in
        record {
          tree = tree;
          within = omega arith;
          numbers = keeps.numbers;
          leaves = λ s lt other.
              let here = leaves.kept s (omega arith) in here ∙ keeps.leaves s lt (λ own. other (here ∙ own));
          none = λ s past in_wide. elim (cases_lt s room) [
            | inl in_room ↦ leaves.kept s in_room ∙ keeps.none s past in_room
            | inr out ↦ leaves.none s out in_wide
          ];
          count = rw widened-flags total_is;
        }

pub ruleset put_back_laws = (slot_within, total_below, put_back-flags)

pub ruleset take_laws = (lowest_within, lowest_free, taken-keeps, taken-lowest, taken-flags)

pub ruleset widen_laws = (total-le, widened-keeps)
