-- Servers and their distances from the root name each other, and a distance is that of one child of one server.
use Rattle.fs_types.proofs.Common.{◌≡◌, ◌≢◌, ◌⊎◌, ℕ, ◌+◌, ◌-◌, ◌*◌, ◌/◌, ◌%◌, ◌<◌, ◌≤◌, Bool, true, false, nat_lt, Some, None}
use Rattle.fs_types.proofs.Common.{arith, inl, inr, refl, ap, sym, ◌∙◌, same_Some, cases_lt, lt-ltb, ltb-true, cond-true, div-le_self}
use Rattle.fs_types.proofs.Common.{if◌then◌else◌}
use Rattle.std.proofs.Math.Nat.{add-mod_left, add-zero, div-add-mod, mod-eq_of_lt, mul_comm}
use Rattle.std.proofs.lemmas.Nat.{div-mul-add, mod_below}
use Rattle.placement.specs.ChildLaws.{IsChild, OthersHaveOneParent, RootHasNoParent}
use Rattle.placement.specs.Placement.{child_of, distance_of}

-- what is left modulo n of a number below n, and of one below twice n
mod-cases : (k n : ℕ) → k < n + n → ((k < n) × (k % n ≡ k)) ⊎ ((n ≤ k) × (k % n ≡ k - n))
mod-cases k n h = elim (cases_lt k n) [
  | inl below ↦ inl (below, mod-eq_of_lt below)
  | inr past ↦
      let split : k ≡ n + (k - n) = omega arith in
      let rest : k - n < n = omega arith in
      inr (past, ap (λ m. m % n) split ∙ add-mod_left n (k - n) ∙ mod-eq_of_lt rest)
]

-- the server so far from the root
abbrev server_at : ℕ → ℕ → ℕ → ℕ
server_at root servers distance = (root + distance) % servers

server-at_distance : (root servers server : ℕ) → root < servers → server < servers
    → server_at root servers (distance_of root servers server) ≡ server
server-at_distance root servers server r s = elim (mod-cases (server + (servers - root)) servers (omega arith)) [
  | inl near ↦ ap (λ d. (root + d) % servers) near.1 ∙ elim (mod-cases (root + (server + (servers - root))) servers (omega arith)) [
    | inl short ↦ absurd (omega arith)
    | inr round ↦ round.1 ∙ (omega arith)
  ]
  | inr far ↦ ap (λ d. (root + d) % servers) far.1
      ∙ elim (mod-cases (root + (server + (servers - root) - servers)) servers (omega arith)) [
        | inl short ↦ short.1 ∙ (omega arith)
        | inr round ↦ absurd (omega arith)
      ]
]

distance-of_server_at : (root servers distance : ℕ) → root < servers → distance < servers
    → distance_of root servers (server_at root servers distance) ≡ distance
distance-of_server_at root servers distance r d = elim (mod-cases (root + distance) servers (omega arith)) [
  | inl short ↦ ap (λ s. (s + (servers - root)) % servers) short.1
      ∙ elim (mod-cases (root + distance + (servers - root)) servers (omega arith)) [
        | inl near ↦ absurd (omega arith)
        | inr far ↦ far.1 ∙ (omega arith)
      ]
  | inr round ↦ ap (λ s. (s + (servers - root)) % servers) round.1
      ∙ elim (mod-cases (root + distance - servers + (servers - root)) servers (omega arith)) [
        | inl near ↦ near.1 ∙ (omega arith)
        | inr far ↦ absurd (omega arith)
      ]
]

-- a child is arity times as far from the root as its parent, and i further
child-distance : {root arity servers server parent i : ℕ} → root < servers → IsChild root arity servers server parent i
    → distance_of root servers server ≡ arity * distance_of root servers parent + i
child-distance {root} {arity} {servers} {server} {parent} {i} r is = by (nat_lt distance servers) refl is.child
  where
    distance : ℕ
    distance = arity * distance_of root servers parent + i

    by : (b : Bool) → nat_lt distance servers ≡ b → (if b then Some (server_at root servers distance) else None) ≡ Some server
        → distance_of root servers server ≡ distance
    by true e h =
        ap (distance_of root servers) (sym (same_Some _ _ h)) ∙ distance-of_server_at root servers distance r (ltb-true _ _ e)
    by false e h = absurd cc

pub root-has_no_parent : RootHasNoParent
root-has_no_parent root arity servers q i r is =
    let here : distance_of root servers root ≡ 0 = elim (mod-cases (root + (servers - root)) servers (omega arith)) [
      | inl near ↦ absurd (omega arith)
      | inr far ↦ far.1 ∙ (omega arith)
    ] in
    omega (arith, child-distance r is, is.from_one)

-- a number is a multiple of `a` and from 1 to `a` more in one way
once : (a x y i j : ℕ) → 1 ≤ i → i ≤ a → 1 ≤ j → j ≤ a → a * x + i ≡ a * y + j → (x ≡ y) × (i ≡ j)
once a x y i j i1 ia j1 ja e =
    let apart : x * a + (i - 1) ≡ y * a + (j - 1) = omega (arith, mul_comm a x, mul_comm a y) in
    let same : x ≡ y = sym (div-mul-add x a (i - 1) (omega arith)) ∙ ap (λ k. k / a) apart ∙ div-mul-add y a (j - 1) (omega arith) in
    (same, omega (arith, ap (λ k. a * k) same))

-- a server that is as far from the root as child i of another is that child
child-at : (root arity servers server parent i : ℕ) → root < servers → server < servers
    → arity * distance_of root servers parent + i ≡ distance_of root servers server → child_of root parent arity servers i ≡ Some server
child-at root arity servers server parent i r s e =
    ap (λ d. if nat_lt d servers then Some (server_at root servers d) else None) e
    ∙ cond-true _ _ _ (lt-ltb _ _ (mod_below _ servers (omega arith))) ∙ ap Some (server-at_distance root servers server r s)

pub others-have_one_parent : OthersHaveOneParent
others-have_one_parent root arity servers server r a s other =
    let distance = distance_of root servers server in
    let below : distance < servers = mod_below _ servers (omega arith) in
    let apart : distance ≢ 0 = λ none. other (sym (server-at_distance root servers server r s)
    ∙ ap (λ d. (root + d) % servers) none ∙ ap (λ k. k % servers) (add-zero root) ∙ mod-eq_of_lt r) in
    let far : 1 ≤ distance = omega arith in
    let x = (distance - 1) / arity in
    let i = (distance - 1) % arity + 1 in
    let parent = server_at root servers x in
    let rest : (distance - 1) % arity < arity = mod_below _ arity a in
    let split : arity * x + i ≡ distance = omega (arith, div-add-mod (distance - 1) arity) in
    let nearer : x < distance = omega (arith, div-le_self (distance - 1) arity) in
    let back : distance_of root servers parent ≡ x = distance-of_server_at root servers x r (omega arith) in
    record {
      parent = parent;
      i = i;
      is_child = record {
        parent_below = mod_below _ servers (omega arith);
        from_one = omega arith;
        to_arity = omega arith;
        child = child-at root arity servers server parent i r s (ap (λ d. arity * d + i) back ∙ split);
      };
      nearer = omega arith;
      only = λ q j is.
          let both = once arity (distance_of root servers q) x j i is.from_one is.to_arity (omega arith) (omega arith)
          (sym (child-distance r is) ∙ sym split) in
          (sym (server-at_distance root servers q r is.parent_below) ∙ ap (λ d. (root + d) % servers) both.0, both.1);
    }
