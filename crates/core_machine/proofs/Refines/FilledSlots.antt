-- Pieces that go into slots of a log: what each slot has then.
use Rattle.fs_types.proofs.Common.{◌≡◌, ◌≢◌, ℕ, zero, suc, ◌+◌, ◌-◌, ◌<◌, ◌≤◌, Bool, true, false, List, [], ◌∷◌, length, set, get_or, slice_get}
use Rattle.fs_types.proofs.Common.{Option, Some, None, none-some, same_Some, refl, sym, ap, ◌∙◌, arith, length-set, get_or-set_same, get_or-set_other}
use Rattle.slot_plain.specs.FreePlaces.{free_places, free_from}
use Rattle.fs_script.specs.Vocabulary.{Piece}
use Rattle.core_machine.specs.Slots.{with_pieces}

-- ---- free places rise

-- a free place stands behind those before it, and is one of the list
record IsFreePlace (n : ℕ) (flags : List Bool) (m : ℕ) : Type 0 where
  from : n ≤ m
  below : m < n + length flags
  flag : get_or flags (m - n) false ≡ true

free_from-at : (n : ℕ) (flags : List Bool) (p m : ℕ) → slice_get (free_from n flags) p ≡ Some m → IsFreePlace n flags m
free_from-at n [] p m at = absurd (none-some m at)
free_from-at n (true ∷ rest) zero m at =
    let here : n ≡ m = same_Some n m at in
    let none : m - n ≡ 0 = omega (arith, here) in
    record { from = omega (arith, here); below = omega (arith, here); flag = ap (λ k. get_or (true ∷ rest) k false) none }
free_from-at n (true ∷ rest) (suc p) m at =
    let h = free_from-at (suc n) rest p m at in
    let from = h.from in
    let step : m - n ≡ suc (m - suc n) = omega (arith, from) in
    record { from = omega (arith, from); below = omega (arith, h.below); flag = ap (λ k. get_or (true ∷ rest) k false) step ∙ h.flag }
free_from-at n (false ∷ rest) p m at =
    let h = free_from-at (suc n) rest p m at in
    let from = h.from in
    let step : m - n ≡ suc (m - suc n) = omega (arith, from) in
    record { from = omega (arith, from); below = omega (arith, h.below); flag = ap (λ k. get_or (false ∷ rest) k false) step ∙ h.flag }

-- so no place is among them twice
free_from-once : (n : ℕ) (flags : List Bool) (p k m : ℕ) → slice_get (free_from n flags) p ≡ Some m → slice_get (free_from n flags) k ≡ Some m
    → p ≡ k
free_from-once n [] p k m at here = absurd (none-some m at)
free_from-once n (true ∷ rest) zero zero m at here = refl
free_from-once n (true ∷ rest) zero (suc k) m at here =
    absurd (let h = free_from-at (suc n) rest k m here in omega (arith, h.from, same_Some n m at))
free_from-once n (true ∷ rest) (suc p) zero m at here =
    absurd (let h = free_from-at (suc n) rest p m at in omega (arith, h.from, same_Some n m here))
free_from-once n (true ∷ rest) (suc p) (suc k) m at here = ap suc (free_from-once (suc n) rest p k m at here)
free_from-once n (false ∷ rest) p k m at here = free_from-once (suc n) rest p k m at here

pub free_places-once : (flags : List Bool) (p k m : ℕ) → slice_get (free_places flags) p ≡ Some m → slice_get (free_places flags) k ≡ Some m
    → p ≡ k
free_places-once flags = free_from-once 0 flags

pub free_places-at : (flags : List Bool) (p m : ℕ) → slice_get (free_places flags) p ≡ Some m
    → (m < length flags) × (get_or flags m false ≡ true)
free_places-at flags p m at =
    let h = free_from-at 0 flags p m at in
    let same : m - 0 ≡ m = omega arith in
    (omega (arith, h.below), ap (λ k. get_or flags k false) (sym same) ∙ h.flag)

-- ---- pieces in slots

abbrev pub Log_slots : Type 0
Log_slots = List (Option Piece)

-- a slot that no piece goes into has what it had
pub with_pieces-other : (is : List ℕ) (xs : List Piece) (log : Log_slots) (j : ℕ)
    → ((p : ℕ) → p < length xs → slice_get is p ≡ Some j → ⊥) → get_or (with_pieces is xs log) j None ≡ get_or log j None
with_pieces-other [] xs log j other = refl
with_pieces-other (i ∷ is) [] log j other = refl
with_pieces-other (i ∷ is) (x ∷ xs) log j other =
    let apart : j ≢ i = λ e. other 0 (omega arith) (ap Some (sym e)) in
    with_pieces-other is xs (set log i (Some x)) j (λ p below at. other (suc p) (omega (arith, below)) at)
    ∙ get_or-set_other log i j (Some x) None apart

-- and one that a piece goes into has that piece
pub with_pieces-at : (is : List ℕ) (xs : List Piece) (log : Log_slots) (p j : ℕ) (x : Piece)
    → ((a b : ℕ) (m : ℕ) → slice_get is a ≡ Some m → slice_get is b ≡ Some m → a ≡ b)
    → slice_get is p ≡ Some j → slice_get xs p ≡ Some x → j < length log → get_or (with_pieces is xs log) j None ≡ Some x
with_pieces-at [] xs log p j x once at there below = absurd (none-some j at)
with_pieces-at (i ∷ is) [] log p j x once at there below = absurd (none-some x there)
with_pieces-at (i ∷ is) (y ∷ xs) log zero j x once at there below =
    let here : i ≡ j = same_Some i j at in
    with_pieces-other is xs (set log i (Some y)) j (λ p _ again. absurd (let e = once 0 (suc p) j at again in omega (arith, e)))
    ∙ ap (λ k. get_or (set log i (Some y)) k None) (sym here)
    ∙ get_or-set_same log i (Some y) None (omega (arith, here, below)) ∙ ap Some (same_Some y x there)
with_pieces-at (i ∷ is) (y ∷ xs) log (suc p) j x once at there below =
    with_pieces-at is xs (set log i (Some y)) p j x (λ a b m one two. let e = once (suc a) (suc b) m one two in omega (arith, e)) at there
    (omega (arith, below, length-set log i (Some y)))
