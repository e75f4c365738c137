-- Logs by their slots: which pieces are in them, how many slots are free, and what a log has once pieces were put into free ones.
use Rattle.fs_types.proofs.Common.{◌≡◌, ℕ, zero, suc, ◌+◌, ◌≤◌, ◌<◌, Bool, true, false, List, [], ◌∷◌, map, length, count_by, slice_get}
use Rattle.fs_types.proofs.Common.{Option, Some, None, is_some, slice_set, filter_map, list_any, AllByRecursion, Contains, ◌⊎◌, inl, inr}
use Rattle.fs_types.proofs.Common.{refl, sym, ap, ◌∙◌, subst, arith, cases_eq, none-some, same_Some, or_cases, true≢false}
use Rattle.fs_types.proofs.Common.{false_from_ne_true}
use Rattle.fs_types.proofs.Common.{sum_by-cons, IsDistinct, slice_get_within, get_or_from_slice_get, slice_get-get_or, length-set, cond}
use Rattle.fs_types.proofs.Common.{◌||◌}
use Rattle.std.specs.Prelude.{is_none}
use Rattle.std.proofs.Math.Bool.{or-true}
use Rattle.std.proofs.lemmas.Map.Keys.{IsDistinct-cons, IsDistinct-from_apart}
use Rattle.fs_types.specs.Fragments.{piece_eq}
use Rattle.fs_script.specs.Vocabulary.{Piece}
use Rattle.slot_plain.specs.FreePlaces.{free_from}
use Rattle.core_machine.specs.Vocabulary.{empty_slots, with_pieces}
use Rattle.fs_script.proofs.CallerLemmas.{slice_get-set_same, slice_get-set_other, same_piece, piece_eq_equiv}

-- ---- a list's element and its place

pub Contains-at : {X : Type 0} (xs : List X) (k : ℕ) (x : X) → slice_get xs k ≡ Some x → Contains xs x
Contains-at xs k x at = (k, slice_get_within xs k x at, get_or_from_slice_get xs k x x at)

pub place-of : {X : Type 0} (xs : List X) (x : X) → Contains xs x → (k : ℕ) × (slice_get xs k ≡ Some x)
place-of xs x has = (has.0, slice_get-get_or xs has.0 x has.1 ∙ ap Some has.2)

-- 1 where a test passes
abbrev pub one_if : Bool → ℕ
one_if b = cond b 1 0

-- ---- the pieces in a log

abbrev pub pieces_of_log : List (Option Piece) → List Piece
pieces_of_log log = filter_map (λ slot. slot) log

pub held_and_free : (n : ℕ) (log : List (Option Piece)) → length (pieces_of_log log) + length (free_from n (map is_none log)) ≡ length log
held_and_free n [] = refl
held_and_free n (None ∷ log) = omega (arith, held_and_free (suc n) log)
held_and_free n (Some x ∷ log) = omega (arith, held_and_free (suc n) log)

pub count-pieces_of_log : (log : List (Option Piece)) → count_by is_some log ≡ length (pieces_of_log log)
count-pieces_of_log [] = refl
count-pieces_of_log (None ∷ log) =
    omega (arith, count-pieces_of_log log, sum_by-cons (λ (slot : Option Piece). one_if (is_some slot)) None log)
count-pieces_of_log (Some x ∷ log) =
    omega (arith, count-pieces_of_log log, sum_by-cons (λ (slot : Option Piece). one_if (is_some slot)) (Some x) log)

-- a piece is among them where some slot has it
pub slot-of_piece : (x : Piece) (log : List (Option Piece)) → list_any (piece_eq x) (pieces_of_log log) ≡ true
    → (k : ℕ) × (slice_get log k ≡ Some (Some x))
slot-of_piece x [] h = absurd (true≢false (sym h))
slot-of_piece x (None ∷ log) h = let r = slot-of_piece x log h in (suc r.0, r.1)
slot-of_piece x (Some y ∷ log) h = elim (or_cases (piece_eq x y) (list_any (piece_eq x) (pieces_of_log log)) h) [
  | inl same ↦ (0, ap (λ z. Some (Some z)) (sym (same_piece x y same)))
  | inr later ↦ let r = slot-of_piece x log later in (suc r.0, r.1)
]

pub piece-in_slot : (x : Piece) (log : List (Option Piece)) (k : ℕ) → slice_get log k ≡ Some (Some x)
    → list_any (piece_eq x) (pieces_of_log log) ≡ true
piece-in_slot x [] k at = absurd (none-some (Some x) at)
piece-in_slot x (slot ∷ log) zero at = first slot (same_Some slot (Some x) at) where
  first : (y : Option Piece) → y ≡ Some x → list_any (piece_eq x) (pieces_of_log (y ∷ log)) ≡ true
  first None e = absurd (none-some x e)
  first (Some y) e =
      ap (λ b. b || list_any (piece_eq x) (pieces_of_log log)) (ap (piece_eq x) (same_Some y x e) ∙ piece_eq_equiv.refl x)
piece-in_slot x (None ∷ log) (suc k) at = piece-in_slot x log k at
piece-in_slot x (Some y ∷ log) (suc k) at =
    ap (λ b. piece_eq x y || b) (piece-in_slot x log k at) ∙ or-true (piece_eq x y)

-- no piece is in two slots
abbrev pub IsOnce : List (Option Piece) → Type 0
IsOnce log = (i j : ℕ) (x : Piece) → slice_get log i ≡ Some (Some x) → slice_get log j ≡ Some (Some x) → i ≡ j

-- where no slot has a piece, the others are different
others_differ : (x : Piece) (log : List (Option Piece)) → ((k : ℕ) → slice_get log k ≡ Some (Some x) → ⊥)
    → AllByRecursion (λ y. piece_eq x y ≡ false) (pieces_of_log log)
others_differ x [] none = tt
others_differ x (None ∷ log) none = others_differ x log (λ k. none (suc k))
others_differ x (Some y ∷ log) none = (
  false_from_ne_true (piece_eq x y) (λ same. none 0 (ap (λ z. Some (Some z)) (sym (same_piece x y same)))),
  others_differ x log (λ k. none (suc k)),
)

pub IsDistinct-pieces_of_log : (log : List (Option Piece)) → IsOnce log → IsDistinct piece_eq (pieces_of_log log)
IsDistinct-pieces_of_log [] once = IsDistinct-from_apart piece_eq [] (λ i j d before below. absurd (omega arith))
IsDistinct-pieces_of_log (None ∷ log) once =
    IsDistinct-pieces_of_log log (λ i j x at there. (let e = once (suc i) (suc j) x at there in omega arith))
IsDistinct-pieces_of_log (Some x ∷ log) once =
    IsDistinct-cons piece_eq x (pieces_of_log log) (others_differ x log (λ k at. (let e = once 0 (suc k) x refl at in omega arith)))
    (IsDistinct-pieces_of_log log (λ i j y at there. (let e = once (suc i) (suc j) y at there in omega arith)))

-- ---- free slots

-- these slots are free, and rise
abbrev pub AreFree : List ℕ → List (Option Piece) → Type 0
AreFree [] log = Unit {0}
AreFree (i ∷ is) log = (slice_get log i ≡ Some None) × AllByRecursion (λ j. i < j) is × AreFree is log

-- so are those that are left once something is in one below them
AreFree-set : (i : ℕ) (slot : Option Piece) (is : List ℕ) (log : List (Option Piece)) → AllByRecursion (λ j. i < j) is → AreFree is log
    → AreFree is (slice_set log i slot)
AreFree-set i slot [] log above free = tt
AreFree-set i slot (j ∷ is) log above free = (
  slice_get-set_other log i j slot (λ e. (let less = above.0 in omega arith)) ∙ free.0,
  free.1,
  AreFree-set i slot is log above.1 free.2,
)

-- with one slot more before a log, its free slots are each one place further
free_from-suc : (n : ℕ) (flags : List Bool) → free_from (suc n) flags ≡ map suc (free_from n flags)
free_from-suc n [] = refl
free_from-suc n (true ∷ rest) = ap (λ is. suc n ∷ is) (free_from-suc (suc n) rest)
free_from-suc n (false ∷ rest) = free_from-suc (suc n) rest

above-suc : (i : ℕ) (is : List ℕ) → AllByRecursion (λ j. i < j) is → AllByRecursion (λ j. suc i < j) (map suc is)
above-suc i [] above = tt
above-suc i (j ∷ is) above = (let less = above.0 in omega arith, above-suc i is above.1)

above_zero : (is : List ℕ) → AllByRecursion (λ j. 0 < j) (map suc is)
above_zero [] = tt
above_zero (j ∷ is) = (omega arith, above_zero is)

AreFree-suc : (slot : Option Piece) (is : List ℕ) (log : List (Option Piece)) → AreFree is log → AreFree (map suc is) (slot ∷ log)
AreFree-suc slot [] log free = tt
AreFree-suc slot (i ∷ is) log free = (free.0, above-suc i is free.1, AreFree-suc slot is log free.2)

pub AreFree-empty_slots : (log : List (Option Piece)) → AreFree (empty_slots log) log
AreFree-empty_slots [] = tt
AreFree-empty_slots (None ∷ log) =
    subst (λ is. AreFree (0 ∷ is) (None ∷ log)) (sym (free_from-suc 0 (map is_none log)))
    (refl, above_zero (empty_slots log), AreFree-suc None (empty_slots log) log (AreFree-empty_slots log))
AreFree-empty_slots (Some x ∷ log) =
    subst (λ is. AreFree is (Some x ∷ log)) (sym (free_from-suc 0 (map is_none log)))
    (AreFree-suc (Some x) (empty_slots log) log (AreFree-empty_slots log))

-- ---- pieces put into free slots

pub length-with_pieces : (is : List ℕ) (xs : List Piece) (log : List (Option Piece)) → length (with_pieces is xs log) ≡ length log
length-with_pieces [] xs log = refl
length-with_pieces (i ∷ is) [] log = refl
length-with_pieces (i ∷ is) (x ∷ xs) log = length-with_pieces is xs (slice_set log i (Some x)) ∙ length-set log i (Some x)

-- a slot with a piece keeps it
pub with_pieces-keeps : (is : List ℕ) (xs : List Piece) (log : List (Option Piece)) (k : ℕ) (y : Piece) → AreFree is log
    → slice_get log k ≡ Some (Some y) → slice_get (with_pieces is xs log) k ≡ Some (Some y)
with_pieces-keeps [] xs log k y free at = at
with_pieces-keeps (i ∷ is) [] log k y free at = at
with_pieces-keeps (i ∷ is) (x ∷ xs) log k y free at =
    let other : k ≡ i → ⊥ = λ e. none-some y (same_Some None (Some y) (sym free.0 ∙ ap (slice_get log) (sym e) ∙ at)) in
    with_pieces-keeps is xs (slice_set log i (Some x)) k y (AreFree-set i (Some x) is log free.1 free.2)
    (slice_get-set_other log i k (Some x) other ∙ at)

-- a piece in a slot was there, or is one of those put, in its slot
pub with_pieces-cases : (is : List ℕ) (xs : List Piece) (log : List (Option Piece)) (k : ℕ) (y : Piece) → AreFree is log
    → slice_get (with_pieces is xs log) k ≡ Some (Some y)
    → (slice_get log k ≡ Some (Some y)) ⊎ ((j : ℕ) × (slice_get is j ≡ Some k) × (slice_get xs j ≡ Some y))
with_pieces-cases [] xs log k y free at = inl at
with_pieces-cases (i ∷ is) [] log k y free at = inl at
with_pieces-cases (i ∷ is) (x ∷ xs) log k y free at =
    elim (with_pieces-cases is xs (slice_set log i (Some x)) k y (AreFree-set i (Some x) is log free.1 free.2) at) [
      | inr put ↦ inr (suc put.0, put.1, put.2)
      | inl old ↦ elim (cases_eq k i) [
        | inl here ↦
            let stands = slice_get-set_same log i (Some x) (slice_get_within log i None free.0) in
            let same = ap (slice_get (slice_set log i (Some x))) (sym here) in
            inr (0, ap Some (sym here), same_Some (Some x) (Some y) (sym stands ∙ same ∙ old))
        | inr other ↦ inl (sym (slice_get-set_other log i k (Some x) other) ∙ old)
      ]
    ]

-- where there is room, each of those put is in a slot
pub with_pieces-all : (is : List ℕ) (xs : List Piece) (log : List (Option Piece)) (j : ℕ) (y : Piece) → AreFree is log
    → length xs ≤ length is → slice_get xs j ≡ Some y → (k : ℕ) × (slice_get (with_pieces is xs log) k ≡ Some (Some y))
with_pieces-all is [] log j y free room at = absurd (none-some y at)
with_pieces-all [] (x ∷ xs) log j y free room at = absurd (omega arith)
with_pieces-all (i ∷ is) (x ∷ xs) log zero y free room at =
    let stands = slice_get-set_same log i (Some x) (slice_get_within log i None free.0) in (
      i,
      with_pieces-keeps is xs (slice_set log i (Some x)) i y (AreFree-set i (Some x) is log free.1 free.2)
          (stands ∙ ap Some at),
    )
with_pieces-all (i ∷ is) (x ∷ xs) log (suc j) y free room at =
    with_pieces-all is xs (slice_set log i (Some x)) j y (AreFree-set i (Some x) is log free.1 free.2) (omega arith) at

-- no piece is twice in it, where those put are distinct, and none of them was there
pub IsOnce-with_pieces : (is : List ℕ) (xs : List Piece) (log : List (Option Piece)) → AreFree is log → IsOnce log
    → ((i j : ℕ) (x : Piece) → slice_get xs i ≡ Some x → slice_get xs j ≡ Some x → i ≡ j)
    → ((i j : ℕ) (x : Piece) → slice_get log i ≡ Some (Some x) → slice_get xs j ≡ Some x → ⊥) → IsOnce (with_pieces is xs log)
IsOnce-with_pieces is xs log free once distinct apart i j x at there =
    let first = with_pieces-cases is xs log i x free at in
    let second = with_pieces-cases is xs log j x free there in
    by first second
  where
    by : (slice_get log i ≡ Some (Some x)) ⊎ ((a : ℕ) × (slice_get is a ≡ Some i) × (slice_get xs a ≡ Some x))
        → (slice_get log j ≡ Some (Some x)) ⊎ ((b : ℕ) × (slice_get is b ≡ Some j) × (slice_get xs b ≡ Some x)) → i ≡ j
    by (inl old) (inl older) = once i j x old older
    by (inl old) (inr put) = absurd (apart i put.0 x old put.2)
    by (inr put) (inl old) = absurd (apart j put.0 x old put.2)
    by (inr put) (inr other) =
        same_Some i j (sym put.1 ∙ ap (slice_get is) (distinct put.0 other.0 x put.2 other.2) ∙ other.1)
