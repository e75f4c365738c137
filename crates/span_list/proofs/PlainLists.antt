-- Plain lists: what holds of each pair of elements, and counts.
use Rattle.std.specs.Prelude.{AllPairs}
use Rattle.std.proofs.lemmas.List.Kept.{AllPairs-cons}
use Rattle.std.specs.List.{splice}
use Rattle.std.proofs.lemmas.List.{take_at}
use Rattle.std.proofs.lemmas.Slice.{drop-append-drop}
use Rattle.fs_types.proofs.Common.{◌≡◌, ℕ, ◌+◌, ◌≤◌, take, drop, length, append_assoc, length-append, length-take-le}
use Rattle.fs_types.proofs.Common.{suc, List, [], ◌∷◌, ◌++◌, All, flat_map, arith}
use Rattle.fs_types.proofs.Common.{All-append, All-nil, All-head, All-tail}

pub AllPairs-nil : {X : Type 0} (R : X → X → Type 0) → AllPairs R []
AllPairs-nil R = λ i j d below within. let no : ⊥ = omega (arith, within) in absurd no

pub AllPairs-one : {X : Type 0} (R : X → X → Type 0) (x : X) → AllPairs R (x ∷ [])
AllPairs-one R x = AllPairs-cons R x [] (All-nil (R x)) (AllPairs-nil R)

pub AllPairs-head : {X : Type 0} (R : X → X → Type 0) (x : X) (xs : List X) → AllPairs R (x ∷ xs) → All (R x) xs
AllPairs-head R x xs pairs = λ k d within. pairs 0 (suc k) d (omega arith) (omega (arith, within))

pub AllPairs-tail : {X : Type 0} (R : X → X → Type 0) (x : X) (xs : List X) → AllPairs R (x ∷ xs) → AllPairs R xs
AllPairs-tail R x xs pairs = λ i j d below within. pairs (suc i) (suc j) d (omega (arith, below)) (omega (arith, within))

pub AllPairs-append : {X : Type 0} (R : X → X → Type 0) (xs ys : List X)
    → AllPairs R xs → AllPairs R ys → All (λ x. All (R x) ys) xs → AllPairs R (xs ++ ys)
AllPairs-append R [] ys of_xs of_ys across = of_ys
AllPairs-append R (x ∷ xs) ys of_xs of_ys across =
    AllPairs-cons R x (xs ++ ys)
    (All-append (R x) xs ys (AllPairs-head R x xs of_xs) (All-head (λ x. All (R x) ys) x xs across))
    (AllPairs-append R xs ys (AllPairs-tail R x xs of_xs) of_ys (All-tail (λ x. All (R x) ys) x xs across))

pub All-flat_map : {X Y : Type 0} (P : Y → Type 0) (f : X → List Y) (xs : List X) → All (λ x. All P (f x)) xs → All P (flat_map f xs)
All-flat_map P f [] each = All-nil P
All-flat_map P f (x ∷ xs) each =
    All-append P (f x) (flat_map f xs) (All-head (λ x. All P (f x)) x xs each)
    (All-flat_map P f xs (All-tail (λ x. All P (f x)) x xs each))

-- a list that is spliced, and again from behind what was put there on, is spliced once with both
pub splice-splice : {X : Type 0} (xs ys zs : List X) (i j k : ℕ) → i + length ys ≡ j → j ≤ length xs → j ≤ k
    → splice (splice xs i j ys) j k zs ≡ splice xs i k (ys ++ zs)
splice-splice {X = X} xs ys zs i j k ends within order =
    let front : List X = take i xs ++ ys in
    let count : length front ≡ j = omega (arith, length-append (take i xs) ys, length-take-le i xs (omega arith)) in
    grind (
      arith,
      append_assoc,
      append_assoc (take i xs) ys (drop j xs),
      take_at front (drop j xs) j count,
      drop-append-drop j xs front k order count,
    )
