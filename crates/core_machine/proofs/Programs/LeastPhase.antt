-- The least of some numbers, and the phases of the lines that are done next.
use Rattle.fs_types.proofs.Common.{◌≡◌, ℕ, ◌≤◌, List, [], ◌∷◌, min, fold, Option, Some, None, slice_get}
use Rattle.fs_types.proofs.Common.{Contains, refl, ap, ◌∙◌, IfNone, IfSome, reduce}
use Rattle.fs_types.proofs.Common.{option_map, none-some, same_Some, slice_get-get_or, slice_get_within}
use Rattle.fs_types.proofs.Common.{get_or_from_slice_get, All-from_recursion}
use Rattle.fs_script.specs.Vocabulary.{Job, phase}
use Rattle.fs_script.proofs.CallerLemmas.{fold-min-le, fold-min-least, fold-min-there, filter_map-at, filter_map-from}
use Rattle.core_machine.specs.Vocabulary.{Program, IsLeast, next_of, next_phases}

pub none_least : (xs : List ℕ) → IfNone (reduce min xs) (xs ≡ [])
none_least [] = refl
none_least (x ∷ xs) = tt

pub IsLeast-from_reduce : (xs : List ℕ) → IfSome (reduce min xs) (IsLeast xs)
IsLeast-from_reduce [] = tt
IsLeast-from_reduce (x ∷ xs) = record {
  there = fold-min-there x xs;
  least = All-from_recursion (λ y. fold min x xs ≤ y) (x ∷ xs) (fold-min-le x xs, fold-min-least x xs);
}

-- ---- the phases of the lines that are done next

module _ (s : Job) (ps : List Program) where
  pub next_phases-at : (r : ℕ) (p : Program) (n : ℕ) → slice_get ps r ≡ Some p → next_of p ≡ Some n
      → Contains (next_phases s ps) (phase s n)
  next_phases-at r p n at next =
      let there = filter_map-at (λ q. option_map (phase s) (next_of q)) ps r p (phase s n) at (ap (option_map (phase s)) next) in (
        there.0,
        slice_get_within (next_phases s ps) there.0 (phase s n) there.1,
        get_or_from_slice_get (next_phases s ps) there.0 (phase s n) (phase s n) there.1,
      )

  phase-of : (x : Option ℕ) (k : ℕ) → option_map (phase s) x ≡ Some k → (n : ℕ) × (x ≡ Some n) × (phase s n ≡ k)
  phase-of None k is = absurd (none-some k is)
  phase-of (Some n) k is = (n, refl, same_Some (phase s n) k is)

  pub next_phases-from : (k : ℕ) → Contains (next_phases s ps) k
      → (r : ℕ) × (p : Program) × (n : ℕ) × (slice_get ps r ≡ Some p) × (next_of p ≡ Some n) × (phase s n ≡ k)
  next_phases-from k there =
      let at = slice_get-get_or (next_phases s ps) there.0 k there.1 ∙ ap Some there.2 in
      let from = filter_map-from (λ q. option_map (phase s) (next_of q)) ps there.0 k at in
      let line = phase-of (next_of from.1) k from.3 in
      (from.0, from.1, line.0, from.2, line.1, line.2)
