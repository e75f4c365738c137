-- The picks of a seed, one more at a time, and the place of the next one.
use Rattle.std.proofs.Common.{◌≡◌, ℕ, ◌+◌, ◌*◌, ◌/◌, ◌%◌, ◌^◌, List, ◌++◌, ◌∷◌, [], length, refl, sym, ap, ◌∙◌}
use Rattle.std.proofs.Common.{arith, add-one}
use Rattle.std.specs.Prelude.{max, unwrap_or}
use Rattle.std.specs.List.{slice_get}
use Rattle.std.proofs.Math.Nat.{mod-add-mod}
use Rattle.std.proofs.lemmas.List.FromFn.{map-range_with_len_more}
use Rattle.core_run.specs.Picks.{state_after, pick_number, first_picks}
use Rattle.core_run.specs.PickedRun.{pick_at}
use Rattle.core_run.specs.declared.picks.TheConstants.{MULTIPLIER}

-- one more step of the generator, as the code does it
pub state_after-more : (seed k state : ℕ) → state ≡ state_after seed k
    → (state * MULTIPLIER % 2 ^ 64 + seed) % 2 ^ 64 ≡ state_after seed (k + 1)
state_after-more seed k state is =
    mod-add-mod (state * MULTIPLIER) (2 ^ 64) seed ∙ ap (λ x. (x * MULTIPLIER + seed) % 2 ^ 64) is
    ∙ ap (state_after seed) (sym (add-one k))

-- and one more pick
pub first_picks-more : (seed k : ℕ) {state : ℕ} {picks : List ℕ} → picks ≡ first_picks seed k → state ≡ state_after seed (k + 1)
    → picks ++ (state / 2 ^ 32) ∷ [] ≡ first_picks seed (k + 1)
unfolding first_picks
first_picks-more seed k so_far is =
    rw (so_far, is) (sym (map-range_with_len_more (pick_number seed) 1 k (k + 1) (omega arith)))

-- the pick at the place that the code has come to
pub pick_at-place : (picks : List ℕ) (k : ℕ) → unwrap_or (slice_get picks (k % max (length picks) 1)) 0 ≡ pick_at picks k
pick_at-place [] k = refl
pick_at-place (p ∷ ps) k = ap (λ n. unwrap_or (slice_get (p ∷ ps) (k % n)) 0) (omega arith)
