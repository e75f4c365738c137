-- A run behind others, by the last of them.
use Rattle.fs_types.proofs.Common.{refl, ◌≡◌, ℕ, zero, suc, true, false, List, [], ◌∷◌, ◌++◌, length, get_or, set, ◌∙◌, sym, ap, arith}
use Rattle.fs_types.proofs.Common.{cond-true, cond-false}
use Rattle.fs_script.specs.Vocabulary.{Fragment, goes_on}
use Rattle.core_machine.specs.ReadRuns.{joined, with_last}

-- where the last goes on in it, one with the last
pub with_last-joined : (fs : List Fragment) (n : ℕ) (f g : Fragment) → length fs ≡ suc n → f ≡ get_or fs n f → goes_on f g ≡ true
    → set fs n (joined f g) ≡ with_last fs g
with_last-joined [] n f g size is on = absurd (omega (arith, size))
with_last-joined (e ∷ []) zero f g size is on =
    sym (cond-true (goes_on e g) _ _ (ap (λ h. goes_on h g) (sym is) ∙ on) ∙ ap (λ h. joined h g ∷ []) (sym is))
with_last-joined (e ∷ []) (suc n) f g size is on = absurd (omega (arith, size))
with_last-joined (e ∷ h ∷ fs) zero f g size is on = absurd (omega (arith, size))
with_last-joined (e ∷ h ∷ fs) (suc n) f g size is on = ap (λ us. e ∷ us) (with_last-joined (h ∷ fs) n f g (omega (arith, size)) is on)

-- where it doesn't, it stands behind them
pub with_last-apart : (fs : List Fragment) (n : ℕ) (f g : Fragment) → length fs ≡ suc n → f ≡ get_or fs n f → goes_on f g ≡ false
    → set fs n f ++ g ∷ [] ≡ with_last fs g
with_last-apart [] n f g size is off = absurd (omega (arith, size))
with_last-apart (e ∷ []) zero f g size is off =
    ap (λ h. h ∷ g ∷ []) is ∙ sym (cond-false (goes_on e g) _ _ (ap (λ h. goes_on h g) (sym is) ∙ off))
with_last-apart (e ∷ []) (suc n) f g size is off = absurd (omega (arith, size))
with_last-apart (e ∷ h ∷ fs) zero f g size is off = absurd (omega (arith, size))
with_last-apart (e ∷ h ∷ fs) (suc n) f g size is off = ap (λ us. e ∷ us) (with_last-apart (h ∷ fs) n f g (omega (arith, size)) is off)

pub with_last-none : (fs : List Fragment) (g : Fragment) → length fs ≡ 0 → fs ++ g ∷ [] ≡ with_last fs g
with_last-none [] g none = refl
with_last-none (e ∷ fs) g none = absurd (omega (arith, none))
