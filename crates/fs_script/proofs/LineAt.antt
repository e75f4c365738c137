-- The line of a number, by its place in the list.
use Rattle.fs_types.proofs.Common.{◌≡◌, ℕ, zero, suc, ◌-◌, ◌≤◌, List, length, Bor, Option, Some, None, refl, sym, ap, arith, slice_get}
use Rattle.fs_types.proofs.Common.{option_copied, IsItemAt, slice_get_past, slice_get_read}
use Rattle.fs_script.specs.Vocabulary.{Job, line_at}

pub line_at_place : (s : Job) (n k : ℕ) → 2 ≤ n → k ≡ n - 2 → line_at s n ≡ slice_get s.lines k
line_at_place s zero k le is = absurd (omega arith)
line_at_place s (suc zero) k le is = absurd (omega arith)
line_at_place s (suc (suc n)) k le is = let same : n ≡ k = omega arith in ap (λ i. slice_get s.lines i) same

pub copied_is : {X : Type 0} (xs : List X) (i : ℕ) (r : Option (Bor X)) → IsItemAt xs i r → option_copied r ≡ slice_get xs i
copied_is xs i None h = sym (slice_get_past xs i h.3)
copied_is xs i (Some x) h = sym (slice_get_read xs (length xs) i x.now refl h.3.0 h.1)
