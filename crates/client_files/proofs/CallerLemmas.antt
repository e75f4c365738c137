-- What callers need of the words of contracts: of the later of two versions, and of what changed at one path.
use Rattle.fs_types.proofs.Common.{◌≡◌, ◌≢◌, ◌⊎◌, ℕ, max, Bool, true, false, List, nat_le, bytes_eq, bytes_eq-Decides, refl}
use Rattle.fs_types.proofs.Common.{arith, inl, inr, ap, ◌∙◌, sym, true≢false, if◌then◌else◌}
use Rattle.std.proofs.lemmas.Bool.Decides.{nat_tests}
use Rattle.client_files.specs.Noted.{later_of}
use Rattle.client_files.specs.PathMap.{Changes}
use Rattle.client_files.specs.declared.noted.Noted.{Noted}

-- the later of two has the greater version
pub version-later_of : (a b : Noted) → (later_of a b).version ≡ max a.version b.version
version-later_of a b = grind (arith, nat_tests)

-- and is one of them
pub later_of-cases : (a b : Noted) → (later_of a b ≡ a) ⊎ (later_of a b ≡ b)
later_of-cases a b = by (nat_le b.version a.version)
  where
    by : (first : Bool) → ((if first then a else b) ≡ a) ⊎ ((if first then a else b) ≡ b)
    by true = inl refl
    by false = inr refl

-- a path is the one that changed, or has what it had
pub changed-cases : {X : Type 0} {before after : List ℕ → X} {p : List ℕ} {x : X} → Changes before after p x → (q : List ℕ)
    → ((q ≡ p) × (after q ≡ x)) ⊎ ((q ≢ p) × (after q ≡ before q))
changed-cases {X} {before} {after} {p} {x} changes q = by (bytes_eq q p) refl
  where
    by : (same : Bool) → bytes_eq q p ≡ same → ((q ≡ p) × (after q ≡ x)) ⊎ ((q ≢ p) × (after q ≡ before q))
    by true e = let same : q ≡ p = (bytes_eq-Decides q p).0 e in inl (same, ap after same ∙ changes.there)
    by false e =
        let apart : q ≢ p = λ same. true≢false (sym ((bytes_eq-Decides q p).1 same) ∙ e) in
        inr (apart, changes.others q apart)
