-- A value for each of some paths, and what changes at one of them.
use Rattle.std.specs.Global.{Global}
use Rattle.std.specs.Prelude.{◌≡◌, ◌≢◌, ℕ, List, Option, Vec}
use Rattle.std.specs.Map.{lookup}
use Rattle.std.specs.Str.{bytes_eq}

-- the values of a map, each under the bytes of its path
abbrev pub Entries : Type 0 → Type 0
Entries T = List (Vec ℕ Global × T)

-- the value for a path
unfoldable pub entry_at : {T : Type 0} → Entries T → List ℕ → Option T
entry_at m p = lookup (λ q. bytes_eq p q.items) m

module _ {X : Type 0} where
  -- at one path there is this now, and at every other what was there before
  pub record Changes (before after : List ℕ → X) (p : List ℕ) (x : X) : Type 0 where
    pub there : after p ≡ x
    pub others : (q : List ℕ) → q ≢ p → after q ≡ before q

  -- at every path there is what was there before
  abbrev pub IsAsBefore : (List ℕ → X) → (List ℕ → X) → Type 0
  IsAsBefore before after = (q : List ℕ) → after q ≡ before q
