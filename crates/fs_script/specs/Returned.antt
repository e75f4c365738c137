-- What the readers return beside what reading gives: the same, unless memory ran out.
use Rattle.std.specs.Prelude.{◌≡◌, ◌⊎◌, Result, Ok, Err}

-- what was returned, seen by view, is what reading gives, unless memory ran out
abbrev pub Gives : {X Y E : Type 0} → E → (X → Y) → Result X E → Result Y E → Type 0
Gives want view (Ok x) read = read ≡ Ok (view x)
Gives want view (Err e) read = (e ≡ want) ⊎ (read ≡ Err e)
