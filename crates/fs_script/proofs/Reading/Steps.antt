-- A step that gave a value, and what it gave.
use Rattle.std.proofs.Common.{◌≡◌, Bool, true, false, cond, Option, Some, None, Result, Ok, Err, ok_or, refl}
use Rattle.fs_script.specs.Reading.Steps.{◌>>=◌}

-- a step before another
pub bind_ok : {A B E : Type 0} (r : Result A E) (f : A → Result B E) (y : B) → (r >>= f) ≡ Ok y → (x : A) × (r ≡ Ok x) × (f x ≡ Ok y)
bind_ok (Ok x) f y e = (x, refl, e)
bind_ok (Err d) f y e = absurd cc

-- a step behind a test
pub guard : {A E : Type 0} (b : Bool) (r : Result A E) (d : E) (y : A) → cond b r (Err d) ≡ Ok y → (b ≡ true) × (r ≡ Ok y)
guard true r d y e = (refl, e)
guard false r d y e = absurd cc

-- a test before a value
pub test : {A E : Type 0} (b : Bool) (x : A) (d : E) (y : A) → cond b (Ok x) (Err d) ≡ Ok y → (b ≡ true) × (x ≡ y)
test true x d y e = (refl, cc)
test false x d y e = absurd cc

-- a value where there is one
pub some_is : {A E : Type 0} (o : Option A) (d : E) (x : A) → ok_or o d ≡ Ok x → o ≡ Some x
some_is None d x e = absurd cc
some_is (Some y) d x e = cc

pub ok_is : {A E : Type 0} (x y : A) → ◌≡◌ {A = Result A E} (Ok x) (Ok y) → x ≡ y
ok_is x y e = cc

-- a choice of two
pub choice : {A : Type 0} (P : Type 0) (b : Bool) (x y z : A) → cond b x y ≡ z → (b ≡ true → x ≡ z → P) → (y ≡ z → P) → P
choice P true x y z e p q = p refl e
choice P false x y z e p q = q e
