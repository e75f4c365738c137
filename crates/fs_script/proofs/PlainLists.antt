-- Plain lists, ranges and options, in the forms that the definitions of this crate have: `AllByRecursion` and
-- `slice_get`, where std's lemmas have `All` and `get_or`.
use Rattle.fs_types.proofs.Common.{common_steps, ◌≡◌, ℕ, zero, suc, ◌+◌, ◌≤◌, ◌<◌, Bool, true, false, List, [], ◌∷◌, ◌++◌, map, length}
use Rattle.fs_types.proofs.Common.{take, get_or, slice_get, count_by, cond, Option, Some, None, IsSome, is_some, ◌⊎◌, inl, inr, true≢false}
use Rattle.fs_types.proofs.Common.{refl, sym, ap, ◌∙◌, subst, subst₂, take-take, All, arith, AllByRecursion, filter, range_with_len}
use Rattle.fs_types.proofs.Common.{cond_both, cond-true, cases_eq, cases_order, none-some, same_Some, slice_get_within, slice_get-get_or}
use Rattle.fs_types.proofs.Common.{get_or_from_slice_get, length-map, length_push, get_or-map, get_or_append_left, All-from_recursion}
use Rattle.fs_types.proofs.Common.{recursion_from_All, All-take, All-push, All-filter, filter_passes, length-range_with_len}
use Rattle.fs_types.proofs.Common.{get_or-range_with_len, AllPairs-filter, sum_by-take-le, sum_by-le-sum_by, set, Contains, sum_by}
use Rattle.fs_types.proofs.Common.{sum_by-cons, min, fold}
use Rattle.fs_types.proofs.Common.{filter_map, cases_lt, cons_option}
use Rattle.std.specs.Option.{option_map}
use Rattle.std.proofs.lemmas.Option.{slice_get-map}

-- ---- options

pub some_of : {X : Type 0} (x : Option X) → IsSome x → (b : X) × (x ≡ Some b)
some_of None h = absurd (true≢false (sym h))
some_of (Some b) h = (b, refl)

pub none_from-is_some : {X : Type 0} (x : Option X) → is_some x ≡ false → x ≡ None
none_from-is_some None h = refl
none_from-is_some (Some y) h = absurd (true≢false h)

-- ---- what holds of each element

module _ {X : Type 0} (P : X → Type 0) where
  -- at each place
  pub All-at : (xs : List X) (k : ℕ) (x : X) → All P xs → slice_get xs k ≡ Some x → P x
  All-at xs k x all at = subst P (get_or_from_slice_get xs k x x at) (all k x (slice_get_within xs k x at))

  pub AllByRecursion-at : (xs : List X) (k : ℕ) (x : X) → AllByRecursion P xs → slice_get xs k ≡ Some x → P x
  AllByRecursion-at xs k x all at = All-at xs k x (All-from_recursion P xs all) at

  pub AllByRecursion-from_get : (xs : List X) → ((k : ℕ) (x : X) → slice_get xs k ≡ Some x → P x) → AllByRecursion P xs
  AllByRecursion-from_get xs each = recursion_from_All P xs (λ k d below. each k (get_or xs k d) (slice_get-get_or xs k d below))

  pub AllByRecursion-weaker : (Q : X → Type 0) (xs : List X) → ((x : X) → P x → Q x) → AllByRecursion P xs → AllByRecursion Q xs
  AllByRecursion-weaker Q [] each all = tt
  AllByRecursion-weaker Q (x ∷ xs) each all = (each x all.0, AllByRecursion-weaker Q xs each all.1)

  -- of the first elements
  pub AllByRecursion-take : (n : ℕ) (xs : List X) → AllByRecursion P xs → AllByRecursion P (take n xs)
  AllByRecursion-take n xs all = recursion_from_All P (take n xs) (All-take P n xs (All-from_recursion P xs all))

  -- and of one more
  pub AllByRecursion-push : (xs : List X) (x : X) → AllByRecursion P xs → P x → AllByRecursion P (xs ++ x ∷ [])
  AllByRecursion-push xs x all last = recursion_from_All P (xs ++ x ∷ []) (All-push P xs x (All-from_recursion P xs all) last)

  -- of what a function gives at each element
  pub All-from_map : {Y : Type 0} (f : Y → X) (ys : List Y) → All P (map f ys) → All (λ y. P (f y)) ys
  All-from_map f ys all k d below = subst P (get_or-map f ys k d (f d) below) (all k (f d) (omega (arith, length-map ys f)))

-- ---- one more element at the end

-- the places that were there keep their elements
pub slice_get-push : {X : Type 0} (xs : List X) (y : X) (k : ℕ) (x : X) → slice_get xs k ≡ Some x → slice_get (xs ++ y ∷ []) k ≡ Some x
slice_get-push xs y k x at =
    let within = slice_get_within xs k x at in
    let same = get_or_append_left xs (y ∷ []) x k within ∙ get_or_from_slice_get xs k x x at in
    slice_get-get_or (xs ++ y ∷ []) k x (omega (arith, length_push xs y)) ∙ ap Some same

-- the new one stands at the end
pub slice_get-push_last : {X : Type 0} (xs : List X) (y : X) → slice_get (xs ++ y ∷ []) (length xs) ≡ Some y
slice_get-push_last [] y = refl
slice_get-push_last (x ∷ xs) y = slice_get-push_last xs y

-- an element of the longer list is one of the shorter, or the new one
pub slice_get-push_cases : {X : Type 0} (xs : List X) (y : X) (k : ℕ) (x : X) → slice_get (xs ++ y ∷ []) k ≡ Some x
    → (slice_get xs k ≡ Some x) ⊎ ((k ≡ length xs) × (x ≡ y))
slice_get-push_cases [] y zero x at = inr (refl, sym (same_Some y x at))
slice_get-push_cases [] y (suc k) x at = absurd (none-some x at)
slice_get-push_cases (z ∷ xs) y zero x at = inl at
slice_get-push_cases (z ∷ xs) y (suc k) x at =
    elim (slice_get-push_cases xs y k x at) [ inl old ↦ inl old | inr new ↦ inr (ap suc new.0, new.1) ]

-- below the end it is one of the shorter
pub slice_get-push_below : {X : Type 0} (xs : List X) (y : X) (k : ℕ) (x : X) → k < length xs
    → slice_get (xs ++ y ∷ []) k ≡ Some x → slice_get xs k ≡ Some x
slice_get-push_below xs y k x below at =
    elim (slice_get-push_cases xs y k x at) [ inl old ↦ old | inr new ↦ absurd (omega (arith, new.0)) ]

-- ---- an element at a place

-- below the length there is one
pub slice_get-some : {X : Type 0} (xs : List X) (i : ℕ) → i < length xs → (x : X) × (slice_get xs i ≡ Some x)
slice_get-some [] i lt = absurd (omega arith)
slice_get-some (x ∷ xs) zero lt = (x, refl)
slice_get-some (x ∷ xs) (suc i) lt = slice_get-some xs i (omega arith)

-- a function's value of it stands there among the values
pub slice_get-map_some : {X Y : Type 0} (f : X → Y) (xs : List X) (i : ℕ) (x : X) → slice_get xs i ≡ Some x
    → slice_get (map f xs) i ≡ Some (f x)
slice_get-map_some f xs i x is = slice_get-map f xs i ∙ ap (option_map f) is

-- what holds of each element that a list contains holds of all of its elements
pub AllByRecursion-from_contained : {X : Type 0} {P : X → Type 0} (xs : List X) → ((x : X) → Contains xs x → P x) → AllByRecursion P xs
AllByRecursion-from_contained [] each = tt
AllByRecursion-from_contained (x ∷ xs) each = (
  each x (0, omega arith, refl),
  AllByRecursion-from_contained xs (λ y there. each y (suc there.0, (let lt = there.1 in omega arith), there.2)),
)

-- ---- one element set

module _ {X : Type 0} where
  -- its place has the new element
  pub slice_get-set_same : (xs : List X) (i : ℕ) (y : X) → i < length xs → slice_get (set xs i y) i ≡ Some y
  slice_get-set_same [] i y lt = absurd (omega arith)
  slice_get-set_same (x ∷ xs) zero y lt = refl
  slice_get-set_same (x ∷ xs) (suc i) y lt = slice_get-set_same xs i y (omega arith)

  -- and each other place keeps what it had
  pub slice_get-set_other : (xs : List X) (i j : ℕ) (y : X) → (j ≡ i → ⊥) → slice_get (set xs i y) j ≡ slice_get xs j
  slice_get-set_other [] i j y differ = refl
  slice_get-set_other (x ∷ xs) zero zero y differ = absurd (differ refl)
  slice_get-set_other (x ∷ xs) zero (suc j) y differ = refl
  slice_get-set_other (x ∷ xs) (suc i) zero y differ = refl
  slice_get-set_other (x ∷ xs) (suc i) (suc j) y differ = slice_get-set_other xs i j y (λ e. differ (ap suc e))

-- ---- how many pass a test

-- a longer front has at least as many
pub count_by-take-rises : {X : Type 0} (p : X → Bool) (xs : List X) (a b : ℕ) → a ≤ b → count_by p (take a xs) ≤ count_by p (take b xs)
count_by-take-rises p xs a b le =
    subst (λ ys. count_by p ys ≤ count_by p (take b xs)) (take-take a b xs le) (sum_by-take-le (λ x. cond (p x) 1 0) (take b xs) a)

-- ---- sums

-- two functions that agree at each element have one sum
pub sum_by-agree : {X : Type 0} (f g : X → ℕ) (xs : List X) → All (λ x. f x ≡ g x) xs → sum_by f xs ≡ sum_by g xs
sum_by-agree {X} f g xs same = by xs (recursion_from_All (λ x. f x ≡ g x) xs same) where
  by : (ys : List X) → AllByRecursion (λ y. f y ≡ g y) ys → sum_by f ys ≡ sum_by g ys
  by [] each = refl
  by (y ∷ ys) each = sum_by-cons f y ys ∙ (λ i. each.0 i + by ys each.1 i) ∙ sym (sum_by-cons g y ys)

-- ---- ranges

pub range-push : (a k : ℕ) → range_with_len a k ++ (a + k) ∷ [] ≡ range_with_len a (suc k)
range-push a zero = ap (λ n. n ∷ []) (omega arith)
range-push a (suc k) =
    let last : a + suc k ≡ a + 1 + k = omega arith in
    ap (λ (ns : List ℕ). a ∷ ns) (ap (λ n. range_with_len (a + 1) k ++ n ∷ []) last ∙ range-push (a + 1) k)

pub slice_get-range : (a k i : ℕ) → i < k → slice_get (range_with_len a k) i ≡ Some (a + i)
slice_get-range a k i lt =
    slice_get-get_or (range_with_len a k) i 0 (omega (arith, length-range_with_len a k)) ∙ ap Some (get_or-range_with_len a k i 0 lt)

-- ---- the numbers of a range that pass a test

module _ (P : ℕ → Bool) (a len : ℕ) where
  -- each passes, and is at least the first number
  pub passes : (k n : ℕ) → slice_get (filter P (range_with_len a len)) k ≡ Some n → (P n ≡ true) × (a ≤ n)
  passes k n at =
      let range = range_with_len a len in
      let size = length-range_with_len a len in
      let from = All-filter P (λ m. a ≤ m) range (λ i d below. omega (arith, get_or-range_with_len a len i d (omega arith))) in
      (All-at (λ m. P m ≡ true) (filter P range) k n (filter_passes P range) at, All-at (λ m. a ≤ m) (filter P range) k n from at)

  -- they rise
  pub passing-rise : (i k m n : ℕ) → i < k → slice_get (filter P (range_with_len a len)) i ≡ Some m
      → slice_get (filter P (range_with_len a len)) k ≡ Some n → m < n
  passing-rise i k m n before at at' =
      let range = range_with_len a len in
      let kept = filter P range in
      let rises = λ (i j d : ℕ) (less : i < j) (below : j < length range).
      let size = length-range_with_len a len in
      let first = get_or-range_with_len a len i d (omega arith) in
      let second = get_or-range_with_len a len j d (omega arith) in
      let apart : get_or range i d < get_or range j d = omega arith in
      apart in
      let pairs = AllPairs-filter (λ x y. x < y) P range rises in
      let less = pairs i k m before (slice_get_within kept k n at') in
      subst₂ (λ x y. x < y) (get_or_from_slice_get kept i m m at) (get_or_from_slice_get kept k n m at') less

  -- no two of them are one
  pub passing-places : (i k n : ℕ) → slice_get (filter P (range_with_len a len)) i ≡ Some n
      → slice_get (filter P (range_with_len a len)) k ≡ Some n → i ≡ k
  passing-places i k n at at' = grind (arith, common_steps, cases_order, passing-rise)

-- each number of the range that passes has a place
pub passing-place : (P : ℕ → Bool) (a len n : ℕ) → P n ≡ true → a ≤ n → n < a + len
    → (k : ℕ) × (slice_get (filter P (range_with_len a len)) k ≡ Some n)
passing-place P a zero n e from to = absurd (omega arith)
passing-place P a (suc len) n e from to =
    let rest = filter P (range_with_len (a + 1) len) in
    elim (cases_eq a n) [
      | inl is ↦
          let kept = cond-true (P a) (a ∷ rest) rest (subst (λ m. P m ≡ true) (sym is) e) in
          (0, ap (λ xs. slice_get xs 0) kept ∙ ap Some is)
      | inr other ↦
          let r = passing-place P (a + 1) len n e (omega arith) (omega arith) in
          cond_both (P a) (a ∷ rest) rest (λ xs. (k : ℕ) × (slice_get xs k ≡ Some n)) (λ _. (suc r.0, r.1)) (λ _. r)
    ]

-- a number of a range that passes a test is among those that do
pub Contains-passing : (P : ℕ → Bool) (a len n : ℕ) → P n ≡ true → a ≤ n → n < a + len → Contains (filter P (range_with_len a len)) n
Contains-passing P a len n e from to =
    let ns = filter P (range_with_len a len) in
    let at = passing-place P a len n e from to in
    (at.0, slice_get_within ns at.0 n at.1, get_or_from_slice_get ns at.0 n n at.1)

-- ---- the least of some numbers

-- the least is at most the first number
pub fold-min-le : (a : ℕ) (xs : List ℕ) → fold min a xs ≤ a
fold-min-le a [] = omega arith
fold-min-le a (x ∷ xs) = omega (arith, fold-min-le (min a x) xs)

-- and each other
pub fold-min-least : (a : ℕ) (xs : List ℕ) → AllByRecursion (λ x. fold min a xs ≤ x) xs
fold-min-least a [] = tt
fold-min-least a (x ∷ xs) = (omega (arith, fold-min-le (min a x) xs), fold-min-least (min a x) xs)

min-there : (a x : ℕ) (xs : List ℕ) (y k : ℕ) → k < suc (length xs) → get_or (min a x ∷ xs) k y ≡ y → Contains (a ∷ x ∷ xs) y
min-there a x xs y zero lt is = elim (cases_lt x a) [
  | inl less ↦ (1, omega arith, omega arith)
  | inr other ↦ (0, omega arith, omega arith)
]
min-there a x xs y (suc k) lt is = (suc (suc k), omega arith, is)

-- it is the first number or stands among the others
pub fold-min-there : (a : ℕ) (xs : List ℕ) → Contains (a ∷ xs) (fold min a xs)
fold-min-there a [] = (0, omega arith, refl)
fold-min-there a (x ∷ xs) = let there = fold-min-there (min a x) xs in min-there a x xs (fold min (min a x) xs) there.0 there.1 there.2

-- ---- what a function gives of some elements

-- what it gives of an element has a place
pub filter_map-at : {X Y : Type 0} (f : X → Option Y) (xs : List X) (i : ℕ) (x : X) (y : Y)
    → slice_get xs i ≡ Some x → f x ≡ Some y → (j : ℕ) × (slice_get (filter_map f xs) j ≡ Some y)
filter_map-at f [] i x y at is = absurd (none-some x at)
filter_map-at f (w ∷ ws) zero x y at is = rw (ap f (same_Some w x at) ∙ is) (0, refl)
filter_map-at f (w ∷ ws) (suc i) x y at is =
    let later = filter_map-at f ws i x y at is in
    elim (f w) as (λ o. (j : ℕ) × (slice_get (cons_option o (filter_map f ws)) j ≡ Some y)) [
      | None ↦ later
      | Some v ↦ (suc later.0, later.1)
    ]

module _ {X Y : Type 0} (f : X → Option Y) (w : X) (ws : List X) (y : Y) (later : (j : ℕ) → slice_get (filter_map f ws) j ≡ Some y
    → (i : ℕ) × (x : X) × (slice_get ws i ≡ Some x) × (f x ≡ Some y)) where
  cons_option-from : (o : Option Y) (j : ℕ) → f w ≡ o → slice_get (cons_option o (filter_map f ws)) j ≡ Some y
      → (i : ℕ) × (x : X) × (slice_get (w ∷ ws) i ≡ Some x) × (f x ≡ Some y)
  cons_option-from None j gives at = let there = later j at in (suc there.0, there.1, there.2, there.3)
  cons_option-from (Some v) zero gives at = (0, w, refl, gives ∙ at)
  cons_option-from (Some v) (suc j) gives at = let there = later j at in (suc there.0, there.1, there.2, there.3)

-- and at each place stands what it gives of some element
pub filter_map-from : {X Y : Type 0} (f : X → Option Y) (xs : List X) (j : ℕ) (y : Y)
    → slice_get (filter_map f xs) j ≡ Some y → (i : ℕ) × (x : X) × (slice_get xs i ≡ Some x) × (f x ≡ Some y)
filter_map-from f [] j y at = absurd (none-some y at)
filter_map-from f (w ∷ ws) j y at = cons_option-from f w ws y (λ i h. filter_map-from f ws i y h) (f w) j refl at

-- ---- sums over a range

-- where no term rises, and one falls, the sum falls
pub sum_by-range-falls : (f g : ℕ → ℕ) (r a len : ℕ) → ((i : ℕ) → f i ≤ g i) → f r < g r → a ≤ r → r < a + len
    → sum_by f (range_with_len a len) < sum_by g (range_with_len a len)
sum_by-range-falls f g r a zero each falls from to = absurd (omega arith)
sum_by-range-falls f g r a (suc len) each falls from to =
    let rest = range_with_len (a + 1) len in
    let first = sum_by-cons f a rest in
    let second = sum_by-cons g a rest in
    elim (cases_eq a r) [
      | inl here ↦
          let less : f a < g a = subst (λ i. f i < g i) (sym here) falls in
          omega (arith, sum_by-le-sum_by f g rest each)
      | inr other ↦
          let later = sum_by-range-falls f g r (a + 1) len each falls (omega arith) (omega arith) in
          omega (arith, each a)
    ]
