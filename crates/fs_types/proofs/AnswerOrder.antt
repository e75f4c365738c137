-- Lists of answers stay in the order of their lines.
use Rattle.fs_types.proofs.Common.{◌≡◌, ℕ, suc, ◌<◌, ◌≤◌, ◌==◌, List, [], ◌∷◌, ◌++◌, Some, None, refl, sym, ap, ◌∙◌, subst, if◌then◌else◌}
use Rattle.fs_types.proofs.Common.{arith, ◌⊎◌, inl, inr, All, nat_tests, AllByRecursion, All-head, All-tail, All-from_recursion}
use Rattle.fs_types.specs.AnswerList.{answer_at, put_answer, answers_given, IsRising, IsRisingFrom}
use Rattle.fs_types.specs.declared.answer.Answer.{Answer}
use Rattle.fs_types.proofs.Tables.{answer_at-same, answer_at-other, put_answer-before, put_answer-over, put_answer-after}
use Rattle.fs_types.proofs.Tables.{IsRisingFrom-lower}

-- how a line stands to another
pub cases_line : (m n : ℕ) → (m < n) ⊎ ((m ≡ n) ⊎ (n < m))
cases_line m n = grind arith

-- the answer that is put, by how its line stands to the first
answer_at-put_first : (n m : ℕ) (a : Answer) → answer_at (put_answer n a []) m ≡ (if m == n then Some a else None)
answer_at-put_first n m a = grind (arith, nat_tests)

answer_at-put_before : (k n m : ℕ) (a b : Answer) (xs : List (ℕ × Answer)) → n < k
    → answer_at (put_answer n a ((k, b) ∷ xs)) m ≡ (if m == n then Some a else answer_at ((k, b) ∷ xs) m)
answer_at-put_before k n m a b xs h = grind (arith, nat_tests)

answer_at-put_over : (k n m : ℕ) (a b : Answer) (xs : List (ℕ × Answer)) → n ≡ k
    → answer_at (put_answer n a ((k, b) ∷ xs)) m ≡ (if m == n then Some a else answer_at ((k, b) ∷ xs) m)
answer_at-put_over k n m a b xs h = grind (arith, nat_tests)

answer_at-put_after : (k n m : ℕ) (a b : Answer) (xs : List (ℕ × Answer)) → k < n
    → answer_at (put_answer n a xs) m ≡ (if m == n then Some a else answer_at xs m)
    → answer_at (put_answer n a ((k, b) ∷ xs)) m ≡ (if m == n then Some a else answer_at ((k, b) ∷ xs) m)
answer_at-put_after k n m a b xs h e = grind (arith, nat_tests)

-- a line has the answer that was put there, and each other line the answer that it had
pub answer_at-put_answer : (xs : List (ℕ × Answer)) (n m : ℕ) (a : Answer)
    → answer_at (put_answer n a xs) m ≡ (if m == n then Some a else answer_at xs m)
answer_at-put_answer [] n m a = answer_at-put_first n m a
answer_at-put_answer ((k, b) ∷ xs) n m a = elim (cases_line n k) [
  | inl h ↦ answer_at-put_before k n m a b xs h
  | inr g ↦ elim g [
    | inl h ↦ answer_at-put_over k n m a b xs h
    | inr h ↦ answer_at-put_after k n m a b xs h (answer_at-put_answer xs n m a)
  ]
]

-- a rising list stays so
pub IsRisingFrom-put_answer : (xs : List (ℕ × Answer)) (k n : ℕ) (a : Answer) → k ≤ n → IsRisingFrom k xs
    → IsRisingFrom k (put_answer n a xs)
IsRisingFrom-put_answer [] k n a l h = (l, tt)
IsRisingFrom-put_answer ((i, b) ∷ xs) k n a l h = elim (cases_line n i) [
  | inl e ↦ subst (λ ys. IsRisingFrom k ys) (sym (put_answer-before i n a b xs e)) (l, (e, h.1))
  | inr g ↦ elim g [
    | inl e ↦ subst (λ ys. IsRisingFrom k ys) (sym (put_answer-over i n a b xs e)) (h.0, h.1)
    | inr e ↦ subst (λ ys. IsRisingFrom k ys) (sym (put_answer-after i n a b xs e)) (h.0, IsRisingFrom-put_answer xs (suc i) n a e h.1)
  ]
]

-- every list that is made by putting answers is rising
pub IsRising-answers_given : (given : List (ℕ × Answer)) → IsRising (answers_given given)
IsRising-answers_given [] = tt
IsRising-answers_given (x ∷ xs) = IsRisingFrom-put_answer (answers_given xs) 0 x.0 x.1 (omega arith) (IsRising-answers_given xs)

-- an answer to a line above all others goes to the end
pub put_answer-above : (xs : List (ℕ × Answer)) (n : ℕ) (a : Answer) → All (λ x. x.0 < n) xs → put_answer n a xs ≡ xs ++ (n, a) ∷ []
put_answer-above [] n a h = refl
put_answer-above ((k, b) ∷ xs) n a h =
    put_answer-after k n a b xs (All-head (λ x. x.0 < n) (k, b) xs h)
    ∙ ap (λ ys. (k, b) ∷ ys) (put_answer-above xs n a (All-tail (λ x. x.0 < n) (k, b) xs h))

-- no line before the first has an answer
pub answer_at-rising_below : (xs : List (ℕ × Answer)) (k m : ℕ) → IsRisingFrom k xs → m < k → answer_at xs m ≡ None
answer_at-rising_below [] k m h l = refl
answer_at-rising_below ((i, b) ∷ xs) k m h l =
    answer_at-other i m b xs (omega (arith, h.0)) ∙ answer_at-rising_below xs (suc i) m h.1 (omega (arith, h.0))

-- in a rising list each line has its answer
pub answer_at-each : (xs : List (ℕ × Answer)) (k : ℕ) → IsRisingFrom k xs → All (λ x. answer_at xs x.0 ≡ Some x.1) xs
answer_at-each xs k rising = All-from_recursion (λ (x : ℕ × Answer). answer_at xs x.0 ≡ Some x.1) xs (by_recursion xs k rising)
  where
    past : (n : ℕ) (a : Answer) (ys zs : List (ℕ × Answer)) → IsRisingFrom (suc n) zs → AllByRecursion (λ x. answer_at ys x.0 ≡ Some x.1) zs
        → AllByRecursion (λ x. answer_at ((n, a) ∷ ys) x.0 ≡ Some x.1) zs
    past n a ys [] above each = tt
    past n a ys ((m, b) ∷ zs) above each = (
      answer_at-other n m a ys (omega (arith, above.0)) ∙ each.0,
      past n a ys zs (IsRisingFrom-lower zs (suc n) (suc m) (omega (arith, above.0)) above.1) each.1,
    )

    by_recursion : (ys : List (ℕ × Answer)) (k : ℕ) → IsRisingFrom k ys → AllByRecursion (λ x. answer_at ys x.0 ≡ Some x.1) ys
    by_recursion [] k rising = tt
    by_recursion ((n, a) ∷ ys) k rising = (answer_at-same n n a ys refl, past n a ys ys rising.1 (by_recursion ys (suc n) rising.1))

-- the tails of two lists that begin alike answer alike
tails_alike : (i : ℕ) (a b : Answer) (xs ys : List (ℕ × Answer)) → IsRisingFrom (suc i) xs → IsRisingFrom (suc i) ys
    → ((n : ℕ) → answer_at ((i, a) ∷ xs) n ≡ answer_at ((i, b) ∷ ys) n) → (n : ℕ) → answer_at xs n ≡ answer_at ys n
tails_alike i a b xs ys hx hy h n = elim (cases_line n i) [
  | inl l ↦ answer_at-rising_below xs (suc i) n hx (omega arith) ∙ sym (answer_at-rising_below ys (suc i) n hy (omega arith))
  | inr g ↦ elim g [
    | inl e ↦ answer_at-rising_below xs (suc i) n hx (omega arith) ∙ sym (answer_at-rising_below ys (suc i) n hy (omega arith))
    | inr l ↦ sym (answer_at-other i n a xs (omega arith)) ∙ h n ∙ answer_at-other i n b ys (omega arith)
  ]
]

-- two rising lists that answer each line alike begin with the same line
first_alike : (i j : ℕ) (a b : Answer) (xs ys : List (ℕ × Answer)) → IsRisingFrom (suc i) xs → IsRisingFrom (suc j) ys
    → ((n : ℕ) → answer_at ((i, a) ∷ xs) n ≡ answer_at ((j, b) ∷ ys) n) → i ≡ j
first_alike i j a b xs ys hx hy h = elim (cases_line i j) [
  | inl l ↦
      let some = answer_at-same i i a xs refl in
      let none = answer_at-other j i b ys (omega arith) ∙ answer_at-rising_below ys (suc j) i hy (omega arith) in
      let same = h i in
      cc
  | inr g ↦ elim g [
    | inl e ↦ e
    | inr l ↦
        let some = answer_at-same j j b ys refl in
        let none = answer_at-other i j a xs (omega arith) ∙ answer_at-rising_below xs (suc i) j hx (omega arith) in
        let same = h j in
        cc
  ]
]

-- lists that begin with the same line are one, where their tails are
same_from_tails : (i j : ℕ) (a b : Answer) (xs ys : List (ℕ × Answer)) → IsRisingFrom (suc i) xs → IsRisingFrom (suc j) ys
    → ((n : ℕ) → answer_at ((i, a) ∷ xs) n ≡ answer_at ((j, b) ∷ ys) n) → i ≡ j
    → (IsRisingFrom (suc i) ys → ((n : ℕ) → answer_at xs n ≡ answer_at ys n) → xs ≡ ys) → (i, a) ∷ xs ≡ (j, b) ∷ ys
same_from_tails i j a b xs ys hx hy h e go =
    let hy' = subst (λ (n : ℕ). IsRisingFrom (suc n) ys) (sym e) hy in
    let h' = subst (λ (m : ℕ). (n : ℕ) → answer_at ((i, a) ∷ xs) n ≡ answer_at ((m, b) ∷ ys) n) (sym e) h in
    let tails = go hy' (tails_alike i a b xs ys hx hy' h') in
    let one = answer_at-same i i a xs refl in
    let other = answer_at-same i i b ys refl in
    let same = h' i in
    cc

-- two rising lists that answer each line alike are one
pub same_from_answers : (xs ys : List (ℕ × Answer)) (k : ℕ) → IsRisingFrom k xs → IsRisingFrom k ys
    → ((n : ℕ) → answer_at xs n ≡ answer_at ys n) → xs ≡ ys
same_from_answers [] [] k hx hy h = refl
same_from_answers [] ((j, b) ∷ ys) k hx hy h =
    let some = answer_at-same j j b ys refl in
    let same = h j in
    cc
same_from_answers ((i, a) ∷ xs) [] k hx hy h =
    let some = answer_at-same i i a xs refl in
    let same = h i in
    cc
same_from_answers ((i, a) ∷ xs) ((j, b) ∷ ys) k hx hy h =
    same_from_tails i j a b xs ys hx.1 hy.1 h (first_alike i j a b xs ys hx.1 hy.1 h)
    (λ rising alike. same_from_answers xs ys (suc i) hx.1 rising alike)

pub ruleset answers_in_a_table = (
  answer_at-put_answer,
  IsRisingFrom-put_answer,
  IsRising-answers_given,
  put_answer-above,
  same_from_answers,
)
