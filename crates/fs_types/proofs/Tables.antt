-- How a table of answers is read as a list of lines.
use Rattle.fs_types.proofs.Common.{All, ◌≡◌, ◌≢◌, ℕ, zero, suc, ◌+◌, ◌-◌, ◌<◌, ◌≤◌, List, [], ◌∷◌, ◌++◌, length, get_or, set, Option, Some}
use Rattle.fs_types.proofs.Common.{None, refl, sym, ap, subst, ◌∙◌, arith, nat_tests, All-nil, All-cons}
use Rattle.fs_types.specs.AnswerList.{Given, answer_at, put_answer, listed, IsRisingFrom}
use Rattle.fs_types.specs.declared.answer.Answer.{Answer}

-- the first line has the first answer
pub answer_at-same : (n m : ℕ) (a : Answer) (xs : List (ℕ × Answer)) → m ≡ n → answer_at ((n, a) ∷ xs) m ≡ Some a
answer_at-same n m a xs h = grind (arith, nat_tests)

-- a line other than the first is looked up in the rest
pub answer_at-other : (n m : ℕ) (a : Answer) (xs : List (ℕ × Answer)) → m ≢ n → answer_at ((n, a) ∷ xs) m ≡ answer_at xs m
answer_at-other n m a xs h = grind (arith, nat_tests)

-- an answer to a line before the first goes to the front
pub put_answer-before : (n m : ℕ) (a b : Answer) (xs : List (ℕ × Answer)) → m < n → put_answer m a ((n, b) ∷ xs) ≡ (m, a) ∷ (n, b) ∷ xs
put_answer-before n m a b xs h = grind (arith, nat_tests)

-- an answer to the first line takes its place
pub put_answer-over : (n m : ℕ) (a b : Answer) (xs : List (ℕ × Answer)) → m ≡ n → put_answer m a ((n, b) ∷ xs) ≡ (n, a) ∷ xs
put_answer-over n m a b xs h = grind (arith, nat_tests)

-- an answer to a later line goes into the rest
pub put_answer-after : (n m : ℕ) (a b : Answer) (xs : List (ℕ × Answer)) → n < m → put_answer m a ((n, b) ∷ xs) ≡ (n, b) ∷ put_answer m a xs
put_answer-after n m a b xs h = grind (arith, nat_tests)

-- a list that rises from a line rises from each line before that
pub IsRisingFrom-lower : (xs : List (ℕ × Answer)) (j k : ℕ) → j ≤ k → IsRisingFrom k xs → IsRisingFrom j xs
IsRisingFrom-lower [] j k l h = tt
IsRisingFrom-lower (x ∷ xs) j k l h = (omega (arith, h.0), h.1)

-- no line below the first place is answered
pub answer_at-listed_below : (xs : List (Option Answer)) (n m : ℕ) → m < n → answer_at (listed n xs) m ≡ None
answer_at-listed_below [] n m h = refl
answer_at-listed_below (None ∷ xs) n m h = answer_at-listed_below xs (suc n) m (omega arith)
answer_at-listed_below (Some a ∷ xs) n m h =
    answer_at-other n m a (listed (suc n) xs) (omega arith) ∙ answer_at-listed_below xs (suc n) m (omega arith)

-- line n + k is answered by place k
pub answer_at-listed : (xs : List (Option Answer)) (n k : ℕ) → answer_at (listed n xs) (n + k) ≡ get_or xs k None
answer_at-listed [] n k = refl
answer_at-listed (None ∷ xs) n zero = answer_at-listed_below xs (suc n) (n + 0) (omega arith)
answer_at-listed (Some a ∷ xs) n zero = answer_at-same n (n + 0) a (listed (suc n) xs) (omega arith)
answer_at-listed (None ∷ xs) n (suc k) =
    let e : n + suc k ≡ suc n + k = omega arith in
    ap (λ m. answer_at (listed (suc n) xs) m) e ∙ answer_at-listed xs (suc n) k
answer_at-listed (Some a ∷ xs) n (suc k) =
    let e : n + suc k ≡ suc n + k = omega arith in
    answer_at-other n (n + suc k) a (listed (suc n) xs) (omega arith) ∙ ap (λ m. answer_at (listed (suc n) xs) m) e
    ∙ answer_at-listed xs (suc n) k

-- an answer to a line below the first place goes to the front
pub put_answer-listed_below : (xs : List (Option Answer)) (n m : ℕ) (a : Answer) → m < n
    → put_answer m a (listed n xs) ≡ (m, a) ∷ listed n xs
put_answer-listed_below [] n m a h = refl
put_answer-listed_below (None ∷ xs) n m a h = put_answer-listed_below xs (suc n) m a (omega arith)
put_answer-listed_below (Some b ∷ xs) n m a h = put_answer-before n m a b (listed (suc n) xs) h

-- an answer is put where its place is set
pub listed-set : (xs : List (Option Answer)) (n k : ℕ) (a : Answer) → k < length xs
    → listed n (set xs k (Some a)) ≡ put_answer (n + k) a (listed n xs)
listed-set [] n k a h = absurd (omega arith)
listed-set (None ∷ xs) n zero a h =
    let e : n + 0 ≡ n = omega arith in
    sym (ap (λ m. put_answer m a (listed (suc n) xs)) e ∙ put_answer-listed_below xs (suc n) n a (omega arith))
listed-set (Some b ∷ xs) n zero a h = sym (put_answer-over n (n + 0) a b (listed (suc n) xs) (omega arith))
listed-set (None ∷ xs) n (suc k) a h =
    let e : n + suc k ≡ suc n + k = omega arith in
    listed-set xs (suc n) k a (omega arith) ∙ sym (ap (λ m. put_answer m a (listed (suc n) xs)) e)
listed-set (Some b ∷ xs) n (suc k) a h =
    let e : n + suc k ≡ suc n + k = omega arith in
    ap (λ ys. (n, b) ∷ ys) (listed-set xs (suc n) k a (omega arith) ∙ sym (ap (λ m. put_answer m a (listed (suc n) xs)) e))
    ∙ sym (put_answer-after n (n + suc k) a b (listed (suc n) xs) (omega arith))

-- a place with no answer lists nothing
pub listed-push_none : (xs : List (Option Answer)) (n : ℕ) → listed n (xs ++ None ∷ []) ≡ listed n xs
listed-push_none [] n = refl
listed-push_none (None ∷ xs) n = listed-push_none xs (suc n)
listed-push_none (Some a ∷ xs) n = ap (λ ys. (n, a) ∷ ys) (listed-push_none xs (suc n))

-- a table whose first place is line 1
pub answer_at-table : (xs : List (Option Answer)) (m k : ℕ) → 1 ≤ m → k ≡ m - 1 → answer_at (listed 1 xs) m ≡ get_or xs k None
answer_at-table xs m k h e =
    let f : m ≡ 1 + k = omega arith in
    ap (λ n. answer_at (listed 1 xs) n) f ∙ answer_at-listed xs 1 k

-- an answer is put where its place in the table is set
pub listed-set_table : (xs : List (Option Answer)) (m k : ℕ) (a : Answer) → 1 ≤ m → k ≡ m - 1 → k < length xs
    → listed 1 (set xs k (Some a)) ≡ put_answer m a (listed 1 xs)
listed-set_table xs m k a h e l =
    let f : 1 + k ≡ m = omega arith in
    listed-set xs 1 k a l ∙ ap (λ n. put_answer n a (listed 1 xs)) f

-- what a table lists rises from the line of its first place, and ends with its last place
pub IsRisingFrom-listed : (xs : List (Option Answer)) (n : ℕ) → IsRisingFrom n (listed n xs)
IsRisingFrom-listed [] n = tt
IsRisingFrom-listed (None ∷ xs) n = IsRisingFrom-lower (listed (suc n) xs) n (suc n) (omega arith) (IsRisingFrom-listed xs (suc n))
IsRisingFrom-listed (Some a ∷ xs) n = (omega arith, IsRisingFrom-listed xs (suc n))

-- no line is past the last place
pub All-listed : (xs : List (Option Answer)) (n m : ℕ) → n + length xs ≤ suc m → All (λ x. x.0 ≤ m) (listed n xs)
All-listed [] n m h = All-nil (λ (x : ℕ × Answer). x.0 ≤ m)
All-listed (None ∷ xs) n m h = All-listed xs (suc n) m (omega arith)
All-listed (Some a ∷ xs) n m h = All-cons (λ (x : ℕ × Answer). x.0 ≤ m) (n, a) (listed (suc n) xs) (omega arith)
    (All-listed xs (suc n) m (omega arith))

-- a list of answers that a table of this many lines can have
pub record IsInOrder (g : Given) : Type 0 where
  pub rising : IsRisingFrom 1 g.list
  pub within : All (λ x. x.0 ≤ g.lines) g.list

-- what a table lists is in order
table_in_order : (xs : List (Option Answer)) → IsInOrder (record { lines = length xs; list = listed 1 xs })
table_in_order xs = record { rising = IsRisingFrom-listed xs 1; within = All-listed xs 1 (length xs) (omega arith) }

-- and so is each value that stands for a table
pub in_order : (xs : List (Option Answer)) (g : Given) → record { lines = length xs; list = listed 1 xs } ≡ g → IsInOrder g
in_order xs g e = subst (λ (h : Given). IsInOrder h) e (table_in_order xs)
