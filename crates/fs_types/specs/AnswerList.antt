-- Lists of answers by line, the lowest line first.
use Rattle.std.specs.Prelude.{ℕ, suc, ◌≤◌, ◌==◌, nat_lt, List, [], ◌∷◌, Option, Some, None, if◌then◌else◌}
use Rattle.fs_types.specs.declared.answer.Answer.{Answer}

-- answers with their lines, and the number of lines that there is room for
pub record Given : Type 0 where
  pub lines : ℕ
  pub list : List (ℕ × Answer)

-- the answer to a line, if there is one
abbrev pub answer_at : List (ℕ × Answer) → ℕ → Option Answer
answer_at [] n = None
answer_at (x ∷ xs) n = if x.0 == n then Some x.1 else answer_at xs n

-- the list with this answer to this line, in its place
abbrev pub put_answer : ℕ → Answer → List (ℕ × Answer) → List (ℕ × Answer)
put_answer n a [] = (n, a) ∷ []
put_answer n a (x ∷ xs) =
    if nat_lt n x.0 then (n, a) ∷ x ∷ xs
    else if x.0 == n then (n, a) ∷ xs
    else x ∷ put_answer n a xs

-- the answers that a table has, whose first place is line n
abbrev pub listed : ℕ → List (Option Answer) → List (ℕ × Answer)
listed n [] = []
listed n (None ∷ xs) = listed (suc n) xs
listed n (Some a ∷ xs) = (n, a) ∷ listed (suc n) xs

-- each line is n or more, and greater than the line before it
abbrev pub IsRisingFrom : ℕ → List (ℕ × Answer) → Type 0
IsRisingFrom n [] = Unit {0}
IsRisingFrom n (x ∷ xs) = (n ≤ x.0) × IsRisingFrom (suc x.0) xs

-- each line is greater than the line before it
abbrev pub IsRising : List (ℕ × Answer) → Type 0
IsRising xs = IsRisingFrom 0 xs

-- the list after these answers, of which the last one stands first
abbrev pub answers_given : List (ℕ × Answer) → List (ℕ × Answer)
answers_given [] = []
answers_given (x ∷ xs) = put_answer x.0 x.1 (answers_given xs)
