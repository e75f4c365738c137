-- The laws of lists of answers by line.
use Rattle.std.specs.Prelude.{◌≡◌, ℕ, ◌<◌, ◌==◌, if◌then◌else◌, List, [], ◌∷◌, ◌++◌, Some, All}
use Rattle.fs_types.specs.AnswerList.{answer_at, put_answer, answers_given, IsRising}
use Rattle.fs_types.specs.declared.answer.Answer.{Answer}

-- a line has the answer that was put there, and each other line the answer that it had
abbrev pub PutsOneAnswer : Type 0
PutsOneAnswer = (xs : List (ℕ × Answer)) (n m : ℕ) (a : Answer) →
    answer_at (put_answer n a xs) m ≡ (if m == n then Some a else answer_at xs m)

-- an answer that is put into a rising list leaves it rising
abbrev pub PutsInOrder : Type 0
PutsInOrder = (xs : List (ℕ × Answer)) (n : ℕ) (a : Answer) → IsRising xs → IsRising (put_answer n a xs)

-- every list that is made by putting answers is rising
abbrev pub GivenAnswersRise : Type 0
GivenAnswersRise = (given : List (ℕ × Answer)) → IsRising (answers_given given)

-- an answer to a line above all others goes to the end
abbrev pub PutsAboveAtEnd : Type 0
PutsAboveAtEnd = (xs : List (ℕ × Answer)) (n : ℕ) (a : Answer) →
    All (λ x. x.0 < n) xs → put_answer n a xs ≡ xs ++ (n, a) ∷ []

-- two rising lists that answer each line alike are one
abbrev pub AnswersDecideTheList : Type 0
AnswersDecideTheList = (xs ys : List (ℕ × Answer)) → IsRising xs → IsRising ys →
    ((n : ℕ) → answer_at xs n ≡ answer_at ys n) → xs ≡ ys
