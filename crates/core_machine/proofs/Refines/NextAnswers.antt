-- What an answer to the line that comes next changes of what its client knows, as seen from the script's end.
use Rattle.fs_types.proofs.Common.{common_steps, ◌≡◌, ℕ, zero, suc, ◌≤◌, List, Option, Some, None, IsSome, refl, ap, ◌∙◌, inl, inr, arith}
use Rattle.fs_types.proofs.Common.{cases_lt, AllByRecursion}
use Rattle.fs_script.specs.Vocabulary.{Answer, Job, own_at, rank_at, marks_in, Answering, one_more, over_answers, marks_at, AddsAnswer}
use Rattle.fs_script.specs.Vocabulary.{pending_at, ComesNext, AgreeBefore, SamePending}
use Rattle.core_machine.specs.Vocabulary.{Op}
use Rattle.fs_script.proofs.CallerLemmas.{state_in-agree, pending_at-answered, some_of, AllByRecursion-weaker}

-- ---- a client and a path that the line is not of

-- where the line isn't the client's on the path, its answer changes nothing there
pub AgreeBefore-elsewhere : (s : Job) (r : ℕ) (p : List ℕ) (A B : Answering) (n : ℕ) (a : Answer) (m : ℕ) → AddsAnswer A n a B
    → own_at s r p n ≡ None → AgreeBefore s r p A B m
AgreeBefore-elsewhere s r p A B n a m adds none k below own = grind (arith, common_steps)

-- ---- the line's own client and path

-- no line of the client on the path from a line on has an answer
abbrev pub IsOpenFrom : Job → ℕ → List ℕ → Answering → ℕ → Type 0
IsOpenFrom s r p A n = (k : ℕ) → n ≤ k → IsSome (own_at s r p k) → A k ≡ None

-- so what it knows at a later line is what it knows at that line
pub over_answers-until : {X : Type 0} (step : Op → Answer → ℕ → X → X) (x : X) (s : Job) (r : ℕ) (p : List ℕ) (A : Answering) (n end : ℕ)
    → n ≤ end → IsOpenFrom s r p A n → over_answers step x s A r p end ≡ over_answers step x s A r p n
over_answers-until step x s r p A n zero le from = let e : zero ≡ n = omega arith in ap (over_answers step x s A r p) e
over_answers-until step x s r p A n (suc m) le from =
    elim (cases_lt m n) [
      | inl past ↦ (let e : suc m ≡ n = omega arith in ap (over_answers step x s A r p) e)
      | inr within ↦ one (own_at s r p m) (from m within) ∙ over_answers-until step x s r p A n m within from
    ]
  where
    one : (o : Option Op) → (IsSome o → A m ≡ None) → one_more step o (A m) m (over_answers step x s A r p m)
        ≡ over_answers step x s A r p m
    one None none = refl
    one (Some op) none = ap (λ a. one_more step (Some op) a m (over_answers step x s A r p m)) (none refl)

-- a line that comes next is open with all later ones of its client
pub IsOpenFrom-next : (s : Job) (r : ℕ) (p : List ℕ) (A : Answering) (n : ℕ) → ComesNext s A n → rank_at s n ≡ Some r
    → ((k : ℕ) → IsSome (own_at s r p k) → rank_at s k ≡ Some r) → IsOpenFrom s r p A n
IsOpenFrom-next s r p A n next mine ranks k from own = grind (arith, common_steps)

-- and after its answer the later ones are
pub IsOpenFrom-answered : (s : Job) (r : ℕ) (p : List ℕ) (A B : Answering) (n : ℕ) (a : Answer) → AddsAnswer A n a B → IsOpenFrom s r p A n
    → IsOpenFrom s r p B (suc n)
IsOpenFrom-answered s r p A B n a adds from k later own = adds.others k (λ e. omega arith) ∙ from k (omega arith) own

-- ---- files

-- nothing pending at lines that were answered changes
pub SamePending-answered : (s : Job) (A B : Answering) (J : List ℕ) (n : ℕ) (a : Answer) → AddsAnswer A n a B → ComesNext s A n
    → AllByRecursion (λ m. IsSome (A m)) J → SamePending s A B J
SamePending-answered s A B J n a adds next =
    AllByRecursion-weaker (λ m. IsSome (A m)) (λ m. pending_at s A m ≡ pending_at s B m) J (λ m answered.
    let given = some_of (A m) answered in
    pending_at-answered m given.0 adds next given.1)

-- the marks of the file at a version of a journal whose lines were all answered
pub marks-answered : (s : Job) (A B : Answering) (J : List ℕ) (n v : ℕ) (a : Answer) → AddsAnswer A n a B → ComesNext s A n
    → AllByRecursion (λ m. IsSome (A m)) J → marks_at s A J v ≡ marks_at s B J v
marks-answered s A B J n v a adds next all = state_in-agree s (marks_in s) A B J v (SamePending-answered s A B J n a adds next all)
