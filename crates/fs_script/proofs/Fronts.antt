-- Phases rise with the lines, and a front doesn't change while the journal grows by lines of no earlier phase.
use Rattle.fs_types.proofs.Common.{common_steps, ◌≡◌, ℕ, ◌-◌, ◌≤◌, List, [], ◌∷◌, ◌++◌, length, max, nat_lt, ap, arith, count_by-le-length}
use Rattle.fs_script.specs.Vocabulary.{Job, is_barrier, phase, Answering, seen, of_earlier_phases, front, AgreeBefore}
use Rattle.fs_script.proofs.Agreement.{over_answers-agree}
use Rattle.fs_script.proofs.PlainLists.{count_by-take-rises}

pub phase-rises : (s : Job) (m n : ℕ) → m ≤ n → phase s m ≤ phase s n
phase-rises s m n le = count_by-take-rises is_barrier s.lines (m - 2) (n - 2) (omega arith)

pub of_earlier_phases-le-length : (s : Job) (n : ℕ) (J : List ℕ) → of_earlier_phases s n J ≤ length J
of_earlier_phases-le-length s n J = count_by-le-length (λ m. nat_lt (phase s m) (phase s n)) J

-- a line of no earlier phase than n, put at the end, is none of the earlier phases
pub of_earlier_phases-push : (s : Job) (n m : ℕ) (J : List ℕ) → phase s n ≤ phase s m
    → of_earlier_phases s n (J ++ m ∷ []) ≡ of_earlier_phases s n J
of_earlier_phases-push s n m J le = grind (arith, common_steps)

pub front-push : (s : Job) (A : Answering) (J : List ℕ) (r : ℕ) (p : List ℕ) (n m : ℕ) → phase s n ≤ phase s m
    → front s A (J ++ m ∷ []) r p n ≡ front s A J r p n
front-push s A J r p n m le = ap (λ k. max (seen s A r p n) k) (of_earlier_phases-push s n m J le)

pub front-agree : (s : Job) (A B : Answering) (J : List ℕ) (r : ℕ) (p : List ℕ) (n : ℕ) → AgreeBefore s r p A B n
    → front s A J r p n ≡ front s B J r p n
front-agree s A B J r p n h = ap (λ k. max k (of_earlier_phases s n J)) (over_answers-agree _ _ s r p A B n h)
