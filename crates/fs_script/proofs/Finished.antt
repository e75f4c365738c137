-- A job that is legal so far, with an answer to each of its operations, has a legal report.
use Rattle.fs_types.proofs.Common.{common_steps, ◌≡◌, ℕ, zero, suc, ◌<◌, ◌==◌, List, [], ◌∷◌, length, map, Some, IsSome, is_some, Contains}
use Rattle.fs_types.proofs.Common.{slice_index_or, refl, ap, arith, cond_both, eqb-false, slice_get_within, get_or_from_slice_get}
use Rattle.fs_script.specs.Vocabulary.{Answer, answer_at, OpLine, Job, op_at, op_lines, Report, HasShape, FilesAreStates, SlotsAreCounted}
use Rattle.fs_script.specs.Vocabulary.{IsLegal, answers_of, journal_of, IsLegalSoFar}
use Rattle.fs_script.proofs.PlainLists.{passing-place, some_of}
use Rattle.fs_script.proofs.Jobs.{op_at-within}

-- ---- the lines that are operations

-- each line that is an operation is in the list
op_lines-contains : (s : Job) (n : ℕ) (o : OpLine) → op_at s n ≡ Some o → Contains (op_lines s) n
op_lines-contains s n o is =
    let within = op_at-within s n o is in
    let at = passing-place (λ m. is_some (op_at s m)) 2 (length s.lines) n (ap is_some is) within.0 within.1 in
    (at.0, slice_get_within (op_lines s) at.0 n at.1, get_or_from_slice_get (op_lines s) at.0 n n at.1)

-- ---- the answers

-- a line at place k of the list has an answer
answer_at-listed : (xs : List (ℕ × Answer)) (n k : ℕ) → k < length (map (λ (a : ℕ × Answer). a.0) xs)
    → slice_index_or (map (λ (a : ℕ × Answer). a.0) xs) k n ≡ n → IsSome (answer_at xs n)
answer_at-listed [] n k below same = absurd (omega arith)
answer_at-listed (x ∷ xs) n zero below same = cond_both (x.0 == n) (Some x.1) (answer_at xs n) (λ a. IsSome a) (λ _. refl)
    (λ other. absurd (eqb-false x.0 n other same))
answer_at-listed (x ∷ xs) n (suc k) below same = cond_both (x.0 == n) (Some x.1) (answer_at xs n) (λ a. IsSome a) (λ _. refl)
    (λ _. answer_at-listed xs n k (omega arith) same)

-- a report of the right shape answers each operation
answered-in_report : {s : Job} {R : Report} (n : ℕ) (o : OpLine) → HasShape s R → op_at s n ≡ Some o → IsSome (answers_of R n)
answered-in_report {s} {R} n o shape is = grind (arith, common_steps, op_lines-contains, answer_at-listed)

pub IsLegal-finished : {told : List ℕ} {s : Job} {R : Report} → HasShape s R → FilesAreStates s R → SlotsAreCounted s R
    → IsLegalSoFar told s (answers_of R) (journal_of R.journals) → IsLegal s R told
IsLegal-finished {s} {R} shape files slots so_far = record {
  shape = shape;
  journals = so_far.legal;
  lines = λ n o is.
      let given = some_of (answers_of R n) (answered-in_report n o shape is) in
      record { answer = given.0; given = given.1; fits = (so_far.fit o.path).each n o given.0 is refl given.1 };
  files = files;
  slots = slots;
}

pub ruleset finished = (IsLegal-finished)
