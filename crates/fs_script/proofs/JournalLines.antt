-- The lines of a legal journal: operations of the job, no two of them one, and so no more than the job has lines.
use Rattle.fs_types.proofs.Common.{◌≡◌, ℕ, suc, ◌+◌, ◌<◌, ◌≤◌, ◌==◌, List, length, get_or, Option, Some, None, ap, ◌∙◌, refl, All, arith}
use Rattle.fs_types.proofs.Common.{IsDistinct, eqb-true, ne_eqb, none-some, slice_get-get_or, All-contains, IsDistinct-from_apart}
use Rattle.fs_types.proofs.Common.{length-le_from_distinct_below, Contains-from_any}
use Rattle.fs_script.specs.Vocabulary.{OpLine, Job, op_at, Answering, commit_in, IsLegalJournal}
use Rattle.fs_script.proofs.Jobs.{op_at-within}

module _ (s : Job) (A : Answering) (p : List ℕ) where
  -- what is committed is a line of the job
  pub commit_in-within : (n v : ℕ) (o : Option OpLine) → op_at s n ≡ o → commit_in s A p n o ≡ Some v → n < 2 + length s.lines
  commit_in-within n v None is commits = absurd (none-some v commits)
  commit_in-within n v (Some o) is commits = (op_at-within s n o is).1

  module _ (J : List ℕ) (legal : IsLegalJournal s A p J) where
    -- each is a line of the job
    pub journal-within : All (λ n. n < 2 + length s.lines) J
    journal-within k d below =
        let entry = legal.entries k (get_or J k d) (slice_get-get_or J k d below) in
        commit_in-within (get_or J k d) (suc k) (op_at s (get_or J k d)) refl entry.committed

    IsDistinct-journal : IsDistinct ◌==◌ J
    IsDistinct-journal = IsDistinct-from_apart ◌==◌ J (λ i k d less below. ne_eqb (get_or J i d) (get_or J k d) (λ same.
        let entry = legal.entries k (get_or J k d) (slice_get-get_or J k d below) in
        let one = entry.once i (slice_get-get_or J i d (omega arith) ∙ ap Some same) in
        omega arith))

    -- so there are no more versions than lines of the script
    pub length-journal : length J ≤ 2 + length s.lines
    length-journal = length-le_from_distinct_below J (2 + length s.lines) IsDistinct-journal
        (λ n has. All-contains (λ m. m < 2 + length s.lines) J n journal-within (Contains-from_any eqb-true n J has))
