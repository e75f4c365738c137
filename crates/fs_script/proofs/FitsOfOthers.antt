-- What would fit a line that has no answer yet goes on fitting as another client's answer comes: one that commits nothing, or one
-- whose line comes to the end of its path's journal.
use Rattle.fs_types.proofs.Common.{◌≡◌, ◌≢◌, ℕ, ◌≤◌, bytes_eq, true≢false, sym, ap, ◌∙◌, subst, inl, inr, cases_Bool, same_Some}
use Rattle.fs_types.proofs.Common.{List, [], ◌∷◌, ◌++◌, bytes_eq-Decides}
use Rattle.fs_script.specs.Vocabulary.{Answer, OpLine, Job, op_at, rank_at, rank_in, phase, Answering, Fits, AgreeBefore, SamePending}
use Rattle.fs_script.specs.Vocabulary.{JournalsByPath, IsLegalSoFar, IsNextAnswer, Pushes}
use Rattle.fs_script.proofs.FitsGrows.{Fits-agree, Fits-grows}
use Rattle.fs_script.proofs.InReach.{front-le-length_fit}
use Rattle.fs_script.proofs.JournalGrows.{own_op-rank, pending_at-in_journal}

module _ {told : List ℕ} {s : Job} {A B : Answering} {journals : JournalsByPath} {n : ℕ} {o : OpLine} {a : Answer}
    (here : IsNextAnswer s A n o a B) (so_far : IsLegalSoFar told s A journals) where
  same : (p : List ℕ) → SamePending s A B (journals p)
  same p = pending_at-in_journal here.adds here.next (so_far.legal p)

  -- the operation l of another client
  module _ (l : OpLine) (other : l.rank ≢ o.rank) where
    agrees : (m : ℕ) (p : List ℕ) → AgreeBefore s l.rank p A B m
    agrees m p k below own = sym (here.adds.others k (λ e.
        other (same_Some l.rank o.rank (sym (own_op-rank l.rank p (op_at s k) own) ∙ ap (rank_at s) e ∙ ap rank_in here.op))))

    -- the answer commits nothing to its path
    pub Fits-kept_other : (m : ℕ) (b : Answer) → Fits told s A (journals l.path) m l b → Fits told s B (journals l.path) m l b
    Fits-kept_other m b fits = Fits-agree B (agrees m) (same l.path) fits

    -- the answer commits its line, which is of no earlier phase
    pub Fits-commit_other : (m : ℕ) (b : Answer) (after : JournalsByPath) → Pushes journals o.path n after → phase s m ≤ phase s n
        → Fits told s A (journals l.path) m l b → Fits told s B (after l.path) m l b
    Fits-commit_other m b after pushes later fits = elim (cases_Bool (bytes_eq o.path l.path)) [
      | inl on ↦
          let path = (bytes_eq-Decides o.path l.path).0 on in
          let front = front-le-length_fit l.rank m (so_far.fit l.path) in
          subst (λ J. Fits told s B J m l b) (sym (subst (λ p. after p ≡ journals p ++ n ∷ []) path pushes.here))
          (Fits-grows B n (agrees m) (same l.path) later front fits)
      | inr off ↦
          let apart = pushes.others l.path (λ e. true≢false (sym ((bytes_eq-Decides o.path l.path).1 e) ∙ off)) in
          subst (λ J. Fits told s B J m l b) (sym apart) (Fits-kept_other m b fits)
    ]
