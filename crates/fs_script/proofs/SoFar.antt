-- A job stays legal so far as its next answer comes: one that commits nothing, or one whose line comes to the end of its path's journal.
use Rattle.fs_types.proofs.Common.{common_steps, ◌≡◌, ◌≢◌, ℕ, suc, ◌≤◌, true, List, [], ◌∷◌, ◌++◌, length, Some, None, is_some, bytes_eq}
use Rattle.fs_types.proofs.Common.{true≢false, sym, ap, ◌∙◌, subst, inl, inr, arith, cases_Bool, cond-true, cond-false, false_from_ne_true}
use Rattle.fs_types.proofs.Common.{same_Some, bytes_eq-Decides}
use Rattle.fs_script.specs.Vocabulary.{Answer, OpLine, Job, op_at, rank_in, phase, Answering, pending, pending_at, front, is_enabled, state}
use Rattle.fs_script.specs.Vocabulary.{Fits, commit_by, committed, enabled_in, IsLegalJournal, AddsAnswer, IsOfNoEarlierPhase, AllFit}
use Rattle.fs_script.specs.Vocabulary.{JournalsByPath, IsLegalSoFar, IsNextAnswer, Pushes}
use Rattle.fs_script.proofs.FitsGrows.{Fits-agree, Fits-grows}
use Rattle.fs_script.proofs.JournalGrows.{pending_at-next, AgreeBefore-next, AgreeBefore-answered, pending_at-in_journal}
use Rattle.fs_script.proofs.JournalGrows.{answered-in_journal, IsLegalJournal-kept, IsLegalJournal-commit}
use Rattle.fs_script.proofs.InReach.{front-le-length_fit}
use Rattle.fs_script.proofs.PlainLists.{AllByRecursion-from_get, AllByRecursion-push}

-- ---- what a line commits, by its operation and answer

-- to its own path
pub committed-own : (s : Job) (A : Answering) (n : ℕ) (o : OpLine) → op_at s n ≡ Some o
    → committed s A o.path n ≡ commit_by o.op (pending s A o.rank o.path n) (A n)
committed-own s A n o is = grind (arith, common_steps, cond-true, bytes_eq-Decides)

-- and to another
pub committed-off : (s : Job) (A : Answering) (n : ℕ) (o : OpLine) (p : List ℕ) → op_at s n ≡ Some o → o.path ≢ p → committed s A p n ≡ None
committed-off s A n o p is off = grind (arith, common_steps, false_from_ne_true, bytes_eq-Decides, cond-false)

-- ---- before any answer

pub IsLegalSoFar-none : (told : List ℕ) (s : Job) (A : Answering) (journals : JournalsByPath) → ((n : ℕ) → A n ≡ None)
    → ((p : List ℕ) → journals p ≡ []) → IsLegalSoFar told s A journals
IsLegalSoFar-none told s A journals none empty = grind (arith, common_steps)

-- ---- the next answer

-- a line answered is the new one, or was answered before
answered-cases : {C : Type 0} {A B : Answering} (m : ℕ) {n : ℕ} {a : Answer} (b : Answer) → AddsAnswer A n a B → B m ≡ Some b
    → (m ≡ n → a ≡ b → C) → (A m ≡ Some b → C) → C
answered-cases {B} m {n} {a} b adds given new old = grind (arith, common_steps)

-- the answers on a path go on fitting its journal, where the new one, if it is on it, fits
AllFit-kept : {told : List ℕ} {s : Job} {A B : Answering} {J : List ℕ} {n : ℕ} {o : OpLine} {a : Answer} {p : List ℕ}
    → IsNextAnswer s A n o a B → IsLegalJournal s A p J → AllFit told s A p J → (o.path ≡ p → Fits told s A J n o a) → AllFit told s B p J
AllFit-kept {told} {s} {A} {B} {J} {n} {o} {a} {p} here legal fit new =
    let same = pending_at-in_journal here.adds here.next legal in
    record {
      each = λ m l b is on given. answered-cases m b here.adds given
          (λ now gives.
          let does : o ≡ l = same_Some o l (sym here.op ∙ (ap (op_at s) (sym now) ∙ is)) in
          let fits = new (ap (λ x. x.path) does ∙ on) in
          let kept = Fits-agree B (λ q. AgreeBefore-next s o.rank q n here.adds (omega arith)) same fits in
          subst (λ k. Fits told s B J k l b) (sym now) (subst (λ x. Fits told s B J n x b) does
          (subst (λ x. Fits told s B J n o x) gives kept)))
          (λ before. Fits-agree B (λ q. AgreeBefore-answered q m b l.rank here.adds here.next before (ap rank_in is)) same
          (fit.each m l b is on before));
    }

-- an answer that commits nothing and fits
pub IsLegalSoFar-kept : {told : List ℕ} {s : Job} {A B : Answering} {journals : JournalsByPath} {n : ℕ} {o : OpLine} {a : Answer}
    → IsNextAnswer s A n o a B → IsLegalSoFar told s A journals
    → commit_by o.op (pending s B o.rank o.path n) (B n) ≡ None → Fits told s A (journals o.path) n o a → IsLegalSoFar told s B journals
IsLegalSoFar-kept {told} {s} {A} {B} {journals} {n} {o} {a} here so_far none fits = record {
  legal = λ p. IsLegalJournal-kept here.adds here.next (commits_nothing p) (so_far.legal p);
  fit = λ p. AllFit-kept here (so_far.legal p) (so_far.fit p) (λ on. subst (λ q. Fits told s A (journals q) n o a) on fits);
}
  where
    commits_nothing : (p : List ℕ) → committed s B p n ≡ None
    commits_nothing p =
        elim (cases_Bool (bytes_eq o.path p)) [
          | inl same ↦ subst (λ q. committed s B q n ≡ None) ((bytes_eq-Decides o.path p).0 same) (committed-own s B n o here.op ∙ none)
          | inr other ↦ committed-off s B n o p here.op (λ e. true≢false (sym ((bytes_eq-Decides o.path p).1 e) ∙ other))
        ]

-- the answers on the path of a commit go on fitting, and its own fits in the longer journal
AllFit-commit : {told : List ℕ} {s : Job} {A B : Answering} {J : List ℕ} {n : ℕ} {o : OpLine} {a : Answer} → IsNextAnswer s A n o a B
    → IsLegalJournal s A o.path J → AllFit told s A o.path J → Fits told s A (J ++ n ∷ []) n o a → AllFit told s B o.path (J ++ n ∷ [])
AllFit-commit {told} {s} {A} {B} {J} {n} {o} {a} here legal fit new =
    let same = pending_at-in_journal here.adds here.next legal in
    let longer = AllByRecursion-push (λ m. pending_at s A m ≡ pending_at s B m) J n same (pending_at-next s here.adds) in
    record {
      each = λ m l b is on given. answered-cases m b here.adds given
          (λ now gives.
          let does : o ≡ l = same_Some o l (sym here.op ∙ (ap (op_at s) (sym now) ∙ is)) in
          let kept = Fits-agree B (λ q. AgreeBefore-next s o.rank q n here.adds (omega arith)) longer new in
          subst (λ k. Fits told s B (J ++ n ∷ []) k l b) (sym now)
          (subst (λ x. Fits told s B (J ++ n ∷ []) n x b) does (subst (λ x. Fits told s B (J ++ n ∷ []) n o x) gives kept)))
          (λ before.
          let within = subst (λ q. front s A J l.rank q m ≤ length J) (sym on) (front-le-length_fit l.rank m fit) in
          Fits-grows B n (λ q. AgreeBefore-answered q m b l.rank here.adds here.next before (ap rank_in is)) same
          (here.phases m (ap is_some before)) within (fit.each m l b is on before));
    }

-- an answer that commits its line, which is enabled, and fits in the journal with the line at its end
pub IsLegalSoFar-commit : {told : List ℕ} {s : Job} {A B : Answering} {journals after : JournalsByPath} {n : ℕ} {o : OpLine} {a : Answer}
    → IsNextAnswer s A n o a B → IsLegalSoFar told s A journals → Pushes journals o.path n after
    → commit_by o.op (pending s B o.rank o.path n) (B n) ≡ Some (suc (length (journals o.path)))
    → is_enabled o.op (state s A (journals o.path) (length (journals o.path))) ≡ true
    → Fits told s A (journals o.path ++ n ∷ []) n o a → IsLegalSoFar told s B after
IsLegalSoFar-commit {told} {s} {A} {B} {journals} {after} {n} {o} {a} here so_far pushes commits enabled fits = record {
  legal = λ p. at p (λ J. IsLegalJournal s B p J) (λ on. subst (λ q. IsLegalJournal s B q (journals q ++ n ∷ [])) on legal_here)
      (λ off. IsLegalJournal-kept here.adds here.next (committed-off s B n o p here.op off) (so_far.legal p));
  fit = λ p. at p (λ J. AllFit told s B p J) (λ on. subst (λ q. AllFit told s B q (journals q ++ n ∷ [])) on
      (AllFit-commit here (so_far.legal o.path) (so_far.fit o.path) fits))
      (λ off. AllFit-kept here (so_far.legal p) (so_far.fit p) (λ on. absurd (off on)));
}
  where
    at : (p : List ℕ) (P : List ℕ → Type 0) → (o.path ≡ p → P (journals p ++ n ∷ [])) → (o.path ≢ p → P (journals p)) → P (after p)
    at p P on off =
        elim (cases_Bool (bytes_eq o.path p)) [
          | inl same ↦
              let is = (bytes_eq-Decides o.path p).0 same in
              subst P (sym (subst (λ q. after q ≡ journals q ++ n ∷ []) is pushes.here)) (on is)
          | inr other ↦
              let is_not : o.path ≢ p = λ e. true≢false (sym ((bytes_eq-Decides o.path p).1 e) ∙ other) in
              subst P (sym (pushes.others p is_not)) (off is_not)
        ]

    later : IsOfNoEarlierPhase s n (journals o.path)
    later = AllByRecursion-from_get (λ m. phase s m ≤ phase s n) (journals o.path)
        (λ k m there. here.phases m (answered-in_journal k m (so_far.legal o.path) there))

    legal_here : IsLegalJournal s B o.path (journals o.path ++ n ∷ [])
    legal_here = IsLegalJournal-commit here.adds here.next (committed-own s B n o here.op ∙ commits)
        (subst (λ x. enabled_in x (λ op. is_enabled op (state s A (journals o.path) (length (journals o.path)))) ≡ true) (sym here.op)
        enabled) later (so_far.legal o.path)

pub ruleset next_answers = (IsLegalSoFar-kept, IsLegalSoFar-commit)
