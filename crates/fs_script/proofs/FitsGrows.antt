-- An answer that fits goes on fitting: as answers come that change nothing before its line or pending at the journal's lines,
-- and as the journal grows at its end by lines of no earlier phase.
use Rattle.fs_types.proofs.Common.{common_steps, ◌≡◌, ℕ, zero, suc, ◌≤◌, Bool, true, false, IsTrue, List, [], ◌∷◌, ◌++◌, length, Option}
use Rattle.fs_types.proofs.Common.{Some, None, IsSome, IsNone, IfSome, MatchBool, sym, subst, arith, none-some, ◌+◌}
use Rattle.fs_script.specs.Vocabulary.{Answer, File, is_open_to_change, is_frozen, OpLine, Op, Job, phase, Write, brought, bytes_of, asked}
use Rattle.fs_script.specs.Vocabulary.{commits, version_of, Answering, state, front, IsInReach, entry, AreTold, AgreesWithOpen, LineView}
use Rattle.fs_script.specs.Vocabulary.{line_view, MayWrite, IsAtFront, Accepts, EndsPast, LacksSpace, ShowsAsked, IsInTable, Fits}
use Rattle.fs_script.specs.Vocabulary.{AgreeBefore, SamePending}
use Rattle.fs_script.proofs.Agreement.{pending-agree, over_answers-agree, accepted_before-agree}
use Rattle.fs_script.proofs.States.{state_in-agree, state_in-push}
use Rattle.fs_script.proofs.Fronts.{front-agree, front-push}
use Rattle.fs_script.proofs.PlainLists.{slice_get-push}
use Rattle.fs_types.specs.declared.answer.Answer.TheVariants as answers
use Rattle.fs_script.specs.Effect.{view_of}
use Rattle.fs_script.specs.Fits.{IsSized}

-- ---- answers come

IsInReach-agree : {s : Job} {A : Answering} (B : Answering) {J : List ℕ} {n : ℕ} {o : OpLine} {v : ℕ} → AgreeBefore s o.rank o.path A B n
    → IsInReach s A J n o v → IsInReach s B J n o v
IsInReach-agree {s} {A} B {J} {n} {o} {v} h reach = record {
  front = subst (λ k. k ≤ v) (front-agree s A B J o.rank o.path n h) reach.front;
  length = reach.length;
  no_later = reach.no_later;
}

IfSome-agree : (s : Job) (A B : Answering) (J : List ℕ) (n : ℕ) (o : OpLine) (v : Option ℕ) → AgreeBefore s o.rank o.path A B n
    → IfSome v (λ w. IsInReach s A J n o w) → IfSome v (λ w. IsInReach s B J n o w)
IfSome-agree s A B J n o None h reach = tt
IfSome-agree s A B J n o (Some v) h reach = IsInReach-agree B h reach

-- what an answer is checked against is the same
line_view-agree : (s : Job) (A B : Answering) (J : List ℕ) (n : ℕ) (o : OpLine) → ((p : List ℕ) → AgreeBefore s o.rank p A B n)
    → SamePending s A B J → line_view s A J n o ≡ line_view s B J n o
line_view-agree s A B J n o h same i = record {
  number = n;
  journal = J;
  file = λ v. state_in-agree s (bytes_of s) A B J v same i;
  front = front-agree s A B J o.rank o.path n (h o.path) i;
  pending = pending-agree s o.rank o.path A B n (h o.path) i;
  sees = λ own. view_of s (bytes_of s) own (pending-agree s o.rank o.path A B n (h o.path) i);
  chunk = s.shape.chunk;
  slots = s.shape.shmem + s.shape.spill;
  accepted = accepted_before-agree s o.rank A B n h i;
}

-- answers of others, and later answers of the same client, leave it fitting
pub Fits-agree : {told : List ℕ} {s : Job} {A : Answering} (B : Answering) {J : List ℕ} {n : ℕ} {o : OpLine} {a : Answer}
    → ((p : List ℕ) → AgreeBefore s o.rank p A B n) → SamePending s A B J → Fits told s A J n o a → Fits told s B J n o a
Fits-agree {told} {s} {A} B {J} {n} {o} {a} h same fits = record {
  opened = subst (λ b. AgreesWithOpen o.op b a) (over_answers-agree _ _ s o.rank o.path A B n (h o.path)) fits.opened;
  version = IfSome-agree s A B J n o (version_of a) (h o.path) fits.version;
  answer = subst (λ w. IsInTable (AreTold s told) w o.op a) (line_view-agree s A B J n o h same) fits.answer;
}

-- ---- the journal grows

entry-push : (J : List ℕ) (m v n : ℕ) → entry J v ≡ Some n → entry (J ++ m ∷ []) v ≡ Some n
entry-push J m zero n h = absurd (none-some n h)
entry-push J m (suc k) n h = slice_get-push J m k n h

IsInReach-push : {s : Job} {A : Answering} {J : List ℕ} (m : ℕ) {n : ℕ} {o : OpLine} {v : ℕ} → phase s n ≤ phase s m → IsInReach s A J n o v
    → IsInReach s A (J ++ m ∷ []) n o v
IsInReach-push {s} {A} {J} m {n} {o} {v} later reach = grind (arith, common_steps)

IfSome-push : (s : Job) (A : Answering) (J : List ℕ) (m n : ℕ) (o : OpLine) (v : Option ℕ) → phase s n ≤ phase s m
    → IfSome v (λ w. IsInReach s A J n o w) → IfSome v (λ w. IsInReach s A (J ++ m ∷ []) n o w)
IfSome-push s A J m n o None later reach = tt
IfSome-push s A J m n o (Some v) later reach = IsInReach-push m later reach

-- a version that an answer prints keeps its file
version-state-push : (s : Job) (A : Answering) (J : List ℕ) (m n : ℕ) (o : OpLine) (v : Option ℕ) → IfSome v (λ w. IsInReach s A J n o w)
    → IfSome v (λ w. state s A (J ++ m ∷ []) w ≡ state s A J w)
version-state-push s A J m n o None reach = tt
version-state-push s A J m n o (Some v) reach = state_in-push s (bytes_of s) A J m v reach.length

MatchBool-push : {P Q R S : Type 0} (b : Bool) → (P → R) → (Q → S) → MatchBool b P Q → MatchBool b R S
MatchBool-push true f g h = f h
MatchBool-push false f g h = g h

-- a longer journal, and the file that each version has in it
abbrev longer_view : LineView → List ℕ → (ℕ → File ℕ) → LineView
longer_view w K g = record w { journal = K; file = g }

Accepts-push : (w : LineView) (K : List ℕ) (g : ℕ → File ℕ) (x : Option Write) (slots : ℕ) → (MayWrite w → MayWrite (longer_view w K g))
    → Accepts w x slots → Accepts (longer_view w K g) x slots
Accepts-push w K g None slots writes h = h
Accepts-push w K g (Some x) slots writes h = (writes h.0, h.1, h.2)

EndsPast-push : (w : LineView) (K : List ℕ) (g : ℕ → File ℕ) (x : Option Write) → (MayWrite w → MayWrite (longer_view w K g)) → EndsPast w x
    → EndsPast (longer_view w K g) x
EndsPast-push w K g None writes h = h
EndsPast-push w K g (Some x) writes h = (writes h.0, h.1)

LacksSpace-push : (w : LineView) (K : List ℕ) (g : ℕ → File ℕ) (x : Option Write) (need free : ℕ)
    → (MayWrite w → MayWrite (longer_view w K g)) → LacksSpace w x need free → LacksSpace (longer_view w K g) x need free
LacksSpace-push w K g None need free writes h = h
LacksSpace-push w K g (Some x) need free writes h = record {
  may_write = writes h.may_write;
  end = h.end;
  need = h.need;
  few = h.few;
  within = h.within;
  held = h.held;
}

IsAtFront-push : (w : LineView) (K : List ℕ) (g : ℕ → File ℕ) (x : Option Write) (v : ℕ) → IsAtFront w x v
    → IsAtFront (longer_view w K g) x v
IsAtFront-push w K g None v h = h
IsAtFront-push w K g (Some x) v h = h

-- with a longer journal, the same files at the versions that an answer prints, and no file taken from a writer
IsInTable-push : (compared : Type 0) (w : LineView) (K : List ℕ) (g : ℕ → File ℕ) (op : Op) (a : Answer)
    → ((v n : ℕ) → entry w.journal v ≡ Some n → entry K v ≡ Some n) → IfSome (version_of a) (λ v. g v ≡ w.file v)
    → (MayWrite w → MayWrite (longer_view w K g)) → IsInTable compared w op a → IsInTable compared (longer_view w K g) op a
IsInTable-push compared w K g op (answers.Done v) entries file writes h =
    MatchBool-push (commits op w.pending) (entries v w.number) (λ k. (k.0, subst (λ f. IsSome f) (sym file) k.1)) h
IsInTable-push compared w K g op (answers.Wrote slots) entries file writes h = Accepts-push w K g (brought op) slots writes h
IsInTable-push compared w K g op (answers.Staged v n slots) entries file writes h = h
IsInTable-push compared w K g op (answers.Sized v n frozen) entries file writes h = (h.0, subst (λ f. IsSized f n frozen) (sym file) h.1)
IsInTable-push compared w K g op (answers.Shown v n body) entries file writes h =
    subst (λ f. ShowsAsked compared w (asked op) f n body) (sym file) h
IsInTable-push compared w K g op answers.BadF entries file writes h = h
IsInTable-push compared w K g op (answers.Exists v) entries file writes h = (h.0, subst (λ f. IsSome f) (sym file) h.1)
IsInTable-push compared w K g op (answers.NoEnt v) entries file writes h =
    (h.0, IsAtFront-push w K g (brought op) v h.1, subst (λ f. IsNone f) (sym file) h.2)
IsInTable-push compared w K g op (answers.ReadOnly v) entries file writes h =
    (h.0, IsAtFront-push w K g (brought op) v h.1, subst (λ f. IsTrue (is_frozen f)) (sym file) h.2)
IsInTable-push compared w K g op answers.TooBig entries file writes h = EndsPast-push w K g (brought op) writes h
IsInTable-push compared w K g op (answers.TooBigAt v) entries file writes h = h
IsInTable-push compared w K g op (answers.NoSpace need free) entries file writes h = LacksSpace-push w K g (brought op) need free writes h
IsInTable-push compared w K g op (answers.DevFault rank) entries file writes h = h

Fits-push_from : {told : List ℕ} {s : Job} {A : Answering} {J : List ℕ} (m : ℕ) {n : ℕ} {o : OpLine} {a : Answer} → phase s n ≤ phase s m
    → (IsTrue (is_open_to_change (state s A J (front s A J o.rank o.path n)))
    → IsTrue (is_open_to_change (state s A (J ++ m ∷ []) (front s A J o.rank o.path n))))
    → Fits told s A J n o a → Fits told s A (J ++ m ∷ []) n o a
Fits-push_from {told} {s} {A} {J} m {n} {o} {a} later writes fits =
    let same = front-push s A J o.rank o.path n m later in
    record {
      opened = fits.opened;
      version = IfSome-push s A J m n o (version_of a) later fits.version;
      answer = subst (λ k. IsInTable (AreTold s told) (record (line_view s A (J ++ m ∷ []) n o) { front = k }) o.op a) (sym same)
          (IsInTable-push (AreTold s told) (line_view s A J n o) (J ++ m ∷ []) (state s A (J ++ m ∷ [])) o.op a
          (λ v k. entry-push J m v k) (version-state-push s A J m n o (version_of a) fits.version) writes fits.answer);
    }

-- a commit of no earlier phase, at the journal's end, leaves it fitting where its front was within the journal
pub Fits-push : {told : List ℕ} {s : Job} {A : Answering} {J : List ℕ} (m : ℕ) {n : ℕ} {o : OpLine} {a : Answer} → phase s n ≤ phase s m
    → front s A J o.rank o.path n ≤ length J → Fits told s A J n o a → Fits told s A (J ++ m ∷ []) n o a
Fits-push {told} {s} {A} {J} m {n} {o} {a} later within fits =
    Fits-push_from m later (λ may. subst (λ f. IsTrue (is_open_to_change f))
    (sym (state_in-push s (bytes_of s) A J m (front s A J o.rank o.path n) within)) may) fits

-- both at once
pub Fits-grows : {told : List ℕ} {s : Job} {A : Answering} (B : Answering) {J : List ℕ} (m : ℕ) {n : ℕ} {o : OpLine} {a : Answer}
    → ((p : List ℕ) → AgreeBefore s o.rank p A B n) → SamePending s A B J
    → phase s n ≤ phase s m → front s A J o.rank o.path n ≤ length J → Fits told s A J n o a → Fits told s B (J ++ m ∷ []) n o a
Fits-grows {told} {s} {A} B {J} m {n} {o} {a} h same later within fits =
    Fits-push m later (subst (λ k. k ≤ length J) (front-agree s A B J o.rank o.path n (h o.path)) within) (Fits-agree B h same fits)
