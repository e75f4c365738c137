-- The owner's part of a path after an event: of another path, and of the line's own.
use Rattle.fs_types.proofs.Common.{common_steps, ◌≡◌, ℕ, ◌+◌, ◌≤◌, Bool, true, false, cond, List, [], ◌∷◌, ◌++◌, length, Option, Some}
use Rattle.fs_types.proofs.Common.{IsSome, is_some, nat_lt, count_by, refl, sym, ap, ◌∙◌, subst, arith, le-ltb, AllByRecursion, length_push}
use Rattle.fs_types.proofs.Common.{sum_by_push, count_by-le-length, IfSome, inl, inr, or_cases}
use Rattle.fs_script.specs.Vocabulary.{Answer, File, Job, Mark, Piece, op_at, phase, marks_in, Answering, pending, pending_for, pending_at, effect_of}
use Rattle.fs_script.specs.Vocabulary.{effect_in, marks_at, AddsAnswer, ComesNext}
use Rattle.core_machine.specs.Vocabulary.{OpLine, OwnedPath, ClientPath, Event, Task, known_of, IsFile, file_hold}
use Rattle.core_machine.specs.Vocabulary.{file_marks, pending_hold, pending_lines, Follows}
use Rattle.core_machine.specs.Vocabulary.{StandsForOwner, IsPieceBy, IsPieceOn}
use Rattle.fs_script.proofs.CallerLemmas.{state_in-push, state_in-push_last, pending_at-next, AllByRecursion-weaker, AllByRecursion-push}
use Rattle.core_machine.proofs.Refines.NextAnswers.{marks-answered}

-- line n, the operation o of the run's phase, comes next and is answered a
pub record IsNewAnswer (s : Job) (A : Answering) (now n : ℕ) (o : OpLine) (a : Answer) (B : Answering) : Type 0 where
  pub line : op_at s n ≡ Some o
  pub adds : AddsAnswer A n a B
  pub next : ComesNext s A n
  pub phase : phase s n ≡ now

-- ---- lines that were answered

pub still-answered : {A B : Answering} {n : ℕ} (m : ℕ) {a : Answer} → AddsAnswer A n a B → IsSome (A m) → IsSome (B m)
still-answered {B} {n} m adds given = grind (arith, common_steps)

all-answered : {A B : Answering} {n : ℕ} {a : Answer} (J : List ℕ) → AddsAnswer A n a B → AllByRecursion (λ m. IsSome (A m)) J
    → AllByRecursion (λ m. IsSome (B m)) J
all-answered {A} {B} {n} {a} J adds = grind (arith, common_steps, AllByRecursion-weaker, still-answered)

-- ---- a version that was there

abbrev pub grown : List ℕ → ℕ → Bool → List ℕ
grown J n commits = cond commits (J ++ n ∷ []) J

pub length-grown : (J : List ℕ) (n : ℕ) (commits : Bool) → length J ≤ length (grown J n commits)
length-grown J n true = omega (arith, length_push J n)
length-grown J n false = omega arith

-- its file stays, as the line is answered and perhaps committed
pub marks-grown : {s : Job} {A B : Answering} (J : List ℕ) {n : ℕ} (v : ℕ) {a : Answer} (commits : Bool) → AddsAnswer A n a B
    → ComesNext s A n → AllByRecursion (λ m. IsSome (A m)) J → v ≤ length J → marks_at s A J v ≡ marks_at s B (grown J n commits) v
marks-grown {s} {A} {B} J {n} v {a} true adds next all within = marks-answered s A B J n v a adds next all
    ∙ sym (state_in-push s (marks_in s) B J n v within)
marks-grown {s} {A} {B} J {n} v {a} false adds next all within = marks-answered s A B J n v a adds next all

-- the file that the line leaves
marks-now : {s : Job} {A B : Answering} {now n : ℕ} {o : OpLine} {a : Answer} (J : List ℕ) (commits : Bool) (f : File (Option Mark))
    → IsNewAnswer s A now n o a B → AllByRecursion (λ m. IsSome (A m)) J
    → f ≡ marks_at s A J (length J) → cond commits (effect_of s (marks_in s) o.op (pending s A o.rank o.path n) f) f
    ≡ marks_at s B (grown J n commits) (length (grown J n commits))
marks-now {s} {A} {B} {n} {a} J false f h all here = here ∙ marks-answered s A B J n (length J) a h.adds h.next all
marks-now {s} {A} {B} {n} {o} {a} J true f h all here =
    let before : f ≡ marks_at s B J (length J) = here ∙ marks-answered s A B J n (length J) a h.adds h.next all in
    let pends : pending_at s B n ≡ pending s A o.rank o.path n = sym (pending_at-next s h.adds) ∙ ap (pending_for s A n) h.line in
    sym (state_in-push_last s (marks_in s) B J n (length (J ++ n ∷ [])) (omega (arith, length_push J n))
    ∙ ap (λ (x : Option OpLine). effect_in s (marks_in s) x (pending_at s B n) (marks_at s B J (length J))) h.line
    ∙ ap (λ (q : List ℕ). effect_of s (marks_in s) o.op q (marks_at s B J (length J))) pends
    ∙ ap (effect_of s (marks_in s) o.op (pending s A o.rank o.path n)) (sym before))

-- ---- pieces of lines that were answered

pub still-by : {s : Job} {A B : Answering} {n r : ℕ} {p : List ℕ} {a : Answer} (q : Piece) → AddsAnswer A n a B → IsPieceBy s A r p q
    → IsPieceBy s B r p q
still-by q adds is = record { own = is.own; answered = still-answered q.line adds is.answered; part = is.part }

pub still-on : {s : Job} {A B : Answering} {n : ℕ} {p : List ℕ} {a : Answer} (q : Piece) → AddsAnswer A n a B → IsPieceOn s A p q
    → IsPieceOn s B p q
still-on q adds is = record { client = is.client; by_client = still-by q adds is.by_client }

-- ---- the part of another path

pub StandsForOwner-other : {s : Job} {A B : Answering} {now n : ℕ} {o : OpLine} {a : Answer} {p : List ℕ} {x : OwnedPath}
    → IsNewAnswer s A now n o a B → StandsForOwner s A now p x → StandsForOwner s B now p x
StandsForOwner-other {s} {A} {B} {n = n} {a = a} {x = x} h stands = record {
  answered = all-answered x.path.journal h.adds stands.answered;
  written = stands.written;
  marks = stands.marks ∙ marks-answered s A B x.path.journal n (length x.path.journal) a h.adds h.next stands.answered;
  pieces = λ q held. still-on q h.adds (stands.pieces q held);
  told = stands.told;
  known = stands.known ∙ ap known_of (marks-answered s A B x.path.journal n x.told.version a h.adds h.next stands.answered);
}

-- ---- the part of the line's own path

-- a line of the run's phase is none of an earlier one
told-grown : (s : Job) (J : List ℕ) (n now : ℕ) (commits : Bool) → phase s n ≡ now
    → count_by (λ m. nat_lt (phase s m) now) (grown J n commits) ≡ count_by (λ m. nat_lt (phase s m) now) J
told-grown s J n now false is = refl
told-grown s J n now true is =
    sum_by_push (λ m. cond (nat_lt (phase s m) now) 1 0) J n
    ∙ ap (λ b. count_by (λ m. nat_lt (phase s m) now) J + cond b 1 0) (le-ltb (phase s n) now (omega arith)) ∙ omega arith

pub told-within : (s : Job) (J : List ℕ) (now : ℕ) → count_by (λ m. nat_lt (phase s m) now) J ≤ length J
told-within s J now = count_by-le-length (λ m. nat_lt (phase s m) now) J

answered-grown : {s : Job} {A B : Answering} {now n : ℕ} {o : OpLine} {a : Answer} (J : List ℕ) (commits : Bool)
    → IsNewAnswer s A now n o a B → AllByRecursion (λ m. IsSome (A m)) J → AllByRecursion (λ m. IsSome (B m)) (grown J n commits)
answered-grown {A} {B} {n} {a} J true h all = AllByRecursion-push (λ m. IsSome (B m)) J n (all-answered J h.adds all)
    (ap is_some h.adds.added)
answered-grown {A} {B} {n} {a} J false h all = all-answered J h.adds all

pub StandsForOwner-own : {s : Job} {A B : Answering} {now n : ℕ} {o : OpLine} {t : Task} {e : Event} {a : Answer} {x y : OwnedPath}
    {k l : ClientPath} → IsNewAnswer s A now n o a B → pending_lines k ≡ pending s A o.rank o.path n
    → Follows s n o.op t e x k y l a → IfSome y.path.file IsFile → StandsForOwner s A now o.path x
    → ((q : Piece) → is_some (pending_hold k q) ≡ true → IsPieceBy s A o.rank o.path q) → StandsForOwner s B now o.path y
StandsForOwner-own {s} {A} {B} {now} {n} {o} {t} {e} {a} {x} {y} {k} h pends follows written stands own =
    let J = x.path.journal in
    let commits = e.commits in
    let K : y.path.journal ≡ grown J n commits = follows.journal in
    let told : y.told.version ≡ x.told.version = ap (λ b. b.version) follows.told in
    record {
      answered = subst (λ j. AllByRecursion (λ m. IsSome (B m)) j) (sym K) (answered-grown J commits h stands.answered);
      written = written;
      marks = follows.marks ∙ ap (λ (q : List ℕ). cond commits (effect_of s (marks_in s) o.op q (file_marks x.path.file)) (file_marks x.path.file)) pends
          ∙ marks-now J commits (file_marks x.path.file) h stands.answered stands.marks ∙ ap (λ (j : List ℕ). marks_at s B j (length j)) (sym K);
      pieces = λ q held. still-on q h.adds (elim (or_cases (is_some (file_hold x.path.file q)) (is_some (pending_hold k q)) (follows.owned q held)) [
        | inl there ↦ stands.pieces q there
        | inr waits ↦ record { client = o.rank; by_client = own q waits }
      ]);
      told = told ∙ stands.told ∙ sym (ap (count_by (λ m. nat_lt (phase s m) now)) K ∙ told-grown s J n now commits h.phase);
      known = ap (λ b. b.attr) follows.told ∙ stands.known ∙ ap known_of (marks-grown J x.told.version commits h.adds h.next stands.answered
          (subst (λ v. v ≤ length J) (sym stands.told) (told-within s J now))
          ∙ ap (λ (j : List ℕ). marks_at s B j x.told.version) (sym K) ∙ ap (marks_at s B y.path.journal) (sym told));
    }
