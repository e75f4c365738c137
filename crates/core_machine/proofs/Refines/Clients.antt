-- A client's part of a path after an event: of the client whose line it is, and of every other.
use Rattle.fs_types.proofs.Common.{◌≡◌, ℕ, suc, ◌≤◌, ◌<◌, Bool, true, List, length, Some, None, IsSome}
use Rattle.fs_types.proofs.Common.{is_some, ◌||◌, ◌&&◌, ◌==◌, sym, ap, ◌∙◌, subst, arith}
use Rattle.fs_types.proofs.Common.{inl, inr, or_cases, and_parts, eqb-true}
use Rattle.fs_script.specs.Vocabulary.{Answer, Job, Piece, own_at, need, version_of, Answering, after_answer, one_more, over_answers, marks_at, opens}
use Rattle.fs_script.specs.Vocabulary.{at_least, past_lines, AddsAnswer}
use Rattle.core_machine.specs.Vocabulary.{Op, OpLine, OwnedPath, ClientPath, Event, Task, Idle, Read, known_of, AreSound, file_hold, pending_hold}
use Rattle.core_machine.specs.Vocabulary.{Follows, Knows, KnowsLookedUp, LookedUpWithin}
use Rattle.core_machine.specs.Vocabulary.{StandsForOwner, StandsForClient}
use Rattle.fs_script.proofs.CallerLemmas.{over_answers-agree, AgreeBefore-next}
use Rattle.core_machine.proofs.Refines.NextAnswers.{AgreeBefore-elsewhere, IsOpenFrom, IsOpenFrom-answered, over_answers-until}
use Rattle.core_machine.proofs.Refines.Owners.{IsNewAnswer, grown, length-grown, marks-grown, told-within, still-by}

-- the owner's journal after an event is the one before, perhaps with the line at its end
pub record Grows (n : ℕ) (commits : Bool) (x y : OwnedPath) : Type 0 where
  pub journal : y.path.journal ≡ grown x.path.journal n commits

-- ---- a client whose line it isn't, on this path

pub StandsForClient-other : {s : Job} {A B : Answering} {now n : ℕ} {o : OpLine} {a : Answer} {commits : Bool} {r : ℕ} {p : List ℕ}
    {x y : OwnedPath} {k : ClientPath} → IsNewAnswer s A now n o a B
    → own_at s r p n ≡ None → Grows n commits x y
    → ((q : Piece) → is_some (pending_hold k q) ≡ true → file_hold y.path.file q ≡ None) → StandsForOwner s A now p x
    → StandsForClient s A r p x k → StandsForClient s B r p y k
StandsForClient-other {s} {A} {B} {n = n} {a = a} {commits} {r} {p} {x} {k = k} h none grows apart owned stands =
    let agree = AgreeBefore-elsewhere s r p A B n a (past_lines s) h.adds none in
    let longer = length-grown x.path.journal n commits in
    record {
      opened = stands.opened ∙ over_answers-agree _ _ s r p A B (past_lines s) agree;
      pending = stands.pending ∙ over_answers-agree _ _ s r p A B (past_lines s) agree;
      whole = stands.whole;
      pieces = λ q waits. still-by q h.adds (stands.pieces q waits);
      apart = apart;
      seen = stands.seen ∙ over_answers-agree _ _ s r p A B (past_lines s) agree;
      within = (let size = ap length grows.journal in let was = stands.within in omega arith);
      known = stands.known ∙ ap known_of (marks-grown x.path.journal k.noted.version commits h.adds h.next owned.answered stands.within
          ∙ ap (λ (j : List ℕ). marks_at s B j k.noted.version) (sym grows.journal));
    }

-- ---- the client whose line it is

-- line n does op, for client r on path p, and no later line of theirs was answered
pub record IsOwn (s : Job) (A : Answering) (r : ℕ) (p : List ℕ) (n : ℕ) (o : OpLine) : Type 0 where
  pub own : own_at s r p n ≡ Some o.op
  pub from : IsOpenFrom s r p A n
  pub within : n < past_lines s

-- its answer is one step more
pub over_answers-own : {X : Type 0} (step : Op → Answer → ℕ → X
    → X) (x : X) {s : Job} {A B : Answering} {r : ℕ} {p : List ℕ} {n : ℕ} {o : OpLine} {a : Answer}
    → AddsAnswer A n a B → IsOwn s A r p n o → over_answers step x s B r p (past_lines s)
    ≡ step o.op a n (over_answers step x s A r p (past_lines s))
over_answers-own step x {s} {A} {B} {r} {p} {n} {o} {a} adds own =
    let lt = own.within in
    over_answers-until step x s r p B (suc n) (past_lines s) (omega arith) (IsOpenFrom-answered s r p A B n a adds own.from)
    ∙ ap (λ q. one_more step q (B n) n (over_answers step x s B r p n)) own.own
    ∙ ap (λ q. one_more step (Some o.op) q n (over_answers step x s B r p n)) adds.added
    ∙ ap (step o.op a n) (sym (over_answers-agree step x s r p A B n (AgreeBefore-next s r p n adds (omega arith)))
    ∙ sym (over_answers-until step x s r p A n (past_lines s) (omega arith) own.from))

pub StandsForClient-own : {s : Job} {A B : Answering} {now n : ℕ} {o : OpLine} {t : Task} {e : Event} {a : Answer} {x y : OwnedPath}
    {k l : ClientPath} → IsNewAnswer s A now n o a B → IsOwn s A o.rank o.path n o
    → Follows s n o.op t e x k y l a → AreSound s y l
    → (e.fills ≡ true → (q : Piece) → is_some (pending_hold l q) ≡ true → q.line ≡ n → q.part < need s n)
    → StandsForOwner s A now o.path x → StandsForOwner s B now o.path y → LookedUpWithin t (length x.path.journal)
    → KnowsLookedUp (λ v. known_of (marks_at s A x.path.journal v)) t → StandsForClient s A o.rank o.path x k
    → StandsForClient s B o.rank o.path y l
StandsForClient-own {s} {A} {B} {now} {n} {o} {t} {e} {a} {x} {y} {k} {l} h own follows sound parts owned owns within looked stands =
    let J = x.path.journal in
    let commits = e.commits in
    let told : x.told.version ≤ length J = subst (λ v. v ≤ length J) (sym owned.told) (told-within s J now) in
    let at = λ (v : ℕ). known_of (marks_at s B y.path.journal v) in
    let at_old : (v : ℕ) → v ≤ length J → known_of (marks_at s A J v) ≡ at v =
    λ v le. ap known_of (marks-grown J v commits h.adds h.next owned.answered le
    ∙ ap (λ (j : List ℕ). marks_at s B j v) (sym follows.journal)) in
    let knows : Knows at y k = record {
      noted = stands.known ∙ at_old k.noted.version stands.within;
      board = owns.known;
      now = ap known_of owns.marks;
    } in
    record {
      opened = follows.opened ∙ ap (λ b. opens o.op a || b) stands.opened ∙ sym (over_answers-own _ _ h.adds own);
      pending = follows.pending ∙ ap (after_answer o.op a n) stands.pending ∙ sym (over_answers-own _ _ h.adds own);
      whole = sound.pending;
      pieces = λ q waits. elim (or_cases (is_some (pending_hold k q)) (e.fills && q.line == n) (follows.pieces q waits)) [
        | inl was ↦ still-by q h.adds (stands.pieces q was)
        | inr new ↦
            let both = and_parts e.fills (q.line == n) new in
            let here : q.line ≡ n = eqb-true q.line n both.1 in
            record {
              own = subst (λ m. IsSome (own_at s o.rank o.path m)) (sym here) (ap is_some own.own);
              answered = subst (λ m. IsSome (B m)) (sym here) (ap is_some h.adds.added);
              part = subst (λ m. q.part < need s m) (sym here) (parts both.0 q waits here);
            }
      ];
      apart = sound.apart;
      seen = follows.version ∙ ap (λ m. at_least m (version_of a)) stands.seen ∙ sym (over_answers-own _ _ h.adds own);
      within = follows.within stands.within told within;
      known = follows.known at knows (looked-then t);
    }
  where
    looked-then : (u : Task) → KnowsLookedUp (λ v. known_of (marks_at s B y.path.journal v)) t
    looked-then u = by t within looked where
      by : (u : Task) → LookedUpWithin u (length x.path.journal) → KnowsLookedUp (λ v. known_of (marks_at s A x.path.journal v)) u
          → KnowsLookedUp (λ v. known_of (marks_at s B y.path.journal v)) u
      by Idle le is = tt
      by (Read d) le is = is ∙ ap known_of (marks-grown x.path.journal d.version e.commits h.adds h.next owned.answered le
          ∙ ap (λ (j : List ℕ). marks_at s B j d.version) (sym follows.journal))
