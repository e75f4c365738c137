-- What the answers before a line decide: its client's pending writes, the version it has seen, and whether its path is open.
-- Answers that agree at that client's lines on that path before the line give the same.
use Rattle.fs_types.proofs.Common.{common_steps, ◌≡◌, ℕ, zero, suc, ◌≤◌, List, [], Option, Some, None, IsSome, bytes_eq, cond, refl, ap}
use Rattle.fs_types.proofs.Common.{◌∙◌, arith, cond_both, eq-eqb, bytes_eq-Decides, nat_lt, length, get_or, sym, subst, true, filter}
use Rattle.fs_types.proofs.Common.{ltb-true, All-filter, filter_passes, range_with_len}
use Rattle.fs_script.specs.Vocabulary.{Answer, answer_at, put_answer, File, Op, OpLine, Job, op_at, own_at, Cells, Answering, after_answer}
use Rattle.fs_script.specs.Vocabulary.{one_more, over_answers, pending, pending_for, pending_at, effect_in, effect, commit_by, commit_in}
use Rattle.fs_script.specs.Vocabulary.{committed, AgreeBefore, AddsAnswer, own_op, accepted_before, was_accepted, need, program, is_of_rank}
use Rattle.fs_types.proofs.CallerLemmas.{answer_at-put_answer}
use Rattle.fs_script.proofs.PlainLists.{sum_by-agree}
use Rattle.fs_script.proofs.ProgramPlaces.{of_rank}

-- agreement before a line is agreement before each earlier one
pub AgreeBefore-earlier : (s : Job) (r : ℕ) (p : List ℕ) (A B : Answering) (m n : ℕ) → m ≤ n → AgreeBefore s r p A B n
    → AgreeBefore s r p A B m
AgreeBefore-earlier s r p A B m n le h k below own = h k (omega arith) own

-- so answers that agree before a line make the same of the same
pub over_answers-agree : {X : Type 0} (step : Op → Answer → ℕ → X → X) (x : X) (s : Job) (r : ℕ) (p : List ℕ) (A B : Answering) (n : ℕ)
    → AgreeBefore s r p A B n → over_answers step x s A r p n ≡ over_answers step x s B r p n
over_answers-agree step x s r p A B zero h = refl
over_answers-agree step x s r p A B (suc n) h =
    one (own_at s r p n) (h n (omega arith)) ∙ ap (one_more step (own_at s r p n) (B n) n) (over_answers-agree step x s r p A B n
    (AgreeBefore-earlier s r p A B n (suc n) (omega arith) h))
  where
    one : (o : Option Op) → (IsSome o → A n ≡ B n) → one_more step o (A n) n (over_answers step x s A r p n)
        ≡ one_more step o (B n) n (over_answers step x s A r p n)
    one None same = refl
    one (Some op) same = ap (λ a. one_more step (Some op) a n (over_answers step x s A r p n)) (same refl)

pub pending-agree : (s : Job) (r : ℕ) (p : List ℕ) (A B : Answering) (n : ℕ) → AgreeBefore s r p A B n
    → pending s A r p n ≡ pending s B r p n
pending-agree = over_answers-agree after_answer []

-- the effect of a line reads no answer but for what is pending at it
pub effect-agree : {X : Type 0} (s : Job) (c : Cells X) (A B : Answering) (n : ℕ) (f : File X) → pending_at s A n ≡ pending_at s B n
    → effect s c A n f ≡ effect s c B n f
effect-agree s c A B n f h = ap (λ q. effect_in s c (op_at s n) q f) h

commit_in-agree : (s : Job) (A B : Answering) (p : List ℕ) (n : ℕ) (o : Option OpLine) → pending_for s A n o ≡ pending_for s B n o
    → A n ≡ B n → commit_in s A p n o ≡ commit_in s B p n o
commit_in-agree s A B p n None h e = refl
commit_in-agree s A B p n (Some o) h e =
    ap (λ q. cond (bytes_eq o.path p) (commit_by o.op q (A n)) None) h
    ∙ ap (λ a. cond (bytes_eq o.path p) (commit_by o.op (pending s B o.rank o.path n) a) None) e

-- whether a line is an accepted committing line, and of which version
pub committed-agree : (s : Job) (A B : Answering) (p : List ℕ) (n : ℕ) → pending_at s A n ≡ pending_at s B n → A n ≡ B n
    → committed s A p n ≡ committed s B p n
committed-agree s A B p n h e = commit_in-agree s A B p n (op_at s n) h e

commit_in-unanswered : (s : Job) (A : Answering) (p : List ℕ) (n : ℕ) (o : Option OpLine) → A n ≡ None → commit_in s A p n o ≡ None
commit_in-unanswered s A p n None e = refl
commit_in-unanswered s A p n (Some o) e = cond_both (bytes_eq o.path p) (commit_by o.op (pending s A o.rank o.path n) (A n)) None
    (λ x. x ≡ None) (λ _. ap (λ a. commit_by o.op (pending s A o.rank o.path n) a) e) (λ _. refl)

-- a line without an answer commits nothing
pub committed-unanswered : (s : Job) (A : Answering) (p : List ℕ) (n : ℕ) → A n ≡ None → committed s A p n ≡ None
committed-unanswered s A p n e = commit_in-unanswered s A p n (op_at s n) e

-- what a client does is its own on the path where it does it
own_op-own : (r : ℕ) (o : OpLine) → o.rank ≡ r → IsSome (own_op r o.path (Some o))
own_op-own r o same = grind (arith, common_steps, eq-eqb, bytes_eq-Decides)

-- how many pieces a client's earlier writes have that were accepted, where its answers before the line agree on all paths
pub accepted_before-agree : (s : Job) (r : ℕ) (A B : Answering) (n : ℕ) → ((p : List ℕ) → AgreeBefore s r p A B n)
    → accepted_before s A r n ≡ accepted_before s B r n
accepted_before-agree s r A B n h =
    let early = filter (λ k. nat_lt k n) (program s r) in
    let before = filter_passes (λ k. nat_lt k n) (program s r) in
    let mine = filter_passes (λ k. is_of_rank r (op_at s k)) (range_with_len 2 (length s.lines)) in
    let own = All-filter (λ k. nat_lt k n) (λ k. is_of_rank r (op_at s k) ≡ true) (program s r) mine in
    sum_by-agree (pieces A) (pieces B) early (λ k d below. same (get_or early k d) (before k d below) (own k d below))
  where
    pieces : Answering → ℕ → ℕ
    pieces C k = cond (was_accepted (C k)) (need s k) 0

    same : (k : ℕ) → nat_lt k n ≡ true → is_of_rank r (op_at s k) ≡ true → pieces A k ≡ pieces B k
    same k less mine =
        let o = of_rank r (op_at s k) mine in
        ap (λ a. cond (was_accepted a) (need s k) 0) (h o.0.path k (ltb-true k n less)
        (subst (λ x. IsSome (own_op r o.0.path x)) (sym o.1) (own_op-own r o.0 o.2)))

-- an answer that is put is the only one that comes
pub AddsAnswer-put : (xs : List (ℕ × Answer)) (n : ℕ) (a : Answer) → AddsAnswer (answer_at xs) n a (answer_at (put_answer n a xs))
AddsAnswer-put xs n a = grind (arith, common_steps, answer_at-put_answer)
