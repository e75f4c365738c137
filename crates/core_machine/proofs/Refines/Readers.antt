-- How many reads under way name a piece, by what is kept of what the clients are in the midst of.
use Rattle.fs_types.proofs.Common.{◌≡◌, ℕ, zero, suc, ◌+◌, ◌<◌, Bool, true, false, cond, List, [], ◌∷◌, length, set, count_by, slice_get}
use Rattle.fs_types.proofs.Common.{Some, is_some, none-some, same_Some, refl, sym, ap, ◌∙◌, arith, sum_by-cons}
use Rattle.fs_script.specs.Vocabulary.{Job, Piece, Fragment}
use Rattle.piece_table.specs.HeldSpans.{is_named}
use Rattle.core_machine.specs.Vocabulary.{Task, Idle, Read, doing_of, marks_of_task, task_hold, IsTask, names, client_at, clients_of}
use Rattle.core_machine.proofs.NamedPieces.{bears-runs}

-- how many of the tasks hold it
abbrev pub task_count : Piece → List Task → ℕ
task_count q ts = count_by (λ t. is_some (task_hold t q)) ts

-- what a client is in the midst of names the pieces that it holds
pub names-task : (s : Job) (t : Task) (q : Piece) → IsTask s t → names (doing_of t) q ≡ is_some (task_hold t q)
names-task s Idle q is = refl
names-task s (Read t) q is =
    bears-runs (marks_of_task t) q ∙ ap (λ (fs : List Fragment). is_named fs q) is.runs_are ∙ sym (is.pinned.named q)

count-more : {X : Type 0} (test : X → Bool) (x : X) (xs : List X) → count_by test (x ∷ xs) ≡ cond (test x) 1 0 + count_by test xs
count-more test x xs = sum_by-cons (λ y. cond (test y) 1 0) x xs

pub readers-kept : (s : Job) (places : List ℕ) (ts : List Task) (q : Piece) → length places ≡ length ts
    → ((r : ℕ) (t : Task) → slice_get ts r ≡ Some t → IsTask s t)
    → count_by (λ c. names c.doing q) (clients_of places ts) ≡ task_count q ts
readers-kept s [] [] q size each = refl
readers-kept s [] (t ∷ ts) q size each = absurd (omega arith)
readers-kept s (p ∷ ps) [] q size each = absurd (omega arith)
readers-kept s (p ∷ ps) (t ∷ ts) q size each =
    let rest = readers-kept s ps ts q (omega arith) (λ r u at. each (suc r) u at) in
    let own = names-task s t q (each 0 t refl) in
    count-more (λ c. names c.doing q) (client_at (p, t)) (clients_of ps ts)
    ∙ (λ i. cond (own i) 1 0 + rest i)
    ∙ sym (count-more (λ u. is_some (task_hold u q)) t ts)

-- as one client's task changes
pub count-set : {X : Type 0} (test : X → Bool) (xs : List X) (r : ℕ) (x y : X) → slice_get xs r ≡ Some x
    → count_by test (set xs r y) + cond (test x) 1 0 ≡ count_by test xs + cond (test y) 1 0
count-set test [] r x y at = absurd (none-some x at)
count-set test (z ∷ xs) zero x y at =
    let same : cond (test z) 1 0 ≡ cond {A = ℕ} (test x) 1 0 = ap {B = ℕ} (λ w. cond (test w) 1 0) (same_Some z x at) in
    omega (arith, count-more test y xs, count-more test z xs, same)
count-set test (z ∷ xs) (suc r) x y at =
    omega (arith, count-more test z (set xs r y), count-more test z xs, count-set test xs r x y at)

pub count-none : {X : Type 0} (test : X → Bool) (xs : List X) → ((i : ℕ) (x : X) → slice_get xs i ≡ Some x → test x ≡ false)
    → count_by test xs ≡ 0
count-none test [] none = refl
count-none test (x ∷ xs) none =
    let first : cond (test x) 1 0 ≡ 0 = ap {B = ℕ} (λ b. cond b 1 0) (none 0 x refl) in
    omega (arith, count-more test x xs, first, count-none test xs (λ i y at. none (suc i) y at))

pub count-some : {X : Type 0} (test : X → Bool) (xs : List X) (i : ℕ) (x : X) → slice_get xs i ≡ Some x → test x ≡ true → 0 < count_by test xs
count-some test [] i x at is = absurd (none-some x at)
count-some test (y ∷ xs) zero x at is =
    let first : cond (test y) 1 0 ≡ 1 = ap {B = ℕ} (λ b. cond b 1 0) (ap test (same_Some y x at) ∙ is) in
    omega (arith, count-more test y xs, first)
count-some test (y ∷ xs) (suc i) x at is = omega (arith, count-more test y xs, count-some test xs i x at is)
