-- The lines that are pending: each is an operation of its client on its path, and was accepted.
use Rattle.fs_types.proofs.Common.{◌≡◌, ℕ, zero, suc, ◌+◌, ◌-◌, ◌≤◌, ◌==◌, true, List, [], ◌∷◌, ◌++◌, length, Option, Some, None, IsSome}
use Rattle.fs_types.proofs.Common.{is_some, refl, ap, ◌∙◌, arith}
use Rattle.fs_types.proofs.Common.{cond_both, AllByRecursion, if◌then◌else◌}
use Rattle.fs_types.specs.declared.answer.Answer.{Answer}
use Rattle.fs_script.specs.declared.line.OpLine.{OpLine}
use Rattle.fs_script.specs.declared.line.Op.{Op}
use Rattle.fs_script.specs.declared.line.Op.TheVariants as ops
use Rattle.fs_script.specs.AnswerKinds.{is_accepted, empties}
use Rattle.fs_script.specs.Job.{Job, op_at, own_at}
use Rattle.fs_script.specs.Accepted.{was_accepted}
use Rattle.fs_script.specs.Live.{past_lines}
use Rattle.fs_script.specs.Payload.{data_bytes}
use Rattle.fs_script.specs.Pending.{Answering, with_write, after_answer, one_more, pending, pending_for, pending_at}
use Rattle.fs_script.proofs.PlainLists.{AllByRecursion-push, AllByRecursion-weaker}

-- an operation of client r on path p whose bytes were accepted
pub record IsAcceptedLine (s : Job) (A : Answering) (r : ℕ) (p : List ℕ) (n : ℕ) : Type 0 where
  pub own : IsSome (own_at s r p n)
  pub accepted : was_accepted (A n) ≡ true

module _ (s : Job) (A : Answering) (r : ℕ) (p : List ℕ) where
  abbrev AllAccepted : List ℕ → Type 0
  AllAccepted q = AllByRecursion (IsAcceptedLine s A r p) q

  AllAccepted-emptied : (a : Answer) (q : List ℕ) → AllAccepted q → AllAccepted (if empties a then [] else q)
  AllAccepted-emptied a q all = cond_both (empties a) [] q AllAccepted (λ _. tt) (λ _. all)

  AllAccepted-after : (op : Op) (a : Answer) (n : ℕ) (q : List ℕ) → own_at s r p n ≡ Some op → A n ≡ Some a → AllAccepted q
      → AllAccepted (after_answer op a n q)
  AllAccepted-after ops.Create a n q own answered all = all
  AllAccepted-after ops.Open a n q own answered all = all
  AllAccepted-after (ops.Write off text) a n q own answered all =
      let bytes = data_bytes text in
      cond_both (is_accepted a) (with_write n bytes q) q AllAccepted
      (λ accepted. cond_both (length bytes == 0) q (q ++ n ∷ []) AllAccepted (λ _. all)
      (λ _. AllByRecursion-push (IsAcceptedLine s A r p) q n all (record {
        own = ap is_some own;
        accepted = ap was_accepted answered ∙ accepted;
      })))
      (λ _. all)
  AllAccepted-after ops.Sync a n q own answered all = AllAccepted-emptied a q all
  AllAccepted-after (ops.Read off len over) a n q own answered all = all
  AllAccepted-after ops.Size a n q own answered all = all
  AllAccepted-after (ops.Trunc size) a n q own answered all = AllAccepted-emptied a q all
  AllAccepted-after ops.Laminate a n q own answered all = AllAccepted-emptied a q all
  AllAccepted-after ops.Unlink a n q own answered all = AllAccepted-emptied a q all

  AllAccepted-one_more : (o : Option Op) (b : Option Answer) (n : ℕ) (q : List ℕ) → own_at s r p n ≡ o → A n ≡ b → AllAccepted q
      → AllAccepted (one_more after_answer o b n q)
  AllAccepted-one_more None b n q own answered all = all
  AllAccepted-one_more (Some op) None n q own answered all = all
  AllAccepted-one_more (Some op) (Some a) n q own answered all = AllAccepted-after op a n q own answered all

  -- what is pending for client r
  pub AllAccepted-pending : (n : ℕ) → AllAccepted (pending s A r p n)
  AllAccepted-pending zero = tt
  AllAccepted-pending (suc n) = AllAccepted-one_more (own_at s r p n) (A n) n (pending s A r p n) refl refl (AllAccepted-pending n)

-- what is pending at a line, for its client
pub accepted-pending_at : (s : Job) (A : Answering) (n : ℕ) → AllByRecursion (λ m. was_accepted (A m) ≡ true) (pending_at s A n)
accepted-pending_at s A n = by (op_at s n) where
  by : (o : Option OpLine) → AllByRecursion (λ m. was_accepted (A m) ≡ true) (pending_for s A n o)
  by None = tt
  by (Some o) = AllByRecursion-weaker (IsAcceptedLine s A o.rank o.path) (λ m. was_accepted (A m) ≡ true) (pending s A o.rank o.path n)
      (λ m is. is.accepted) (AllAccepted-pending s A o.rank o.path n)

-- ---- lines without an answer

one_more-unanswered : (o : Option Op) (b : Option Answer) (n : ℕ) (q : List ℕ) → (IsSome o → b ≡ None) → one_more after_answer o b n q ≡ q
one_more-unanswered None b n q none = refl
one_more-unanswered (Some op) b n q none = ap (λ c. one_more after_answer (Some op) c n q) (none refl)

module _ (s : Job) (A : Answering) (r : ℕ) (p : List ℕ) (n : ℕ) (none : (k : ℕ) → n ≤ k → IsSome (own_at s r p k) → A k ≡ None) where
  pending-further : (d m : ℕ) → m ≡ d + n → pending s A r p m ≡ pending s A r p n
  pending-further zero m is = let same : m ≡ n = omega (arith, is) in ap (pending s A r p) same
  pending-further (suc d) m is =
      let next : m ≡ suc (d + n) = omega (arith, is) in
      ap (pending s A r p) next
      ∙ one_more-unanswered (own_at s r p (d + n)) (A (d + n)) (d + n) (pending s A r p (d + n)) (none (d + n) (omega arith))
      ∙ pending-further d (d + n) refl

  -- what is pending after all that a client was answered is what is pending at any line from there on
  pub pending-past : n ≤ past_lines s → pending s A r p (past_lines s) ≡ pending s A r p n
  pending-past le = pending-further (past_lines s - n) (past_lines s) (omega arith)
