-- Clients whose lines were answered up to a place of their programs: the line that comes next, and what an answer changes.
use Rattle.fs_types.proofs.Common.{common_steps, ◌≡◌, ◌≢◌, ℕ, ◌+◌, ◌<◌, length, Some, None, IsSome, is_some, slice_get, sym, ap, ◌∙◌, subst}
use Rattle.fs_types.proofs.Common.{inl, inr, arith, cases_eq, ltb-true, lt-ltb, le-ltb, nat_tests, same_Some}
use Rattle.fs_script.specs.Vocabulary.{Answer, Job, op_at, rank_at, is_of_rank, program, Answering, AddsAnswer, ComesNext}
use Rattle.core_machine.specs.Vocabulary.{OpLine, IsAnsweredUpTo}
use Rattle.fs_script.proofs.CallerLemmas.{none_from-is_some, passing-rise, passing-places, program-place, program-op}

-- client r's lines were answered up to the place, where line n stands
pub record StandsNext (s : Job) (A : Answering) (r place n : ℕ) : Type 0 where
  pub upto : IsAnsweredUpTo s A r place
  pub here : slice_get (program s r) place ≡ Some n

-- a line of a client is an operation of it
pub rank-op : (s : Job) (k q : ℕ) → rank_at s k ≡ Some q → (o : OpLine) × (op_at s k ≡ Some o) × (o.rank ≡ q)
rank-op s k q is = grind (arith, common_steps)

module _ {s : Job} {A : Answering} {r place n : ℕ} (t : StandsNext s A r place n) where
  pub unanswered : A n ≡ None
  unanswered = none_from-is_some (A n) (t.upto place n t.here ∙ le-ltb place place (omega arith))

  -- a line of the client that has an answer stands before it
  pub before : (k : ℕ) (o : OpLine) → IsSome (A k) → op_at s k ≡ Some o → o.rank ≡ r → k < n
  before k o given op of_client =
      let at = program-place s k o op in
      let there = subst (λ i. slice_get (program s i) at.0 ≡ Some k) of_client at.1 in
      let below = ltb-true at.0 place (sym (t.upto at.0 k there) ∙ given) in
      passing-rise (λ i. is_of_rank r (op_at s i)) 2 (length s.lines) at.0 place k n below there t.here

  -- it comes next
  pub comes_next : ComesNext s A n
  comes_next = grind (arith, common_steps, unanswered, program-op, rank-op, before)

  -- once it was answered, the client's place is one more
  pub upto-own : (B : Answering) (a : Answer) → AddsAnswer A n a B → IsAnsweredUpTo s B r (place + 1)
  upto-own B a adds k j at = elim (cases_eq k place) [
    | inl is ↦
        let same = same_Some j n (sym at ∙ ap (slice_get (program s r)) is ∙ t.here) in
        ap (λ i. is_some (B i)) same ∙ ap is_some adds.added ∙ sym (lt-ltb k (place + 1) (omega arith))
    | inr other ↦
        let another : j ≢ n = λ e. other (passing-places (λ i. is_of_rank r (op_at s i)) 2 (length s.lines) k place j at (t.here
        ∙ ap Some (sym e))) in
        ap is_some (adds.others j another) ∙ t.upto k j at ∙ grind (arith, nat_tests)
  ]

-- another client's place stays
pub upto-other : (s : Job) {A B : Answering} (q : ℕ) {n : ℕ} (place : ℕ) (o : OpLine) {a : Answer} → AddsAnswer A n a B → op_at s n ≡ Some o
    → o.rank ≢ q → IsAnsweredUpTo s A q place → IsAnsweredUpTo s B q place
upto-other s q {n} place o adds is other upto k j at = grind (arith, common_steps, program-op)
