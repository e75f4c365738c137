-- Each step of a client that is ready leaves fewer events.
use Rattle.fs_types.proofs.Common.{◌≡◌, ℕ, ◌+◌, ◌≤◌, ◌<◌, List, ◌∷◌, drop, Option, Some, None, Contains, refl, sym, ap, ◌∙◌, subst}
use Rattle.fs_types.proofs.Common.{arith, cases_eq, inl, inr, sum_by-cons, slice_get_within, get_or_from_slice_get, if◌then◌else◌, is_some}
use Rattle.fs_types.proofs.Common.{suc, get_or}
use Rattle.std.proofs.Math.Seq.{drop-cons}
use Rattle.fs_script.specs.Vocabulary.{Answer, Job, op_at, program}
use Rattle.core_machine.specs.Vocabulary.{OpLine, Op, Doing, nothing, reading, Moment, client_of, Turn, Event, event_at, step}
use Rattle.core_machine.specs.Vocabulary.{IsLegalMoment}
use Rattle.core_machine.specs.Vocabulary.{ready, most_events_in, most_events_of, left_in, left_for, events_left}
use Rattle.fs_script.proofs.CallerLemmas.{sum_by-range-falls}
use Rattle.fs_script.specs.declared.line.Op.TheVariants as ops
use Rattle.core_machine.proofs.Legal.Turns.{IsTurn, IsTurn-from_ready, step-is, coming, within_clients}
use Rattle.core_machine.proofs.Legal.Event.{now}
use Rattle.core_machine.proofs.Legal.After.{after, client_after, client-own, client-other}
use Rattle.core_machine.proofs.Legal.Measured.{Falls, left_of_line, event_of-measured}

-- each operation has an event
some_event : (op : Op) (d : Doing) → 0 < left_of_line op d
some_event ops.Create nothing = omega arith
some_event ops.Open nothing = omega arith
some_event (ops.Write off text) nothing = omega arith
some_event ops.Sync nothing = omega arith
some_event (ops.Read off len own) nothing = omega arith
some_event ops.Size nothing = omega arith
some_event (ops.Trunc n) nothing = omega arith
some_event ops.Laminate nothing = omega arith
some_event ops.Unlink nothing = omega arith
some_event op (reading d) = omega arith

-- what is left of a line, and of the lines after it
left-of_lines : (s : Job) (n : ℕ) (o : OpLine) (d : Doing) (ns : List ℕ) → op_at s n ≡ Some o
    → left_in s d (n ∷ ns) ≡ left_of_line o.op d + most_events_of s ns
left-of_lines s n o nothing ns is =
    sum_by-cons (λ k. most_events_in (op_at s k)) n ns ∙ ap (λ x. most_events_in x + most_events_of s ns) is
left-of_lines s n o (reading d) ns is = refl

module _ {told : List ℕ} {m : Moment} {r : ℕ} (t : IsTurn told m r) where
  open t use {number as n, line as o}

  abbrev place : ℕ
  place = (client_of m r).place

  -- the client's program from the line on
  program-from : drop place (program m.job r) ≡ n ∷ drop (place + 1) (program m.job r)
  program-from =
      let ns = program m.job r in
      let next : suc place ≡ place + 1 = omega arith in
      drop-cons ns place n (slice_get_within ns place n t.next)
      ∙ ap (λ k. get_or ns place n ∷ drop k ns) next
      ∙ ap (λ k. k ∷ drop (place + 1) ns) (get_or_from_slice_get ns place n n t.next)

  -- what the client has left of it, in the midst of this
  abbrev left_from : Doing → ℕ
  left_from d = left_in m.job d (drop place (program m.job r))

  left-with : (d : Doing) → left_from d ≡ left_of_line o.op d + most_events_of m.job (drop (place + 1) (program m.job r))
  left-with d = ap (left_in m.job d) program-from ∙ left-of_lines m.job n o d (drop (place + 1) (program m.job r)) t.is

  left-then : (d : Doing) (e : Event) → Falls o.op d e.answer e.doing → left_for m.job r (client_after t e) < left_from d
  left-then d e falls = by e.answer e.doing falls where
    left_after : Option Answer → Doing → ℕ
    left_after a then_doing = left_for m.job r (record { place = if is_some a then place + 1 else place; doing = then_doing })

    by : (a : Option Answer) (then_doing : Doing) → Falls o.op d a then_doing → left_after a then_doing < left_from d
    by (Some a) nothing ends = omega (arith, left-with d, some_event o.op d)
    by (Some a) (reading x) ends = absurd cc
    by None nothing falls = absurd falls
    by None (reading x) falls = omega (arith, left-with d, left-with (reading x), falls)

  after-falls : (e : Event) → Falls o.op (client_of m r).doing e.answer e.doing → events_left (after t e) < events_left m
  after-falls e falls =
      let own : left_for m.job r (client_of (after t e) r) < left_for m.job r (client_of m r) =
      subst (λ c. left_for m.job r c < left_for m.job r (client_of m r)) (sym (client-own t e)) (left-then (client_of m r).doing e falls) in
      let each : (i : ℕ) → left_for m.job i (client_of (after t e) i) ≤ left_for m.job i (client_of m i) = λ i.
      elim (cases_eq i r) [
        | inl same ↦ subst (λ j. left_for m.job j (client_of (after t e) j) ≤ left_for m.job j (client_of m j)) (sym same) (omega arith)
        | inr other ↦ (let same = ap (left_for m.job i) (client-other t e i other) in omega arith)
      ] in
      sum_by-range-falls (λ i. left_for m.job i (client_of (after t e) i)) (λ i. left_for m.job i (client_of m i)) r 0 m.job.shape.clients
      each own (omega arith) (omega (arith, within_clients t))

-- a step of a client that is ready leaves fewer
pub events_left-falls : {told : List ℕ} {m : Moment} (turn : Turn) → IsLegalMoment told m → Contains (ready m) turn.client
    → events_left (step m turn) < events_left m
events_left-falls {told} {m} turn so_far has =
    let t = IsTurn-from_ready turn.client so_far has in
    let e = event_at m t.number t.line in
    let measured = event_of-measured m.job (now (coming t)) (client_of m t.line.rank).doing t.line.op in
    let falls = subst (λ q. Falls t.line.op (client_of m q).doing e.answer e.doing) t.rank measured.falls in
    subst (λ n. events_left n < events_left m) (sym (step-is t)) (after-falls t e falls)
