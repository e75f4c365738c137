-- One event of a client that goes, as the core has it: whose line it is, what was kept, and what is kept after it.
use Rattle.fs_types.proofs.Common.{◌≡◌, ℕ, ◌<◌, List, set, slice_index, slice_get, Option, Some}
use Rattle.fs_types.proofs.Common.{None, IsSome, true≢false, sym, ap, ◌∙◌, subst, arith, refl}
use Rattle.fs_types.proofs.Common.{common_steps, eq-eqb, bytes_eq-Decides, false_from_ne_true, and_parts, eqb-true, cond-false, is_some}
use Rattle.slot_plain.specs.Log.{Log}
use Rattle.fs_script.specs.Vocabulary.{Answer, Given, answer_at, Job, op_at, own_op, rank_in, phase, program, Answering, past_lines, pending}
use Rattle.core_machine.specs.Vocabulary.{OpLine, Event, PathState, ClientPath, Task, EventFollows, EventKept, IsWhole, Places, Holds, Stands}
use Rattle.core_machine.specs.Vocabulary.{StandsForClient, StandsForLookUp, after_line, answers_with, next_in, pending_lines}
use Rattle.fs_script.proofs.CallerLemmas.{own_op-rank, op_at-within, program-op}
use Rattle.core_machine.proofs.Places.{StandsNext, comes_next, unanswered}
use Rattle.core_machine.proofs.Refines.NextAnswers.{IsOpenFrom-next, over_answers-until}
use Rattle.core_machine.proofs.Refines.Clients.{IsOwn}

-- all that an event may change
abbrev pub kept_as : PathState → ClientPath → Task → List Log → EventKept
kept_as x k t logs = record { owned = x.owned; client = k; task = t; logs = logs }

pub record Stepped (s : Job) (paths : List (List ℕ)) (states : List PathState) (answers : Given) (turns : Places) (tasks : List Task)
    (logs : List Log) (r : ℕ) : Type 0 where
  pub held : Holds s paths states answers turns tasks logs
  pub within : r < s.shape.clients
  -- the client's next line, an operation of the run's phase
  pub number : ℕ
  pub line : OpLine
  pub next : slice_get (program s r) (slice_index turns.places r) ≡ Some number
  pub is : op_at s number ≡ Some line
  pub now : phase s number ≡ turns.phase
  -- its path, and what was kept for it, for the client, and of what that is in the midst of
  pub place : ℕ
  pub at : slice_get paths place ≡ Some line.path
  pub was : PathState
  pub there : slice_get states place ≡ Some was
  pub client : ClientPath
  pub beside : slice_get was.clients r ≡ Some client
  pub task : Task
  pub midst : slice_get tasks r ≡ Some task
  -- the answer, if it has one, and what is kept after it
  pub answer : Option Answer
  pub then : PathState
  pub own : ClientPath
  pub task_then : Task
  pub logs_then : List Log
  pub changed : then.clients ≡ set was.clients r own
  pub follows : EventFollows s number line.op r (kept_as was client task logs) (kept_as then own task_then logs_then) answer
  pub whole : IsWhole s line.op (kept_as then own task_then logs_then)

-- whose turn it is after an answer, or none
abbrev pub turns_with : Places → ℕ → Option Answer → Places
turns_with turns r None = turns
turns_with turns r (Some a) = after_line turns r

-- it is no line of another client, nor of another path
pub own_op-other : (o : OpLine) (r : ℕ) (p : List ℕ) → (o.rank ≡ r → o.path ≡ p → ⊥) → own_op r p (Some o) ≡ None
own_op-other o r p other = grind (arith, common_steps, cond-false, false_from_ne_true, and_parts, eqb-true, bytes_eq-Decides)

-- the line that comes next is its client's own on its path
pub own-next : {s : Job} {A : Answering} {r place n : ℕ} {o : OpLine} → StandsNext s A r place n → op_at s n ≡ Some o
    → IsOwn s A o.rank o.path n o
own-next {s} {A} {n = n} {o} stands is = record {
  own = ap (own_op o.rank o.path) is ∙ (rw (eq-eqb o.rank o.rank refl, (bytes_eq-Decides o.path o.path).1 refl) refl);
  from = IsOpenFrom-next s o.rank o.path A n (comes_next stands) (ap rank_in is) (λ k own. own_op-rank o.rank o.path (op_at s k) own);
  within = (let inside = op_at-within s n o is in omega (arith, inside.1));
}

module _ {s : Job} {paths : List (List ℕ)} {states : List PathState} {answers : Given} {turns : Places} {tasks : List Task}
    {logs : List Log} {r : ℕ} (t : Stepped s paths states answers turns tasks logs r) where
  abbrev pub given : Answering
  given = answer_at answers.list

  abbrev pub list_then : List (ℕ × Answer)
  list_then = answers_with t.number t.answer answers.list

  abbrev pub given_then : Answering
  given_then = answer_at list_then

  abbrev pub states_then : List PathState
  states_then = set states t.place t.then

  abbrev pub tasks_after : List Task
  tasks_after = set tasks r t.task_then

  abbrev pub event : Event
  event = t.follows.event

  pub stands_next : StandsNext s given r (slice_index turns.places r) t.number
  stands_next = record { upto = t.held.upto r t.within; here = t.next }

  pub rank-is : t.line.rank ≡ r
  rank-is = grind (arith, common_steps, program-op)

  pub next-in : next_in turns r ≡ Some t.number
  next-in = ap (λ j. slice_get (program j r) (slice_index turns.places r)) t.held.same ∙ t.next

  pub not-answered : IsSome (given t.number) → ⊥
  not-answered given_one = absurd (true≢false (sym given_one ∙ ap is_some (unanswered stands_next)))

  pub is_own : IsOwn s given t.line.rank t.line.path t.number t.line
  is_own = own-next stands_next t.is

  pub stood : Stands s given turns.phase t.line.path t.was
  stood = t.held.each t.place t.line.path t.was t.at t.there

  pub client_stood : StandsForClient s given t.line.rank t.line.path t.was.owned t.client
  client_stood = subst (λ i. StandsForClient s given i t.line.path t.was.owned t.client) (sym rank-is) (stood.clients r t.client t.beside)

  pub looked_up : StandsForLookUp s given t.was.owned t.task
  looked_up = t.held.looked_up r t.task t.number t.place t.line t.was t.midst next-in t.is t.at t.there

  pub pends : pending_lines t.client ≡ pending s given t.line.rank t.line.path t.number
  pends =
      let lt = is_own.within in
      client_stood.pending ∙ over_answers-until _ _ s t.line.rank t.line.path given t.number (past_lines s) (omega arith) is_own.from
