-- How often a piece is held at the moment that the core stands for, by what is kept.
use Rattle.fs_types.proofs.Common.{◌≡◌, ℕ, ◌+◌, ◌<◌, Bool, cond, List, length, slice_get, Some, refl, ap, ◌∙◌, arith}
use Rattle.fs_types.proofs.Common.{slice_get-get_or}
use Rattle.slot_plain.specs.Log.{Log}
use Rattle.fs_script.specs.Vocabulary.{Given, answer_at, Job, Piece, op_at, ArePaths}
use Rattle.core_machine.specs.Vocabulary.{OpLine, PathState, ClientPath, Task, Places, Moment, Stands, IsTask, holds_of, keeps, moment_of}
use Rattle.fs_script.proofs.CallerLemmas.{slice_get-some}
use Rattle.core_machine.proofs.Refines.Owned.{owned-kept}
use Rattle.core_machine.proofs.Refines.Readers.{readers-kept, task_count}

-- what is kept stands for the answers so far
pub record AllStand (s : Job) (paths : List (List ℕ)) (states : List PathState) (answers : Given) (now : ℕ) (places : List ℕ) (tasks : List Task)
    : Type 0 where
  pub named : ArePaths s paths
  pub chunk : 0 < s.shape.chunk
  pub clients : (n : ℕ) (o : OpLine) → op_at s n ≡ Some o → o.rank < s.shape.clients
  pub kept : length states ≡ length paths
  pub each : (i : ℕ) (p : List ℕ) (x : PathState) → slice_get paths i ≡ Some p → slice_get states i ≡ Some x
      → Stands s (answer_at answers.list) now p x
  pub tasked : length places ≡ length tasks
  pub tasks_whole : (r : ℕ) (t : Task) → slice_get tasks r ≡ Some t → IsTask s t

-- where what is kept for a line's path and its client is found
pub record FoundFor (paths : List (List ℕ)) (states : List PathState) (o : OpLine) : Type 0 where
  pub place : ℕ
  pub state : PathState
  pub client : ClientPath
  pub at : slice_get paths place ≡ Some o.path
  pub there : slice_get states place ≡ Some state
  pub beside : slice_get state.clients o.rank ≡ Some client

module _ {s : Job} {paths : List (List ℕ)} {states : List PathState} {answers : Given} (turns : Places) {tasks : List Task} (logs : List Log)
    (spent : Bool) (now : ℕ) (all : AllStand s paths states answers now turns.places tasks) where
  abbrev moment : Moment
  moment = moment_of s paths states answers turns tasks logs spent

  pub found-for : (n : ℕ) (o : OpLine) → op_at s n ≡ Some o → FoundFor paths states o
  found-for n o is =
      let named = all.named.each o.path (record { line = n; op = o; is = is; on = refl }) in
      let at = slice_get-get_or paths named.0 o.path named.1 ∙ ap Some named.2 in
      let inside = named.1 in
      let size = all.kept in
      let x = slice_get-some states named.0 (omega (arith, inside, size)) in
      let stands = all.each named.0 o.path x.0 at x.1 in
      let count = stands.sized in
      let below = all.clients n o is in
      let k = slice_get-some x.0.clients o.rank (omega (arith, below, count)) in
      record { place = named.0; state = x.0; client = k.0; at = at; there = x.1; beside = k.1 }

  pub holds-kept : (q : Piece) (o : OpLine) → op_at s q.line ≡ Some o → (f : FoundFor paths states o)
      → holds_of moment o.rank q ≡ cond (keeps f.state.owned f.client q) 1 0 + task_count q tasks
  holds-kept q o is f =
      (λ i. cond (owned-kept {now = now} paths states all.named all.chunk all.kept all.each q o is f.place f.state f.client f.at f.there f.beside i)
      1 0
      + readers-kept s turns.places tasks q all.tasked all.tasks_whole i)
