-- What an event leaves as it was of the other clients: all that they keep, and what they are in the midst of. So an event that
-- empties another client's pending writes doesn't follow.
use Rattle.fs_types.proofs.Common.{◌≡◌, ◌≢◌, ◌∙◌, ℕ, List, [], Option, Some, ap, sym, slice_get, same_Some}
use Rattle.fs_script.proofs.CallerLemmas.{slice_get-set_other}
use Rattle.slot_plain.specs.Log.{Log}
use Rattle.client_map.specs.Kept.{pending_in}
use Rattle.core_machine.specs.Follows.{FollowsAt}
use Rattle.core_machine.specs.Vocabulary.{Book, KeptBoard, KeptClient, PlainHold, Task, Op}
use Rattle.fs_script.specs.Vocabulary.{Answer, Job}

module _ {p : List ℕ} {s : Job} {n : ℕ} {op : Op} {r : ℕ} {books books' : List (Book PlainHold)} {board : KeptBoard}
    {clients clients' : List KeptClient} {tasks tasks' : List Task} {logs logs' : List Log} {lines : List ℕ} {a : Option Answer}
    (event : FollowsAt p s n op r books books' board clients clients' tasks tasks' logs logs' lines a) (q : ℕ) (other : q ≢ r) where
  pub kept_by_others : slice_get clients' q ≡ slice_get clients q
  kept_by_others = ap (λ xs. slice_get xs q) event.changed ∙ slice_get-set_other clients r q event.now other

  pub others_go_on : slice_get tasks' q ≡ slice_get tasks q
  others_go_on = ap (λ xs. slice_get xs q) event.goes_on ∙ slice_get-set_other tasks r q event.task_now other

  -- a client that has writes pending on a path and then none
  pub none_emptied : (k l : KeptClient) (path : List ℕ) → slice_get clients q ≡ Some k → slice_get clients' q ≡ Some l
      → (pending_in k.pending path).fragments ≢ [] → (pending_in l.pending path).fragments ≡ [] → ⊥
  none_emptied k l path before after pending emptied =
      pending (ap (λ (c : KeptClient). (pending_in c.pending path).fragments) (same_Some k l (sym before ∙ sym kept_by_others ∙ after)) ∙ emptied)
