-- Whose turn it may be: how far each client has come, and the phase that the run is in.
use Rattle.std.specs.Prelude.{◌≡◌, if◌then◌else◌, ℕ, ◌≤◌, ◌<◌, ◌==◌, Bool, false, List, [], filter, slice_index, slice_set, ◌+◌, Option, Some, None}
use Rattle.std.specs.Prelude.{slice_get}
use Rattle.std.specs.List.{range_with_len}
use Rattle.fs_script.specs.Vocabulary.{Job, phase, program}

pub record Places : Type 0 where
  pub job : Job
  -- for each client, how many lines of its program were answered
  pub places : List ℕ
  -- the phase that the run is in
  pub phase : ℕ

-- the line of its program that a client does next
abbrev pub next_in : Places → ℕ → Option ℕ
next_in v r = slice_get (program v.job r) (slice_index v.places r)

-- client r has done one more line
abbrev pub after_line : Places → ℕ → Places
after_line v r = record v { places = slice_set v.places r (slice_index v.places r + 1) }

-- once an event of client r is over, which ended its line or didn't
abbrev pub turns_then : Bool → ℕ → Places → Places
turns_then ended r v = if ended then after_line v r else v

-- whether there is such a line, and it is of phase k
abbrev pub is_of_phase : Job → ℕ → Option ℕ → Bool
is_of_phase s k None = false
is_of_phase s k (Some n) = phase s n == k

-- the clients whose next line is of the run's phase, ascending
abbrev pub going : Places → List ℕ
going v = filter (λ r. is_of_phase v.job v.phase (next_in v r)) (range_with_len 0 v.job.shape.clients)

-- no client's next line is of an earlier phase than the run's, and a client that waits is held back by one that goes
pub record IsInPhase (v : Places) : Type 0 where
  pub none_earlier : (r n : ℕ) → next_in v r ≡ Some n → v.phase ≤ phase v.job n
  pub none_left : going v ≡ [] → (r : ℕ) → r < v.job.shape.clients → next_in v r ≡ None
