-- What a client keeps for a path: whether it has opened it, what is pending there, and what it noted of it.
use Rattle.std.specs.Prelude.{◌≡◌, ◌≢◌, ℕ, Bool, Option, None, Some, List}
use Rattle.piece_table.specs.HeldSpans.{Held}
use Rattle.client_files.specs.Kept.{is_open_in, noted_in, path_in}
use Rattle.client_files.specs.declared.noted.Noted.{Noted}
use Rattle.client_map.specs.Kept.{pending_end, pending_in}
use Rattle.fs_types.specs.declared.answer.Answer.{Answer}
use Rattle.fs_script.specs.Vocabulary.{after_answer}
use Rattle.fs_script.specs.declared.line.Op.{Op}
use Rattle.core_machine.specs.declared.client.Client.{Client}
use Rattle.core_machine.specs.declared.plain_hold.PlainHold.{PlainHold}

-- what a client wrote to a path and hasn't committed: the lines, in order; what they put over one another; and where the last of
-- their bytes ends
pub record Pending : Type 0 where
  pub lines : List ℕ
  pub held : Held PlainHold
  pub end : ℕ

-- what a client keeps for a path
pub record ClientPath : Type 0 where
  pub is_open : Bool
  pub pending : Pending
  pub noted : Noted

-- what a client has pending on a path, if these lines wrote it
abbrev pub pending_of : Client → List ℕ → List ℕ → Pending
pending_of c p lines = record {
  lines = lines;
  held = pending_in c.pending p;
  end = pending_end (pending_in c.pending p).fragments;
}

-- and all that it keeps for the path
abbrev pub own_of : Client → List ℕ → List ℕ → ClientPath
own_of c p lines = record { is_open = is_open_in c.files p; pending = pending_of c p lines; noted = noted_in c.files p }

-- the lines of which something is pending once line n, the operation op, had an event with this answer, if it has one
abbrev pub lines_then : Op → ℕ → List ℕ → Option Answer → List ℕ
lines_then op n lines None = lines
lines_then op n lines (Some a) = after_answer op a n lines

-- whatever a client keeps for one path now, for every other it keeps what it kept
pub record ChangesOwn (old new : Client) (p : List ℕ) : Type 0 where
  pub chunk : new.pending.chunk ≡ old.pending.chunk
  pub files : (q : List ℕ) → q ≢ p → path_in new.files q ≡ path_in old.files q
  pub pending : (q : List ℕ) → q ≢ p → pending_in new.pending q ≡ pending_in old.pending q
