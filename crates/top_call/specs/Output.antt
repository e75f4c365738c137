-- What the output took of the text that goes with a status.
use Rattle.std.specs.Prelude.{◌≡◌, ◌⊎◌, ℕ, List, Option}
use Rattle.fs_types.specs.declared.status.Status.{Status}
use Rattle.fs_types.specs.declared.status.Status.TheVariants as statuses
use Rattle.fs_dev.specs.Told.{then_bytes}
use Rattle.fs_dev.specs.Sink.{TookFront}
use Rattle.top_call.specs.CommandAnswer.{IsAnswer}

-- the text of a status was written, whole
pub record IsWritten (words : List (List ℕ)) (input : List ℕ) (status : Status)
    (had held : Option (List ℕ)) : Type 0 where
  pub written : List ℕ
  pub answer : IsAnswer words input status written
  pub took : held ≡ then_bytes had written

-- the text of some status was to be written, and the output took some of its first bytes, not all
pub record IsCutOff (words : List (List ℕ)) (input : List ℕ) (had held : Option (List ℕ))
    : Type 0 where
  pub status : Status
  pub written : List ℕ
  pub answer : IsAnswer words input status written
  pub took : TookFront written had held

-- what the output took, for each status
abbrev pub IsOutput
    : List (List ℕ) → List ℕ → Status → Option (List ℕ) → Option (List ℕ) → Type 0
IsOutput words input statuses.Done had held = IsWritten words input statuses.Done had held
IsOutput words input statuses.Usage had held = IsWritten words input statuses.Usage had held
IsOutput words input statuses.Refused had held = IsWritten words input statuses.Refused had held
IsOutput words input statuses.ReadFault had held = held ≡ had
IsOutput words input statuses.WriteFault had held = IsCutOff words input had held
IsOutput words input statuses.Memory had held = held ≡ had

-- a text was written whole, and the status stands, or the output failed
abbrev pub WritesAnswer : Status → List ℕ → Status → Option (List ℕ) → Option (List ℕ) → Type 0
WritesAnswer status text result had held =
    ((result ≡ status) × (held ≡ then_bytes had text))
    ⊎ ((result ≡ statuses.WriteFault) × TookFront text had held)
