-- Runs of bytes that can be fetched by the holds of their pieces, and what bytes are there once some were.
use Rattle.std.specs.Prelude.{◌≡◌, ℕ, ◌<◌, ◌≤◌, List, length, slice_index, Option, All, AllPairs, IsSome}
use Rattle.fs_types.specs.Fragments.{end_of}
use Rattle.fs_types.specs.FragmentMarks.{mark_at}
use Rattle.piece_table.specs.HeldSpans.{LiesIn}
use Rattle.fs_script.specs.Vocabulary.{Fragment, Job, Piece, marked_byte}
use Rattle.core_machine.specs.declared.plain_hold.PlainHold.{PlainHold}

-- runs in order within so many bytes, each in a piece that has a hold
pub record AreFetchable (hold_at : Piece → Option PlainHold) (len : ℕ) (runs : List Fragment) : Type 0 where
  pub in_order : AllPairs (λ f g. end_of f ≤ g.at) runs
  pub ends : All (λ f. end_of f ≤ len) runs
  pub named : All (λ f. IsSome (hold_at f.piece)) runs
  pub within : All (LiesIn (λ h. h.bytes) hold_at) runs

-- at each place stands the byte of these runs' mark there, and a zero where they have none
abbrev pub HasBytes : Job → List Fragment → List ℕ → Type 0
HasBytes s runs bytes = (k : ℕ) → k < length bytes → slice_index bytes k ≡ marked_byte s (mark_at runs k)
