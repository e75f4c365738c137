-- What a host of files and devices is, and what each call on it may change.
use Rattle.std.specs.Prelude.{ℕ, ◌≡◌, ◌≢◌, List, ◌∷◌, Option, Some}
use Rattle.std.specs.Option.{option_map}
use Rattle.fs_dev.specs.Told.{then_bytes}
use Rattle.fs_types.specs.Faults.{HasRisen}
use Rattle.fs_dev.specs.Source.{IsReadOf, IsUnread}
use Rattle.fs_dev.specs.declared.refused.RefusedCall.{RefusedCall}
use Rattle.fs_dev.specs.declared.refused.RefusedCall.TheVariants.{Read, Write}

-- a host, with devices of the type D
pub record HostState (D : Type 0) : Type 0 where
  -- failed calls of `device`, `source` and `sink`, of `read`, and of `write`
  pub host_faults : ℕ
  pub read_faults : ℕ
  pub write_faults : ℕ
  -- the last failed call of these
  pub refused : Option RefusedCall
  -- the name of the current source, and the bytes that it has left, where they are told
  pub source : Option (List ℕ)
  pub left : Option (List ℕ)
  -- the name of the current sink
  pub sink : Option (List ℕ)
  -- by name all bytes of a source, and the bytes that a sink took, where they are told
  pub contents : List ℕ → Option (List ℕ)
  pub took : List ℕ → Option (List ℕ)
  -- the ranks for which a device was given, the last one first, and by rank the device that was
  -- taken back
  pub given : List ℕ
  pub kept : ℕ → Option D

-- a device was given for a rank
abbrev pub GaveDevice : {D : Type 0} → ℕ → HostState D → HostState D → Type 0
GaveDevice rank old new = new ≡ record old { given = rank ∷ old.given }

-- the host keeps a device by its rank, and nothing else changed
pub record TookBack {D : Type 0} (rank : ℕ) (dev : D) (old new : HostState D) : Type 0 where
  pub kept : new.kept rank ≡ Some dev
  pub others : (other : ℕ) → other ≢ rank → new.kept other ≡ old.kept other
  pub rest : new ≡ record old { kept = new.kept }

-- the named source is the current one, from its first byte on, and nothing else changed
abbrev pub OpenedSource : {D : Type 0} → List ℕ → HostState D → HostState D → Type 0
OpenedSource name old new = new ≡ record old { source = Some name; left = old.contents name }

-- the named sink is the current one, and nothing else changed
abbrev pub OpenedSink : {D : Type 0} → List ℕ → HostState D → HostState D → Type 0
OpenedSink name old new = new ≡ record old { sink = Some name }

-- a call of `device`, `source` or `sink` failed, and nothing else changed
pub record RefusedTo {D : Type 0} (call : RefusedCall) (old new : HostState D) : Type 0 where
  pub risen : HasRisen old.host_faults new.host_faults
  pub rest : new ≡ record old { host_faults = new.host_faults; refused = Some call }

-- the current source gave n bytes, and nothing else changed
pub record ReadFrom {D : Type 0} (n : ℕ) (buffer filled : List ℕ) (old new : HostState D)
    : Type 0 where
  pub given : IsReadOf n old.left new.left buffer filled
  pub rest : new ≡ record old { left = new.left }

-- a read of the current source failed, and nothing else changed
pub record RefusedRead {D : Type 0} (buffer filled : List ℕ) (old new : HostState D) : Type 0 where
  pub risen : HasRisen old.read_faults new.read_faults
  pub unread : IsUnread old.left new.left buffer filled
  pub rest : new
      ≡ record old { read_faults = new.read_faults; refused = option_map Read old.source }

-- the current sink took these bytes, and nothing else changed
pub record WroteTo {D : Type 0} (bytes : List ℕ) (old new : HostState D) : Type 0 where
  pub current : (name : List ℕ) → old.sink ≡ Some name
      → new.took name ≡ then_bytes (old.took name) bytes
  pub others : (name : List ℕ) → old.sink ≢ Some name → new.took name ≡ old.took name
  pub rest : new ≡ record old { took = new.took }

-- a write to the current sink failed, and nothing else changed
pub record RefusedWrite {D : Type 0} (old new : HostState D) : Type 0 where
  pub risen : HasRisen old.write_faults new.write_faults
  pub rest : new
      ≡ record old { write_faults = new.write_faults; refused = option_map Write old.sink }
