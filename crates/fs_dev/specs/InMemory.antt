-- What the sources and sinks in memory hold, and which of their calls fail.
use Rattle.std.specs.Prelude.{ℕ, ◌==◌, min, Bool, ◌&&◌, ◌||◌, not, List, length, drop, nat_eq, if◌then◌else◌}
use Rattle.std.specs.List.{list_any}
use Rattle.fs_types.specs.Faults.{next_count}

-- which calls of an object fail, by their numbers from 1, and how many there were and have failed
pub record Schedule : Type 0 where
  pub fails : List ℕ
  pub calls : ℕ
  pub faults : ℕ

-- the calls of these numbers will fail
abbrev pub fresh_schedule : List ℕ → Schedule
fresh_schedule fails = record { fails = fails; calls = 0; faults = 0 }

-- the next call is one that fails
abbrev pub is_due : Schedule → Bool
is_due schedule = list_any (λ number. nat_eq number (next_count schedule.calls)) schedule.fails

-- after a call, which failed or not
abbrev pub after_call : Schedule → Bool → Schedule
after_call schedule failed = record {
  fails = schedule.fails;
  calls = next_count schedule.calls;
  faults = if failed then next_count schedule.faults else schedule.faults;
}

-- the bytes that a source has left, and the most that it gives at a time
pub record Portions : Type 0 where
  pub left : List ℕ
  pub step : ℕ

-- how many bytes a source gives at once into a buffer of this length
abbrev pub portion_len : Portions → ℕ → ℕ
portion_len source room = min (min source.step room) (length source.left)

-- n bytes were given
abbrev pub after_portion : Portions → ℕ → Portions
after_portion source n = record { left = drop n source.left; step = source.step }

-- a source some of whose calls fail
pub record FaultySource : Type 0 where
  pub text : Portions
  pub schedule : Schedule

-- a sink with the bytes that it took, room for some more, and the most that it takes at a time
pub record FaultySink : Type 0 where
  pub held : List ℕ
  pub room : ℕ
  pub step : ℕ
  pub schedule : Schedule

-- how many of these bytes a sink takes at once
abbrev pub taken_len : FaultySink → List ℕ → ℕ
taken_len sink bytes = min (min sink.step (length bytes)) sink.room

-- a sink refuses these bytes: the call is one that fails, or there are some and no room is left
abbrev pub refuses : FaultySink → List ℕ → Bool
refuses sink bytes = is_due sink.schedule || (not (length bytes == 0) && sink.room == 0)
