-- The slots that a simulated job reports: in each log exactly the client's live and pending pieces take one.
use Rattle.std.specs.Prelude.{◌≡◌, ℕ, ◌+◌, ◌-◌, length, map}
use Rattle.std.specs.List.{range_with_len}
use Rattle.fs_script.specs.Vocabulary.{Job, Report, SlotLine, answers_of, journal_of, live_or_pending}

-- how many live and pending pieces client r has in the end
abbrev pub pieces_left : Job → Report → ℕ → ℕ
pieces_left s R r = length (live_or_pending s (answers_of R) (journal_of R.journals) r)

-- the line of client r where each of these takes one slot and the others are free; no call on a device can fail yet
abbrev pub exact_slots : Job → Report → ℕ → SlotLine
exact_slots s R r = record {
  rank = r;
  held = pieces_left s R r;
  free = s.shape.shmem + s.shape.spill - pieces_left s R r;
  faults = 0;
}

-- the report has this line of each client, by rank, and no other
abbrev pub AreExactSlots : Job → Report → Type 0
AreExactSlots s R = R.slots ≡ map (exact_slots s R) (range_with_len 0 s.shape.clients)
