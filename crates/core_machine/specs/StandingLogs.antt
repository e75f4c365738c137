-- When the clients' logs stand for the answers so far, and for how often each piece is held.
use Rattle.std.specs.Prelude.{◌≡◌, ℕ, ◌<◌, ◌+◌, List, length, IsSome, None, Some, slice_get}
use Rattle.slot_plain.specs.Log.{Log}
use Rattle.slot_plain.specs.Slots.{Slot, StoredPiece}
use Rattle.fs_script.specs.Vocabulary.{Job, Piece, need, rank_at, Answering}
use Rattle.core_machine.specs.Logs.{AreInOneSlot, IsInMemory, slot_in, stored_part}

-- a log of client r: of the job's shape, all in memory, and no call on its device failed
pub record IsLogOf (s : Job) (r : ℕ) (log : Log) : Type 0 where
  pub rank : log.rank ≡ r
  pub memory : IsInMemory s log
  pub slots : length log.slots ≡ s.shape.shmem + s.shape.spill
  pub calm : log.faults ≡ 0

-- a slot that has a piece of an answered line of client r, with all of its bytes, and is held so often
pub record StandsForSlot (s : Job) (A : Answering) (count r : ℕ) (p : StoredPiece) (slot : Slot) : Type 0 where
  pub stored : p ≡ stored_part s p.id
  pub by_client : rank_at s p.id.line ≡ Some r
  pub answered : IsSome (A p.id.line)
  pub part : p.id.part < need s p.id.line
  pub held : 0 < slot.count
  pub count_is : slot.count ≡ count

-- the logs, one for each client: each slot is free, or held as often as its piece is, and no piece is in two slots
pub record StandsForLogs (s : Job) (A : Answering) (counts : ℕ → Piece → ℕ) (logs : List Log) : Type 0 where
  pub sized : length logs ≡ s.shape.clients
  pub each : (r : ℕ) (log : Log) → slice_get logs r ≡ Some log → IsLogOf s r log
  pub slots : (r i : ℕ) (p : StoredPiece) → (slot_in logs r i).piece ≡ Some p → StandsForSlot s A (counts r p.id) r p (slot_in logs r i)
  pub free : (r i : ℕ) → (slot_in logs r i).piece ≡ None → (slot_in logs r i).count ≡ 0
  pub once : AreInOneSlot logs
