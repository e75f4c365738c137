-- How what an event changes of what is kept shows in the clients' logs: each slot is held more or less often by as much as what
-- is kept holds its piece more or less often, and is free where nothing holds it any more.
use Rattle.std.specs.Prelude.{◌≡◌, ℕ, ◌+◌, ◌==◌, nat_lt, Bool, ◌&&◌, List, Some, None, slice_get, slice_set, MatchBool, if◌then◌else◌}
use Rattle.slot_plain.specs.Log.{Log}
use Rattle.slot_plain.specs.Slots.{Slot, StoredPiece}
use Rattle.fs_script.specs.Vocabulary.{Job, Piece}
use Rattle.core_machine.specs.declared.plain_hold.PlainHold.{PlainHold}
use Rattle.core_machine.specs.Logs.{FillsLine, SameFrames, slot_in}

-- a slot that has a piece is held by so much more or less, and is free where nothing holds it
pub record SettlesSlot (before after : ℕ) (p : StoredPiece) (old new : Slot) : Type 0 where
  pub count : new.count + before ≡ old.count + after
  pub piece : new.piece ≡ (if nat_lt 0 new.count then Some p else None)

-- each slot is held by as much more or less as its piece is
pub record Settles (before after : Piece → ℕ) (old new : List Log) : Type 0 where
  pub frames : SameFrames old new
  pub free : (r i : ℕ) → (slot_in old r i).piece ≡ None → slot_in new r i ≡ slot_in old r i
  pub held : (r i : ℕ) (p : StoredPiece) → (slot_in old r i).piece ≡ Some p
      → SettlesSlot (before p.id) (after p.id) p (slot_in old r i) (slot_in new r i)

-- ---- an event

-- line n is put into client r's log, and no other log changes
pub record FillsLog (s : Job) (n r : ℕ) (old new : List Log) : Type 0 where
  pub was : Log
  pub now : Log
  pub there : slice_get old r ≡ Some was
  pub changed : new ≡ slice_set old r now
  pub holds : List PlainHold
  pub fills : FillsLine s n was now holds

-- the logs of an event of client r's line n: where it fills slots, those of its pieces are held once, by the line; then all is
-- settled, by what was kept and held them, and what is kept and holds them now
pub record LogsFollow (s : Job) (n r : ℕ) (fills : Bool) (before after : Piece → ℕ) (old new : List Log) : Type 0 where
  pub filled : List Log
  pub fill : MatchBool fills (FillsLog s n r old filled) (filled ≡ old)
  pub settles : Settles (λ q. if fills && q.line == n then 1 else before q) after filled new
