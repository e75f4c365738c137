-- What a read pins: a hold of each piece that its runs are of, and how often the runs name it.
use Rattle.std.specs.Prelude.{◌≡◌, ℕ, ◌+◌, ◌-◌, ◌==◌, ◌&&◌, List, [], ◌∷◌, Option, Some, None, is_some, IfSome, MatchBool, if◌then◌else◌}
use Rattle.std.specs.Option.{option_or}
use Rattle.fs_types.specs.Fragments.{fragment_count, piece_eq}
use Rattle.piece_table.specs.HeldSpans.{is_named}
use Rattle.piece_table.specs.PieceTable.{Pieces, hold_of, number_of}
use Rattle.slot_plain.specs.Log.{Log}
use Rattle.slot_plain.specs.Slots.{StoredPiece}
use Rattle.fs_script.specs.Vocabulary.{Fragment, Piece}
use Rattle.core_machine.specs.declared.plain_hold.PlainHold.{PlainHold}
use Rattle.core_machine.specs.Logs.{IsHeld, PinsAll, ReleasesAll, slot_in}
use Rattle.core_machine.specs.Settling.{Settles}

-- how often the pins hold a piece
abbrev pub pin_count : Pieces PlainHold → Piece → ℕ
pin_count pins q = if is_some (hold_of pins q) then 1 else 0

-- the hold of a piece: the one that was found, or else the client's own
abbrev pub either_hold : (Piece → Option PlainHold) → (Piece → Option PlainHold) → Piece → Option PlainHold
either_hold found own q = option_or (found q) (own q)

-- nothing holds any piece
abbrev pub no_count : Piece → ℕ
no_count q = 0

-- the slot of a hold is held, and has this piece
pub record HasSlot (logs : List Log) (q : Piece) (h : PlainHold) : Type 0 where
  pub held : IsHeld logs h
  pub stored : StoredPiece
  pub piece : (slot_in logs h.rank h.slot).piece ≡ Some stored
  pub id : stored.id ≡ q

-- each of these holds is of such a slot
abbrev pub HaveSlots : List Log → (Piece → Option PlainHold) → Type 0
HaveSlots logs hold_at = (q : Piece) (h : PlainHold) → hold_at q ≡ Some h → HasSlot logs q h

-- one run more names piece q: where none did before, the hold of the piece came in and its slot is held once more
pub record PinsOnce (hold_at : Piece → Option PlainHold) (q : Piece) (old new : Pieces PlainHold) (was now : List Log) : Type 0 where
  pub numbers : (x : Piece) → number_of new x ≡ number_of old x + (if piece_eq q x then 1 else 0)
  pub holds : (x : Piece) → hold_of new x ≡ (if piece_eq q x then hold_at q else hold_of old x)
  pub slots : MatchBool (is_some (hold_of old q)) (now ≡ was) (IfSome (hold_at q) (λ h. PinsAll (h ∷ []) was now))

-- one run fewer names piece q: where no other does, the hold of the piece went out and its slot is held once less
pub record LetsGoOnce (q : Piece) (old new : Pieces PlainHold) (was now : List Log) : Type 0 where
  pub numbers : (x : Piece) → number_of new x ≡ number_of old x - (if piece_eq q x then 1 else 0)
  pub holds : (x : Piece) → hold_of new x ≡ (if piece_eq q x && number_of old q == 1 then None else hold_of old x)
  pub slots : MatchBool (number_of old q == 1) (IfSome (hold_of old q) (λ h. ReleasesAll (h ∷ []) was now)) (now ≡ was)

-- the pins are of the pieces of these runs, by these holds, and count the runs of each; by so much more or less than before
-- the slots of the pieces are held
pub record ArePins (before : Piece → ℕ) (hold_at : Piece → Option PlainHold) (runs : List Fragment) (pins : Pieces PlainHold)
    (was now : List Log) : Type 0 where
  pub numbers : (q : Piece) → number_of pins q ≡ fragment_count q runs
  pub holds : (q : Piece) → hold_of pins q ≡ (if is_named runs q then hold_at q else None)
  pub slots : Settles before (pin_count pins) was now
