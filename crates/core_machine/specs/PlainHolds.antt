-- Plain holds as holds of pieces: each is ready.
use Rattle.std.specs.Prelude.{true}
use Rattle.piece_table.specs.HeldSpans.{AreHeld, Held}
use Rattle.core_machine.specs.declared.plain_hold.PlainHold.{PlainHold}

-- each piece that the fragments name has a hold of its own, and no other has one
abbrev pub AreHeldPlain : Held PlainHold → Type 0
AreHeldPlain x = AreHeld (λ _. true) (λ h. h.piece) (λ h. h.bytes) x
