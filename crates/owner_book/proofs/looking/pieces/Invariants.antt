use Rattle.fs_types.proofs.Common.{◌≡◌, take}
use Rattle.owner_book.specs.Lookups.{pieces_named}
use Rattle.owner_book.proofs.looking.pieces.Given as goal

-- the pieces are those that the fragments so far name
abbrev pub invariant-loop-f : goal.invariant-loop-f
invariant-loop-f l = l.pieces.keys ≡ pieces_named (take l.f-index l.frags)
