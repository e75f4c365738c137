use Rattle.std.proofs.Common.{◌≡◌, take, find}
use Rattle.fs_types.specs.Fragments.{piece_eq}
use Rattle.fs_types.specs.Pieces.{Piece}
use Rattle.piece_table.specs.PieceTable.{hold_of}
use Rattle.core_machine.proofs.pins.table_of.Given as goal

abbrev pub invariant-loop-hold : goal.invariant-loop-hold
invariant-loop-hold l = (q : Piece) → hold_of l.found q ≡ find (λ h. piece_eq h.piece q) (take l.hold-index l.holds)
